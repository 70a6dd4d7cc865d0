-- Sums over lists, and what holds of each element.
use Rattle.std.proofs.Common.{Bool, List, [], ap, arith, false, length, map, refl, subst, suc, sym, true, zero, ℕ, ◌&&◌, ◌*◌, ◌++◌, ◌+◌, ◌∷◌, ◌≡◌, ◌≤◌}
use Rattle.counting.proofs.Booleans.{cond_both}
use Rattle.std.proofs.lemmas.List.Elements.{All-append, All-head, All-map, All-nil, All-tail, All-weaker, recursion_from_All}
use Rattle.std.proofs.lemmas.List.Sums.{sum_by-append, sum_by-cons}
use Rattle.std.specs.List.{AllByRecursion, flat_map, sum_by}
use Rattle.std.specs.Prelude.{All, filter}
use Rattle.counting.proofs.Counts.{sum_below-add, sum_below-same, sum_below-zero}
use Rattle.counting.specs.Sums.{join_below, one, sum_below}

pub each_all : {X : Type 0} (P : X → Type 0) → ((x : X) → P x) → (xs : List X) → AllByRecursion P xs
each_all P f [] = tt
each_all P f (x ∷ xs) = (f x, each_all P f xs)

module _ {X : Type 0} where
  pub sum_by-same : (f g : X → ℕ) (xs : List X) → AllByRecursion (λ x. f x ≡ g x) xs → sum_by f xs ≡ sum_by g xs
  sum_by-same f g [] h = refl
  sum_by-same f g (x ∷ xs) h = omega (arith, sum_by-cons f x xs, sum_by-cons g x xs, sum_by-same f g xs h.1, h.0)

  pub sum_by-zero : (f : X → ℕ) (xs : List X) → AllByRecursion (λ x. f x ≡ 0) xs → sum_by f xs ≡ 0
  sum_by-zero f [] h = refl
  sum_by-zero f (x ∷ xs) h = omega (arith, sum_by-cons f x xs, sum_by-zero f xs h.1, h.0)

  -- two sums whose terms agree at each element with P
  pub sum_by-agree : (P : X → Type 0) (f g : X → ℕ) (xs : List X) → All P xs → ((x : X) → P x → f x ≡ g x) → sum_by f xs ≡ sum_by g xs
  sum_by-agree P f g xs all h = sum_by-same f g xs (recursion_from_All (λ x. f x ≡ g x) xs (All-weaker P (λ x. f x ≡ g x) h xs all))

  pub sum_by-none : (P : X → Type 0) (f : X → ℕ) (xs : List X) → All P xs → ((x : X) → P x → f x ≡ 0) → sum_by f xs ≡ 0
  sum_by-none P f xs all h = sum_by-zero f xs (recursion_from_All (λ x. f x ≡ 0) xs (All-weaker P (λ x. f x ≡ 0) h xs all))

  pub sum_by-single : (f : X → ℕ) (x : X) → sum_by f (x ∷ []) ≡ f x
  sum_by-single f x = omega (arith, sum_by-cons f x [])

  pub sum_by-add : (f g : X → ℕ) (xs : List X) → sum_by (λ x. f x + g x) xs ≡ sum_by f xs + sum_by g xs
  sum_by-add f g [] = refl
  sum_by-add f g (x ∷ xs) = omega (arith, sum_by-cons (λ x. f x + g x) x xs, sum_by-cons f x xs, sum_by-cons g x xs, sum_by-add f g xs)

  pub sum_by-mul : (c : ℕ) (f : X → ℕ) (xs : List X) → sum_by (λ x. c * f x) xs ≡ c * sum_by f xs
  sum_by-mul c f [] = omega arith
  sum_by-mul c f (x ∷ xs) = omega (arith, sum_by-cons (λ x. c * f x) x xs, ap (λ k. c * k) (sum_by-cons f x xs), sum_by-mul c f xs)

  pub sum_by-join_below : (f : X → ℕ) (n : ℕ) (g : ℕ → List X) → sum_by f (join_below n g) ≡ sum_below n (λ i. sum_by f (g i))
  unfolding join_below sum_below
  sum_by-join_below f zero g = refl
  sum_by-join_below f (suc n) g = omega (arith, sum_by-append f (join_below n g) (g n), sum_by-join_below f n g)

  -- the order of two sums may be turned
  pub sum_by-sum_below : (f : ℕ → X → ℕ) (n : ℕ) (xs : List X) → sum_by (λ x. sum_below n (λ i. f i x)) xs ≡ sum_below n (λ i. sum_by (λ x. f i x) xs)
  sum_by-sum_below f n [] = sym (sum_below-zero n (λ i. 0) (λ i l. refl))
  sum_by-sum_below f n (x ∷ xs) = omega (
    arith,
    sum_by-cons (λ x. sum_below n (λ i. f i x)) x xs,
    sum_by-sum_below f n xs,
    sum_below-add n (λ i. f i x) (λ i. sum_by (λ x. f i x) xs),
    sum_below-same n (λ i. sum_by (λ x. f i x) (x ∷ xs)) (λ i. f i x + sum_by (λ x. f i x) xs) (λ i l. sum_by-cons (λ x. f i x) x xs),
  )

  pub sum_by-length : (xs : List X) → sum_by (λ x. 1) xs ≡ length xs
  sum_by-length [] = refl
  sum_by-length (x ∷ xs) = omega (arith, sum_by-cons (λ x. 1) x xs, sum_by-length xs)

  pub sum_by-mul-one : (c : ℕ) (xs : List X) → sum_by (λ x. c) xs ≡ c * length xs
  sum_by-mul-one c [] = omega arith
  sum_by-mul-one c (x ∷ xs) = omega (arith, sum_by-cons (λ x. c) x xs, sum_by-mul-one c xs)

module _ {X Y : Type 0} where
  pub sum_by-map : (f : Y → ℕ) (g : X → Y) (xs : List X) → sum_by f (map g xs) ≡ sum_by (λ x. f (g x)) xs
  sum_by-map f g [] = refl
  sum_by-map f g (x ∷ xs) = omega (arith, sum_by-cons f (g x) (map g xs), sum_by-cons (λ x. f (g x)) x xs, sum_by-map f g xs)

  pub sum_by-flat_map : (f : Y → ℕ) (g : X → List Y) (xs : List X) → sum_by f (flat_map g xs) ≡ sum_by (λ x. sum_by f (g x)) xs
  sum_by-flat_map f g [] = refl
  sum_by-flat_map f g (x ∷ xs) = omega (arith, sum_by-append f (g x) (flat_map g xs), sum_by-cons (λ x. sum_by f (g x)) x xs, sum_by-flat_map f g xs)

  pub sum_by-turn : (f : X → Y → ℕ) (xs : List X) (ys : List Y) → sum_by (λ x. sum_by (λ y. f x y) ys) xs ≡ sum_by (λ y. sum_by (λ x. f x y) xs) ys
  sum_by-turn f [] ys = sym (sum_by-zero (λ y. 0) ys (each_all (λ y. ◌≡◌ {A = ℕ} 0 0) (λ y. refl) ys))
  sum_by-turn f (x ∷ xs) ys = omega (
    arith,
    sum_by-cons (λ x. sum_by (λ y. f x y) ys) x xs,
    sum_by-turn f xs ys,
    sum_by-add (λ y. f x y) (λ y. sum_by (λ x. f x y) xs) ys,
    sum_by-same (λ y. sum_by (λ x. f x y) (x ∷ xs)) (λ y. f x y + sum_by (λ x. f x y) xs) ys (each_all _ (λ y. sum_by-cons (λ x. f x y) x xs) ys),
  )

pub one-and : (p q : Bool) → one (p && q) ≡ one p * one q
unfolding one
one-and true q = omega arith
one-and false q = omega arith

-- what holds of the images of elements with P
pub All-map_of : {X Y : Type 0} (P : X → Type 0) (Q : Y → Type 0) (f : X → Y) (xs : List X) → All P xs → ((x : X) → P x → Q (f x)) → All Q (map f xs)
All-map_of P Q f xs h g = All-map Q f xs (All-weaker P (λ x. Q (f x)) g xs h)

pub All-flat_map_of : {X Y : Type 0} (P : X → Type 0) (Q : Y → Type 0) (f : X → List Y) (xs : List X) → All P xs → ((x : X) → P x → All Q (f x)) → All Q (flat_map f xs)
All-flat_map_of P Q f [] h g = All-nil Q
All-flat_map_of P Q f (x ∷ xs) h g = All-append Q (f x) (flat_map f xs) (g x (All-head P x xs h)) (All-flat_map_of P Q f xs (All-tail P x xs h) g)

-- a product of sums
pub sum_by-product : {X Y : Type 0} (f : X → ℕ) (g : Y → ℕ) (xs : List X) (ys : List Y) → sum_by f xs * sum_by g ys ≡ sum_by (λ x. sum_by (λ y. f x * g y) ys) xs
sum_by-product f g [] ys = omega arith
sum_by-product f g (x ∷ xs) ys = omega (arith, ap (λ s. s * sum_by g ys) (sum_by-cons f x xs), sum_by-cons (λ x. sum_by (λ y. f x * g y) ys) x xs, sum_by-product f g xs ys, sum_by-mul (f x) g ys)

pub each-weaker : {X : Type 0} (P Q : X → Type 0) → ((x : X) → P x → Q x) → (xs : List X) → AllByRecursion P xs → AllByRecursion Q xs
each-weaker P Q f [] h = tt
each-weaker P Q f (x ∷ xs) h = (f x h.0, each-weaker P Q f xs h.1)

pub each_map : {X Y : Type 0} (f : X → Y) (P : X → Type 0) (Q : Y → Type 0) → ((x : X) → P x → Q (f x)) → (xs : List X) → AllByRecursion P xs → AllByRecursion Q (map f xs)
each_map f P Q g [] h = tt
each_map f P Q g (x ∷ xs) h = (g x h.0, each_map f P Q g xs h.1)

pub each-push : {X : Type 0} (P : X → Type 0) (xs : List X) (y : X) → AllByRecursion P xs → P y → AllByRecursion P (xs ++ y ∷ [])
each-push P [] y h p = (p, tt)
each-push P (x ∷ xs) y h p = (h.0, each-push P xs y h.1 p)

pub all_filter : {X : Type 0} (P Q : X → Type 0) (p : X → Bool) → ((x : X) → P x → p x ≡ true → Q x) → (xs : List X) → AllByRecursion P xs → AllByRecursion Q (filter p xs)
all_filter P Q p f [] h = tt
all_filter P Q p f (x ∷ xs) h = cond_both (p x) _ _ (AllByRecursion Q) (λ e. (f x h.0 e, all_filter P Q p f xs h.1)) (λ e. all_filter P Q p f xs h.1)

-- what holds of all holds of all that are left behind the first
pub left_after : {X : Type 0} (P : X → Type 0) (all : List X) (x : X) (rest : List X) → all ≡ x ∷ rest → All P all → All P rest
left_after P all x rest is each = let now : All P (x ∷ rest) = subst (All P) is each in All-tail P x rest now

-- sums whose terms are no larger
pub sum_by-le : {X : Type 0} (f g : X → ℕ) (xs : List X) → AllByRecursion (λ x. f x ≤ g x) xs → sum_by f xs ≤ sum_by g xs
sum_by-le f g [] h = omega arith
sum_by-le f g (x ∷ xs) h = omega (arith, h.0, sum_by-le f g xs h.1, sum_by-cons f x xs, sum_by-cons g x xs)
