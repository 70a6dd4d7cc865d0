-- Vectors by their entries, and the table of multiples.
use Rattle.std.proofs.Common.{List, [], ap, ap₂, arith, get_or, drop, inl, inr, length, map, subst, suc, sym, take, zero, ℕ, ◌%◌, ◌*◌, ◌++◌, ◌+◌, ◌-◌, ◌/◌, ◌<◌, ◌∙◌, ◌∷◌, true, ◌≡◌, ◌≢◌, ◌≤◌, ◌^◌}
use Rattle.std.proofs.Math.Nat.{pow-le-pow_right}
use Rattle.std.proofs.Math.Seq.{drop-cons}
use Rattle.counting.proofs.Booleans.{cases_eq}
use Rattle.std.proofs.lemmas.List.{append-nil, append_assoc, get_or-append-add, get_or_append_left, get_or-map, length-append, length-map, map-append, take_more}
use Rattle.std.proofs.lemmas.List.Elements.{All-from_recursion}
use Rattle.std.proofs.lemmas.Nat.{mul-add-lt}
use Rattle.std.specs.Prelude.{All}
use Rattle.counting.proofs.Counts.{join_below_more, join_below_none}
use Rattle.counting.specs.Sums.{join_below}
use Rattle.design_base.specs.Digits.{digits, number}
use Rattle.design_base.specs.Fields.{field_product, field_sum, has_field}
use Rattle.field_tables.proofs.Listed.{listed_field}
use Rattle.field_tables.proofs.Numbers.{digits_below, length-digits}
use Rattle.spaces.proofs.VectorSpaces.{combination-multiple, vector_below}
use Rattle.spaces.specs.Vectors.{combination, entrywise, multiple, multiples_below}

-- the first of the entries that are left
pub digits_next : (q n i x : ℕ) → i < n → digits q (n - i) x ≡ x % q ∷ digits q (n - (i + 1)) (x / q)
digits_next q n i x l = let more : n - i ≡ suc (n - (i + 1)) = omega arith in ap (λ m. digits q m x) more

pub digits_none : (q n i x : ℕ) → n ≤ i → digits q (n - i) x ≡ []
digits_none q n i x l = let none : n - i ≡ 0 = omega arith in ap (λ m. digits q m x) none

-- an entry in front of those that are summed
pub sum_next : (q : ℕ) (add : ℕ → ℕ → ℕ) (x y : List ℕ) (d : ℕ) → d < length x → d < length y →
    number q (entrywise add (drop d x) (drop d y)) ≡ add (get_or x d 0) (get_or y d 0) + q * number q (entrywise add (drop (d + 1) x) (drop (d + 1) y))
sum_next q add x y d l m = ap₂ (λ xs ys. number q (entrywise add xs ys)) (drop-cons x d 0 l) (drop-cons y d 0 m) ∙ ap (λ e. add (get_or x d 0) (get_or y d 0) + q * number q (entrywise add (drop e x) (drop e y))) next
  where
    next : suc d ≡ d + 1
    next = omega arith

-- a sum with one entry more is a vector
pub sum_small : (q i n first rest : ℕ) → 0 < q → i < n → first < q → rest < q ^ i → first + q * rest < q ^ n
sum_small q i n first rest pos l h g =
    let more : q ^ suc i ≤ q ^ n = pow-le-pow_right pos l in
    omega (arith, more, vector_below q i first rest h g)

-- the lists of one length that are joined
join_below-length : {X : Type 0} (m k : ℕ) (f : ℕ → List X) → ((t : ℕ) → length (f t) ≡ k) → length (join_below m f) ≡ m * k
unfolding join_below
join_below-length zero k f h = omega arith
join_below-length (suc m) k f h = omega (arith, length-append (join_below m f) (f m), join_below-length m k f h, h m)

join_below-at : {X : Type 0} (m k : ℕ) (f : ℕ → List X) → ((t : ℕ) → length (f t) ≡ k) → (t i : ℕ) (d : X) → t < m → i < k → get_or (join_below m f) (t * k + i) d ≡ get_or (f t) i d
unfolding join_below
join_below-at zero k f h t i d l g = absurd (omega arith)
join_below-at (suc m) k f h t i d l g = elim (cases_eq t m) [
  | inl e ↦ ap (λ s. get_or (join_below m f ++ f m) s d) (let s : t * k + i ≡ length (join_below m f) + i = omega (arith, join_below-length m k f h, ap (λ t. t * k) e) in s)
      ∙ get_or-append-add (join_below m f) (f m) i d ∙ ap (λ t. get_or (f t) i d) (sym e)
  | inr ne ↦ get_or_append_left (join_below m f) (f m) d (t * k + i) (within ne) ∙ join_below-at m k f h t i d (omega arith) g
]
  where
    within : t ≢ m → t * k + i < length (join_below m f)
    within ne = omega (arith, join_below-length m k f h, mul-add-lt t k i m (omega arith) g)

-- the entries of a multiple that is a combination with the vector 0
pub made_multiple : (q r n t x m : ℕ) (e : List ℕ) → has_field q ≡ true → r ≡ q → m ≡ combination (field_sum q) (field_product q) q n t x 0 0 → e ≡ digits r n m → e ≡ digits q n (multiple (field_product q) q n t x)
made_multiple q r n t x m e listed same is made = made ∙ ap (λ r. digits r n m) same ∙ ap (digits q n) (is ∙ combination-multiple q (field_sum q) (field_product q) (listed_field q listed) n t x)

pub length-made : (q n y : ℕ) (e : List ℕ) → 0 < q → e ≡ digits q n y → length e ≡ n
length-made q n y e pos is = ap length is ∙ length-digits q pos n y

-- a multiple more
pub multiple_next : (mul : ℕ → ℕ → ℕ) (q n t i : ℕ) (P : List ℕ) → i < length P →
    map (λ x. digits q n (multiple mul q n t x)) (take (i + 1) P) ≡ map (λ x. digits q n (multiple mul q n t x)) (take i P) ++ digits q n (multiple mul q n t (get_or P i 0)) ∷ []
multiple_next mul q n t i P l = ap (map (λ x. digits q n (multiple mul q n t x))) (take_more P i 0 l) ∙ map-append (λ x. digits q n (multiple mul q n t x)) (take i P) (get_or P i 0 ∷ [])

module _ (mul : ℕ → ℕ → ℕ) (q n : ℕ) (P : List ℕ) where
  pub multiples-none : multiples_below mul q n P 0 ≡ []
  unfolding multiples_below
  multiples-none = join_below_none _

  pub multiples-more : (m : ℕ) → multiples_below mul q n P (m + 1) ≡ multiples_below mul q n P m ++ map (λ x. digits q n (multiple mul q n m x)) P
  unfolding multiples_below
  multiples-more m = join_below_more m _

  pub length-multiples : (m : ℕ) → length (multiples_below mul q n P m) ≡ m * length P
  unfolding multiples_below
  length-multiples m = join_below-length m (length P) _ (λ t. length-map P (λ x. digits q n (multiple mul q n t x)))

  pub kept_multiple : (m t i : ℕ) → t < m → i < length P → get_or (multiples_below mul q n P m) (t * length P + i) [] ≡ digits q n (multiple mul q n t (get_or P i 0))
  unfolding multiples_below
  kept_multiple m t i l h = join_below-at m (length P) _ (λ t. length-map P (λ x. digits q n (multiple mul q n t x))) t i [] l h
      ∙ get_or-map (λ x. digits q n (multiple mul q n t x)) P i 0 [] h

-- a * x + b * y, from the entries of a * x and of b * y
pub combined_entries : (add mul : ℕ → ℕ → ℕ) (q n a x b y v : ℕ) (e f : List ℕ) → e ≡ digits q n (multiple mul q n a x) → f ≡ digits q n (multiple mul q n b y) → v ≡ number q (entrywise add e f) → v ≡ combination add mul q n a x b y
unfolding combination
combined_entries add mul q n a x b y v e f first second is = is ∙ ap₂ (λ e f. number q (entrywise add e f)) first second

pub below-made : (q n y : ℕ) (e : List ℕ) → 0 < q → e ≡ digits q n y → All (λ a. a < q) e
below-made q n y e pos is = subst (All (λ a. a < q)) (sym is) (All-from_recursion (λ a. a < q) (digits q n y) (digits_below q pos n y))

-- the place of a multiple in the table
pub place_within : (t i v m : ℕ) → t < m → i < v → t * v + i < m * v
place_within t i v m l h = omega (arith, mul-add-lt t v i m l h)

pub ruleset entry_steps = (append-nil, append_assoc, digits_none, digits_next, multiples-none, multiples-more)
