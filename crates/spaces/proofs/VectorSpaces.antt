-- The vectors of n entries over a ring are a space.
use Rattle.std.proofs.Common.{List, [], ap, ap₂, arith, length, map, refl, replicate, subst, suc, sym, zero, ℕ, ◌%◌, ◌*◌, ◌+◌, ◌-◌, ◌/◌, ◌<◌, ◌^◌, ◌∙◌, ◌∷◌, ◌≡◌, ◌≤◌}
use Rattle.std.proofs.Math.Nat.{mul-le-mul_left, mul-le-mul_right, one-le-pow, pow-suc, suc_inj, zero-div, zero-mod}
use Rattle.std.proofs.lemmas.List.{length-map}
use Rattle.std.specs.List.{AllByRecursion}
use Rattle.design_base.specs.Digits.{digits, number}
use Rattle.design_base.specs.Rings.{IsCommutativeRing, IsField}
use Rattle.field_tables.proofs.AnyField.{distribute_right, mul-zero}
use Rattle.field_tables.proofs.Numbers.{digits-number, digits_below, length-digits, number-digits, number-zeros, number_below}
use Rattle.spaces.specs.Vectors.{combination, entrywise, multiple, vector_sum}

-- Vectors are the numbers below v, and 0 is the vector 0. As in a ring, the sums and multiples of other numbers are those of
-- vectors, so that most laws need no bound.
pub record IsVectorSpace (q v : ℕ) (add mul sum scale : ℕ → ℕ → ℕ) : Type 0 where
  pub sums_below : (x y : ℕ) → sum x y < v
  pub sums_commute : (x y : ℕ) → sum x y ≡ sum y x
  pub sums_associate : (x y z : ℕ) → sum (sum x y) z ≡ sum x (sum y z)
  pub zero_neutral : (x : ℕ) → x < v → sum x 0 ≡ x
  pub negatives : (x : ℕ) → (y : ℕ) × (y < v) × (sum x y ≡ 0)
  pub multiples_below : (t x : ℕ) → scale t x < v
  pub scale-sum : (t x y : ℕ) → scale t (sum x y) ≡ sum (scale t x) (scale t y)
  pub add-scale : (s t x : ℕ) → scale (add s t) x ≡ sum (scale s x) (scale t x)
  pub mul-scale : (s t x : ℕ) → scale (mul s t) x ≡ scale s (scale t x)
  pub one-scale : (x : ℕ) → x < v → scale 1 x ≡ x

length-entrywise : (f : ℕ → ℕ → ℕ) (x y : List ℕ) → length x ≡ length y → length (entrywise f x y) ≡ length x
length-entrywise f [] y e = refl
length-entrywise f (x ∷ xs) [] e = sym e
length-entrywise f (x ∷ xs) (y ∷ ys) e = ap suc (length-entrywise f xs ys (suc_inj e))

entrywise_below : (f : ℕ → ℕ → ℕ) (q : ℕ) → ((x y : ℕ) → f x y < q) → (x y : List ℕ) → AllByRecursion (λ t. t < q) (entrywise f x y)
entrywise_below f q h [] y = tt
entrywise_below f q h (x ∷ xs) [] = tt
entrywise_below f q h (x ∷ xs) (y ∷ ys) = (h x y, entrywise_below f q h xs ys)

map_below : (f : ℕ → ℕ) (q : ℕ) → ((x : ℕ) → f x < q) → (x : List ℕ) → AllByRecursion (λ t. t < q) (map f x)
map_below f q h [] = tt
map_below f q h (x ∷ xs) = (h x, map_below f q h xs)

module _ (q : ℕ) (add mul : ℕ → ℕ → ℕ) (r : IsCommutativeRing q add mul) where
  positive : 0 < q
  positive = let h : 1 < q = r.one_below in omega arith

  -- ---- the laws at each entry
  entries_commute : (x y : List ℕ) → entrywise add x y ≡ entrywise add y x
  entries_commute [] [] = refl
  entries_commute [] (y ∷ ys) = refl
  entries_commute (x ∷ xs) [] = refl
  entries_commute (x ∷ xs) (y ∷ ys) = ap₂ ◌∷◌ (r.sums_commute x y) (entries_commute xs ys)

  entries_associate : (x y z : List ℕ) → entrywise add (entrywise add x y) z ≡ entrywise add x (entrywise add y z)
  entries_associate [] y z = refl
  entries_associate (x ∷ xs) [] z = refl
  entries_associate (x ∷ xs) (y ∷ ys) [] = refl
  entries_associate (x ∷ xs) (y ∷ ys) (z ∷ zs) = ap₂ ◌∷◌ (r.sums_associate x y z) (entries_associate xs ys zs)

  map-entries : (t : ℕ) (x y : List ℕ) → map (mul t) (entrywise add x y) ≡ entrywise add (map (mul t) x) (map (mul t) y)
  map-entries t [] y = refl
  map-entries t (x ∷ xs) [] = refl
  map-entries t (x ∷ xs) (y ∷ ys) = ap₂ ◌∷◌ (r.products_distribute t x y) (map-entries t xs ys)

  map_sum : (s t : ℕ) (x : List ℕ) → map (mul (add s t)) x ≡ entrywise add (map (mul s) x) (map (mul t) x)
  map_sum s t [] = refl
  map_sum s t (x ∷ xs) = ap₂ ◌∷◌ (distribute_right q add mul r s t x) (map_sum s t xs)

  map_product : (s t : ℕ) (x : List ℕ) → map (mul (mul s t)) x ≡ map (mul s) (map (mul t) x)
  map_product s t [] = refl
  map_product s t (x ∷ xs) = ap₂ ◌∷◌ (r.products_associate s t x) (map_product s t xs)

  map_one : (x : List ℕ) → AllByRecursion (λ t. t < q) x → map (mul 1) x ≡ x
  map_one [] h = refl
  map_one (x ∷ xs) h = ap₂ ◌∷◌ (r.products_commute 1 x ∙ r.one_neutral x h.0) (map_one xs h.1)

  entries_zero : (x : List ℕ) → AllByRecursion (λ t. t < q) x → entrywise add x (replicate (length x) 0) ≡ x
  entries_zero [] h = refl
  entries_zero (x ∷ xs) h = ap₂ ◌∷◌ (r.zero_neutral x h.0) (entries_zero xs h.1)

  negated : List ℕ → List ℕ
  negated x = map (λ t. (r.negatives t).0) x

  entries_negated : (x : List ℕ) → entrywise add x (negated x) ≡ replicate (length x) 0
  unfolding negated
  entries_negated [] = refl
  entries_negated (x ∷ xs) = ap₂ ◌∷◌ ((r.negatives x).2) (entries_negated xs)

  module _ (n : ℕ) where
    -- the entries of a vector
    abbrev D : ℕ → List ℕ
    D x = digits q n x

    abbrev IsEntries : List ℕ → Type 0
    IsEntries x = AllByRecursion (λ t. t < q) x

    size_D : (x : ℕ) → length (D x) ≡ n
    size_D x = length-digits q positive n x

    -- the entries of the vector whose entries are x
    back : (x : List ℕ) → length x ≡ n → IsEntries x → D (number q x) ≡ x
    back x h b = ap (λ t. digits q t (number q x)) (sym h) ∙ digits-number q positive x b

    small : (x : List ℕ) → length x ≡ n → IsEntries x → number q x < q ^ n
    small x h b = subst (λ t. number q x < q ^ t) h (number_below q positive x b)

    pub D_zero : D 0 ≡ replicate n 0
    D_zero = zeros n
      where
        zeros : (m : ℕ) → digits q m 0 ≡ replicate m 0
        zeros zero = refl
        zeros (suc m) = ap₂ ◌∷◌ (zero-mod q) (ap (digits q m) (zero-div q) ∙ zeros m)

    size_sum : (x y : ℕ) → length (entrywise add (D x) (D y)) ≡ n
    size_sum x y = length-entrywise add (D x) (D y) (size_D x ∙ sym (size_D y)) ∙ size_D x

    size_multiple : (t x : ℕ) → length (map (mul t) (D x)) ≡ n
    size_multiple t x = length-map (D x) (mul t) ∙ size_D x

    D_sum : (x y : ℕ) → D (vector_sum add q n x y) ≡ entrywise add (D x) (D y)
    D_sum x y = back (entrywise add (D x) (D y)) (size_sum x y) (entrywise_below add q r.sums_below (D x) (D y))

    pub D_multiple : (t x : ℕ) → D (multiple mul q n t x) ≡ map (mul t) (D x)
    D_multiple t x = back (map (mul t) (D x)) (size_multiple t x) (map_below (mul t) q (r.products_below t) (D x))

    negative : (x : ℕ) → (y : ℕ) × (y < q ^ n) × (vector_sum add q n x y ≡ 0)
    unfolding negated
    negative x =
        let size : length (negated (D x)) ≡ n = length-map (D x) (λ t. (r.negatives t).0) ∙ size_D x in
        let entries : IsEntries (negated (D x)) = map_below (λ t. (r.negatives t).0) q (λ t. (r.negatives t).1) (D x) in (
          number q (negated (D x)),
          small (negated (D x)) size entries,
          ap (number q) (ap (entrywise add (D x)) (back (negated (D x)) size entries) ∙ entries_negated (D x)) ∙ number-zeros q positive (length (D x)),
        )

    pub space : IsVectorSpace q (q ^ n) add mul (vector_sum add q n) (multiple mul q n)
    space = record {
      sums_below = λ x y. small (entrywise add (D x) (D y)) (size_sum x y) (entrywise_below add q r.sums_below (D x) (D y));
      sums_commute = λ x y. ap (number q) (entries_commute (D x) (D y));
      sums_associate = λ x y z. ap (number q) (ap (λ t. entrywise add t (D z)) (D_sum x y) ∙ entries_associate (D x) (D y) (D z) ∙ ap (entrywise add (D x)) (sym (D_sum y z)));
      zero_neutral = λ x h. ap (number q) (ap (entrywise add (D x)) (D_zero ∙ ap (λ t. replicate t 0) (sym (size_D x))) ∙ entries_zero (D x) (digits_below q positive n x)) ∙ number-digits q positive n x h;
      negatives = negative;
      multiples_below = λ t x. small (map (mul t) (D x)) (size_multiple t x) (map_below (mul t) q (r.products_below t) (D x));
      scale-sum = λ t x y. ap (number q) (ap (map (mul t)) (D_sum x y) ∙ map-entries t (D x) (D y) ∙ ap₂ (entrywise add) (sym (D_multiple t x)) (sym (D_multiple t y)));
      add-scale = λ s t x. ap (number q) (map_sum s t (D x) ∙ ap₂ (entrywise add) (sym (D_multiple s x)) (sym (D_multiple t x)));
      mul-scale = λ s t x. ap (number q) (map_product s t (D x) ∙ ap (map (mul s)) (sym (D_multiple t x)));
      one-scale = λ x h. ap (number q) (map_one (D x) (digits_below q positive n x)) ∙ number-digits q positive n x h;
    }

    -- 0 times the vector 0
    pub zero_multiple : multiple mul q n 0 0 ≡ 0
    zero_multiple = ap (λ x. number q (map (mul 0) x)) D_zero ∙ ap (number q) (zeros n) ∙ number-zeros q positive n
      where
        zeros : (m : ℕ) → map (mul 0) (replicate m 0) ≡ replicate m 0
        zeros zero = refl
        zeros (suc m) = ap₂ ◌∷◌ (mul-zero q add mul r 0) (zeros m)

    -- a * x + b * y, entry by entry
    combined : (a x b y : ℕ) → combination add mul q n a x b y ≡ number q (entrywise add (map (mul a) (D x)) (map (mul b) (D y)))
    unfolding combination
    combined a x b y = ap₂ (λ s t. number q (entrywise add s t)) (D_multiple a x) (D_multiple b y)

    pub combination_below : (a x b y : ℕ) → combination add mul q n a x b y < q ^ n
    unfolding combination
    combination_below a x b y = space.sums_below (multiple mul q n a x) (multiple mul q n b y)

  pub combination-zero : (a x b y : ℕ) → combination add mul q 0 a x b y ≡ 0
  unfolding combination
  combination-zero a x b y = refl

  -- the first entry, and those after it
  pub combination-suc : (n a x b y : ℕ) → combination add mul q (suc n) a x b y ≡ add (mul a (x % q)) (mul b (y % q)) + q * combination add mul q n a (x / q) b (y / q)
  combination-suc n a x b y = combined (suc n) a x b y ∙ ap (λ t. add (mul a (x % q)) (mul b (y % q)) + q * t) (sym (combined n a (x / q) b (y / q)))

-- a number by its lowest digit and the rest
pub vector_below : (q n first rest : ℕ) → first < q → rest < q ^ n → first + q * rest < q ^ suc n
vector_below q n first rest h g = let m : q * suc rest ≤ q * q ^ n = mul-le-mul_left q g in omega (arith, pow-suc q n)

-- the same of n - 1 entries after the first
pub vector_below-pred : (q n first rest : ℕ) → 0 < n → first < q → rest < q ^ (n - 1) → first + q * rest < q ^ n
vector_below-pred q zero first rest pos h g = absurd (omega arith)
vector_below-pred q (suc n) first rest pos h g = vector_below q n first rest h (subst (λ m. rest < q ^ m) (omega arith) g)

pub combination-pred : (q : ℕ) (add mul : ℕ → ℕ → ℕ) → IsField q add mul → (n a x b y : ℕ) → 0 < n →
    combination add mul q n a x b y ≡ add (mul a (x % q)) (mul b (y % q)) + q * combination add mul q (n - 1) a (x / q) b (y / q)
combination-pred q add mul f zero a x b y pos = absurd (omega arith)
combination-pred q add mul f (suc n) a x b y pos = combination-suc q add mul f.ring n a x b y
    ∙ ap (λ m. add (mul a (x % q)) (mul b (y % q)) + q * combination add mul q m a (x / q) b (y / q)) (let e : n ≡ suc n - 1 = omega arith in e)

pub combination-none : (q : ℕ) (add mul : ℕ → ℕ → ℕ) (n a x b y : ℕ) → n ≡ 0 → combination add mul q n a x b y ≡ 0
unfolding combination
combination-none q add mul zero a x b y e = refl
combination-none q add mul (suc n) a x b y e = absurd (omega arith)

pub power-pred : (q n c : ℕ) → 0 < q → 0 < n → q ^ n < c → q ^ (n - 1) < c
power-pred q zero c pos some h = absurd (omega arith)
power-pred q (suc n) c pos some h =
    let more : 1 * q ^ n ≤ q * q ^ n = mul-le-mul_right (q ^ n) (let h : 1 ≤ q = omega arith in h) in
    let same : n ≡ suc n - 1 = omega arith in
    subst (λ m. q ^ m < c) same (omega (arith, pow-suc q n, more))

-- a multiple, as a combination with the vector 0
pub combination-multiple : (q : ℕ) (add mul : ℕ → ℕ → ℕ) → IsField q add mul → (n a x : ℕ) → combination add mul q n a x 0 0 ≡ multiple mul q n a x
unfolding combination
combination-multiple q add mul f n a x =
    let s = space q add mul f.ring n in
    let some : 0 < q ^ n = one-le-pow n q (positive q add mul f.ring) in
    ap (vector_sum add q n (multiple mul q n a x)) (zero_multiple q add mul f.ring n) ∙ s.zero_neutral (multiple mul q n a x) (s.multiples_below a x)
