-- Numbers that stand in a list, and lists in which none stands twice.
use Rattle.std.proofs.Common.{◌≡◌, ℕ, ◌<◌, ◌⊎◌, inl, inr, Bool, true, false, ◌||◌, List, [], ◌∷◌, ◌++◌, arith, refl, sym, subst}
use Rattle.std.specs.Prelude.{nat_eq}
use Rattle.std.proofs.lemmas.Bool.Decides.{nat_tests}
use Rattle.std.specs.Cmp.Derive.{both_true}
use Rattle.std.specs.List.{list_all}
use Rattle.counting.specs.Search.{is_among}
use Rattle.derivations.specs.Derivations.{comes_before, used_twice}

-- a number stands twice in the list
unfoldable pub repeats : List ℕ → Bool
repeats [] = false
repeats (i ∷ is) = is_among i is || repeats is

abbrev pub In : ℕ → List ℕ → Type 0
In j xs = is_among j xs ≡ true

equal : (x y : ℕ) → nat_eq x y ≡ true → x ≡ y
equal x y e = grind (arith, nat_tests)

equal_is : (x : ℕ) → nat_eq x x ≡ true
equal_is x = grind (arith, nat_tests)

pub in_cons : (j x : ℕ) (xs : List ℕ) → In j (x ∷ xs) → (j ≡ x) ⊎ In j xs
unfolding is_among
in_cons j x xs h = split (nat_eq j x) refl h
  where
    split : (b : Bool) → b ≡ nat_eq j x → ◌≡◌ {A = Bool} (elim b [ true ↦ true | false ↦ is_among j xs ]) true → (j ≡ x) ⊎ In j xs
    split true e h = inl (equal j x (sym e))
    split false e h = inr h

pub in_head : (x : ℕ) (xs : List ℕ) → In x (x ∷ xs)
unfolding is_among
in_head x xs = split (nat_eq x x) (equal_is x)
  where
    split : (b : Bool) → b ≡ true → ◌≡◌ {A = Bool} (elim b [ true ↦ true | false ↦ is_among x xs ]) true
    split true e = refl
    split false e = cc

pub in_tail : (j x : ℕ) (xs : List ℕ) → In j xs → In j (x ∷ xs)
unfolding is_among
in_tail j x xs h = split (nat_eq j x)
  where
    split : (b : Bool) → ◌≡◌ {A = Bool} (elim b [ true ↦ true | false ↦ is_among j xs ]) true
    split true = refl
    split false = h

pub in_nil : (j : ℕ) → In j [] → ⊥
unfolding is_among
in_nil j h = cc

-- a number in front of a list that does not hold it
pub once_cons : (x : ℕ) (xs : List ℕ) → (In x xs → ⊥) → repeats xs ≡ false → repeats (x ∷ xs) ≡ false
unfolding repeats
once_cons x xs n e = split (is_among x xs) n
  where
    split : (b : Bool) → (b ≡ true → ⊥) → (b || repeats xs) ≡ false
    split true n = absurd (n refl)
    split false n = e

-- and back
pub once_head : (x : ℕ) (xs : List ℕ) → repeats (x ∷ xs) ≡ false → In x xs → ⊥
unfolding repeats
once_head x xs e h = split (is_among x xs) h e
  where
    split : (b : Bool) → b ≡ true → (b || repeats xs) ≡ false → ⊥
    split true h e = cc
    split false h e = cc

pub once_tail : (x : ℕ) (xs : List ℕ) → repeats (x ∷ xs) ≡ false → repeats xs ≡ false
unfolding repeats
once_tail x xs e = split (is_among x xs) e
  where
    split : (b : Bool) → (b || repeats xs) ≡ false → repeats xs ≡ false
    split true e = cc
    split false e = e

-- the test of an earlier line, and back
pub before_of : (i j : ℕ) → comes_before i j ≡ true → (0 < j) × (j < i)
before_of i j e = grind (arith, nat_tests)

before_is : (i j : ℕ) → 0 < j → j < i → comes_before i j ≡ true
before_is i j a b = grind (arith, nat_tests)

-- numbers from 1 to i - 1
pub backward_of : (i : ℕ) (xs ys : List ℕ) → ((j : ℕ) → In j (xs ++ ys) → (0 < j) × (j < i)) → list_all (comes_before i) xs ≡ true
backward_of i [] ys h = refl
backward_of i (x ∷ xs) ys h =
    let t = h x (in_head x (xs ++ ys)) in
    both_true (before_is i x t.0 t.1) (backward_of i xs ys (λ j m. h j (in_tail j x (xs ++ ys) m)))

in_append : (j : ℕ) (xs ys : List ℕ) → In j ys → In j (xs ++ ys)
in_append j [] ys h = h
in_append j (x ∷ xs) ys h = in_tail j x (xs ++ ys) (in_append j xs ys h)

in_moved : (j x : ℕ) (xs ys : List ℕ) → In j (xs ++ x ∷ ys) → In j (x ∷ xs ++ ys)
in_moved j x [] ys h = h
in_moved j x (y ∷ xs) ys h = elim (in_cons j y (xs ++ x ∷ ys) h) [
  | inl e ↦ in_tail j x (y ∷ xs ++ ys) (subst (λ z. In z (y ∷ xs ++ ys)) (sym e) (in_head y (xs ++ ys)))
  | inr w ↦ elim (in_cons j x (xs ++ ys) (in_moved j x xs ys w)) [
    | inl e ↦ subst (λ z. In z (x ∷ y ∷ xs ++ ys)) (sym e) (in_head x (y ∷ xs ++ ys))
    | inr v ↦ in_tail j x (y ∷ xs ++ ys) (in_tail j y (xs ++ ys) v)
  ]
]

once_moved : (x : ℕ) (xs ys : List ℕ) → repeats (x ∷ xs ++ ys) ≡ false → repeats (xs ++ x ∷ ys) ≡ false
once_moved x [] ys e = e
once_moved x (y ∷ xs) ys e =
    let n = once_head x (y ∷ xs ++ ys) e in
    let f = once_tail x (y ∷ xs ++ ys) e in
    let rest : repeats (x ∷ xs ++ ys) ≡ false = once_cons x (xs ++ ys) (λ h. n (in_tail x y (xs ++ ys) h)) (once_tail y (xs ++ ys) f) in
    once_cons y (xs ++ x ∷ ys)
    (λ h. elim (in_cons y x (xs ++ ys) (in_moved y x xs ys h)) [
      | inl e ↦ n (subst (λ z. In z (y ∷ xs ++ ys)) e (in_head y (xs ++ ys)))
      | inr w ↦ once_head y (xs ++ ys) f w
    ])
    (once_moved x xs ys rest)

-- numbers that stand once in a list are used once
pub once_used : (xs named : List ℕ) → repeats (xs ++ named) ≡ false → used_twice named xs ≡ false
unfolding used_twice
once_used [] named e = refl
once_used (x ∷ xs) named e = split (is_among x named) (λ h. once_head x (xs ++ named) e (in_append x xs named h)) (once_used xs (x ∷ named) (once_moved x xs named e))
  where
    split : (b : Bool) → (b ≡ true → ⊥) → used_twice (x ∷ named) xs ≡ false → (b || used_twice (x ∷ named) xs) ≡ false
    split true n r = absurd (n refl)
    split false n r = r
