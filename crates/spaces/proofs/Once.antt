-- Lists without repeats that are in one order and have the same elements are equal.
use Rattle.std.proofs.Common.{Bool, List, [], ap, ap₂, inl, inr, map, refl, subst, sym, true, ℕ, ◌++◌, ◌∙◌, ◌∷◌, ◌≡◌, ◌≢◌, ◌⊎◌}
use Rattle.counting.proofs.Booleans.{cond_both}
use Rattle.std.specs.Cmp.Lexicographic.{other_text, pointwise, same_text}
use Rattle.std.specs.List.{AllByRecursion, dedup, dedup_from}
use Rattle.std.specs.Prelude.{nat_eq}
use Rattle.counting.proofs.Lists.{each-weaker}
use Rattle.counting.specs.Sorting.{IsOrder, Ordered, insert_by, sort_by}

module _ {X : Type 0} where
  -- x stands in the list
  abbrev pub Among : X → List X → Type 0
  Among x [] = ⊥
  Among x (y ∷ ys) = (x ≡ y) ⊎ Among x ys

  -- no element stands twice
  abbrev pub Apart : List X → Type 0
  Apart [] = Unit {0}
  Apart (x ∷ xs) = AllByRecursion (λ y. x ≢ y) xs × Apart xs

  -- each element of the first stands in the second
  abbrev pub Within : List X → List X → Type 0
  Within xs ys = AllByRecursion (λ x. Among x ys) xs

  pub among_each : (P : X → Type 0) (x : X) (xs : List X) → AllByRecursion P xs → Among x xs → P x
  among_each P x [] h a = absurd a
  among_each P x (y ∷ ys) h (inl e) = subst P (sym e) h.0
  among_each P x (y ∷ ys) h (inr a) = among_each P x ys h.1 a

  pub within_self : (xs : List X) → Within xs xs
  within_self [] = tt
  within_self (x ∷ xs) = (inl refl, each-weaker (λ y. Among y xs) (λ y. Among y (x ∷ xs)) (λ y a. inr a) xs (within_self xs))

  pub within-through : (xs ys zs : List X) → Within xs ys → Within ys zs → Within xs zs
  within-through xs ys zs h g = each-weaker (λ x. Among x ys) (λ x. Among x zs) (λ x a. among_each (λ y. Among y zs) x ys g a) xs h

  pub among-append : (x : X) (xs ys : List X) → Among x xs ⊎ Among x ys → Among x (xs ++ ys)
  among-append x [] ys (inl a) = absurd a
  among-append x [] ys (inr a) = a
  among-append x (z ∷ xs) ys (inl (inl e)) = inl e
  among-append x (z ∷ xs) ys (inl (inr a)) = inr (among-append x xs ys (inl a))
  among-append x (z ∷ xs) ys (inr a) = inr (among-append x xs ys (inr a))

  module _ (le : X → X → Bool) where
    among-insert_by : (z x : X) (xs : List X) → Among z (x ∷ xs) → Among z (insert_by le x xs)
    unfolding insert_by
    among-insert_by z x [] a = a
    among-insert_by z x (y ∷ ys) a = cond_both (le x y) _ _ (Among z) (λ e. a) (λ e. turned a (among-insert_by z x ys))
      where
        turned : Among z (x ∷ (y ∷ ys)) → (Among z (x ∷ ys) → Among z (insert_by le x ys)) → Among z (y ∷ insert_by le x ys)
        turned (inl e) rest = inr (rest (inl e))
        turned (inr (inl e)) rest = inl e
        turned (inr (inr a)) rest = inr (rest (inr a))

    -- a sort keeps each element
    pub among-sort_by : (z : X) (xs : List X) → Among z xs → Among z (sort_by le xs)
    unfolding sort_by
    among-sort_by z [] a = a
    among-sort_by z (x ∷ xs) (inl e) = among-insert_by z x (sort_by le xs) (inl e)
    among-sort_by z (x ∷ xs) (inr a) = among-insert_by z x (sort_by le xs) (inr (among-sort_by z xs a))

  module _ (le : X → X → Bool) (order : IsOrder le) where
    -- what stands in an ordered list is not before its first element
    not_before : (x y : X) (ys : List X) → AllByRecursion (λ z. le y z ≡ true) ys → Among x (y ∷ ys) → (x ≡ y) ⊎ (le y x ≡ true)
    not_before x y ys h (inl e) = inl e
    not_before x y ys h (inr a) = inr (among_each (λ z. le y z ≡ true) x ys h a)

    first_same : (x y : X) → (x ≡ y) ⊎ (le y x ≡ true) → (y ≡ x) ⊎ (le x y ≡ true) → x ≡ y
    first_same x y (inl e) b = e
    first_same x y (inr a) (inl e) = sym e
    first_same x y (inr a) (inr b) = order.same x y b a

    behind : (x y : X) (xs ys : List X) → x ≡ y → AllByRecursion (λ z. x ≢ z) xs → Within xs (y ∷ ys) → Within xs ys
    behind x y [] ys e d h = tt
    behind x y (z ∷ zs) ys e d h = (drop_first h.0, behind x y zs ys e d.1 h.1)
      where
        drop_first : (z ≡ y) ⊎ Among z ys → Among z ys
        drop_first (inl f) = absurd (d.0 (e ∙ sym f))
        drop_first (inr a) = a

    pub same_once : (xs ys : List X) → Ordered le xs → Ordered le ys → Apart xs → Apart ys → Within xs ys → Within ys xs → xs ≡ ys
    same_once [] [] o p a b h g = refl
    same_once [] (y ∷ ys) o p a b h g = absurd g.0
    same_once (x ∷ xs) [] o p a b h g = absurd h.0
    same_once (x ∷ xs) (y ∷ ys) o p a b h g =
        let e : x ≡ y = first_same x y (not_before x y ys p.0 h.0) (not_before y x xs o.0 g.0) in
        ap₂ (λ w ws. w ∷ ws) e (same_once xs ys o.1 p.1 a.1 b.1 (behind x y xs ys e a.0 h.1) (behind y x ys xs (sym e) b.0 g.1))

pub among_map : {X Y : Type 0} (f : X → Y) (x : X) (xs : List X) → Among x xs → Among (f x) (map f xs)
among_map f x [] a = a
among_map f x (y ∷ ys) (inl e) = inl (ap f e)
among_map f x (y ∷ ys) (inr a) = inr (among_map f x ys a)

-- ---- an ordered list of blocks, without its repeats
module _ (le : List ℕ → List ℕ → Bool) (order : IsOrder le) where
  abbrev drops : List ℕ → List (List ℕ) → List (List ℕ)
  drops k xs = dedup_from (pointwise nat_eq) k xs

  -- an order that holds strictly
  abbrev After : List ℕ → List ℕ → Type 0
  After k y = (le k y ≡ true) × (k ≢ y)

  pub each-dedup_from : (P : List ℕ → Type 0) (k : List ℕ) (xs : List (List ℕ)) → P k → AllByRecursion P xs → AllByRecursion P (drops k xs)
  each-dedup_from P k [] p h = (p, tt)
  each-dedup_from P k (x ∷ xs) p h = cond_both (pointwise nat_eq x k) _ _ (AllByRecursion P) (λ e. each-dedup_from P k xs p h.1) (λ e. (p, each-dedup_from P x xs h.0 h.1))

  ordered-dedup_from : (k : List ℕ) (xs : List (List ℕ)) → Ordered le (k ∷ xs) → Ordered le (drops k xs)
  ordered-dedup_from k [] o = o
  ordered-dedup_from k (x ∷ xs) o = cond_both (pointwise nat_eq x k) _ _ (Ordered le)
      (λ e. ordered-dedup_from k xs (o.0.1, o.1.1))
      (λ e. (each-dedup_from (λ y. le k y ≡ true) x xs o.0.0 o.0.1, ordered-dedup_from x xs o.1))

  apart-dedup_from : (k : List ℕ) (xs : List (List ℕ)) → Ordered le (k ∷ xs) → Apart (drops k xs)
  apart-dedup_from k [] o = (tt, tt)
  apart-dedup_from k (x ∷ xs) o = cond_both (pointwise nat_eq x k) _ _ Apart
      (λ e. apart-dedup_from k xs (o.0.1, o.1.1))
      (λ e. let ne : x ≢ k = other_text x k (sym e) in (
        each-dedup_from (λ y. k ≢ y) x xs (λ f. ne (sym f)) (each-weaker (λ y. le x y ≡ true) (λ y. k ≢ y) (λ y l f. ne (order.same x k (subst (λ z. le x z ≡ true) (sym f) l) o.0.0)) xs o.1.0),
        apart-dedup_from x xs o.1,
      ))

  among-dedup_from : (z k : List ℕ) (xs : List (List ℕ)) → Among z (k ∷ xs) → Among z (drops k xs)
  among-dedup_from z k [] a = a
  among-dedup_from z k (x ∷ xs) a = cond_both (pointwise nat_eq x k) _ _ (Among z)
      (λ e. among-dedup_from z k xs (skipped (same_text x k (sym e)) a))
      (λ e. kept a (among-dedup_from z x xs))
    where
      skipped : x ≡ k → (z ≡ k) ⊎ ((z ≡ x) ⊎ Among z xs) → Among z (k ∷ xs)
      skipped e (inl f) = inl f
      skipped e (inr (inl f)) = inl (f ∙ e)
      skipped e (inr (inr b)) = inr b

      kept : (z ≡ k) ⊎ ((z ≡ x) ⊎ Among z xs) → (Among z (x ∷ xs) → Among z (drops x xs)) → Among z (k ∷ drops x xs)
      kept (inl f) rest = inl f
      kept (inr b) rest = inr (rest b)

  pub each-dedup : (P : List ℕ → Type 0) (xs : List (List ℕ)) → AllByRecursion P xs → AllByRecursion P (dedup (pointwise nat_eq) xs)
  each-dedup P [] h = tt
  each-dedup P (x ∷ xs) h = each-dedup_from P x xs h.0 h.1

  pub ordered-dedup : (xs : List (List ℕ)) → Ordered le xs → Ordered le (dedup (pointwise nat_eq) xs)
  ordered-dedup [] o = tt
  ordered-dedup (x ∷ xs) o = ordered-dedup_from x xs o

  pub apart-dedup : (xs : List (List ℕ)) → Ordered le xs → Apart (dedup (pointwise nat_eq) xs)
  apart-dedup [] o = tt
  apart-dedup (x ∷ xs) o = apart-dedup_from x xs o

  pub among-dedup : (z : List ℕ) (xs : List (List ℕ)) → Among z xs → Among z (dedup (pointwise nat_eq) xs)
  among-dedup z [] a = a
  among-dedup z (x ∷ xs) a = among-dedup_from z x xs a
