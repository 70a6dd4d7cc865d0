-- A list has one sorted form, and a sort keeps sums and what holds of each element.
use Rattle.std.proofs.Common.{Bool, List, [], ap, ap₂, arith, false, get_or, inl, inr, length, refl, subst, suc, sym, true, ℕ, ◌+◌, ◌<◌, ◌∙◌, ◌∷◌, ◌≡◌}
use Rattle.counting.proofs.Booleans.{cases_Bool, cond_both, false≢true, le-leb, leb-false, leb-true}
use Rattle.std.proofs.lemmas.Bool.Decides.{nat_tests}
use Rattle.std.proofs.lemmas.List.Sorted.{sum_by-IsPermutation}
use Rattle.std.proofs.lemmas.List.Sums.{sum_by-cons}
use Rattle.std.specs.List.{AllByRecursion, sum_by}
use Rattle.std.specs.List.Sorted.{IsPermutation, IsSorted}
use Rattle.std.specs.Ordering.{is_lt, nat_cmp}
use Rattle.std.specs.Prelude.{nat_le}
use Rattle.counting.proofs.Counts.{one-false, one-true}
use Rattle.counting.proofs.Lists.{each-weaker, sum_by-zero}
use Rattle.counting.specs.Sorting.{IsOrder, Ordered, insert_by, sort_by}
use Rattle.counting.specs.Sums.{one}

module _ {X : Type 0} (le : X → X → Bool) where
  sum_by-insert_by : (f : X → ℕ) (x : X) (xs : List X) → sum_by f (insert_by le x xs) ≡ f x + sum_by f xs
  unfolding insert_by
  sum_by-insert_by f x [] = sum_by-cons f x []
  sum_by-insert_by f x (y ∷ ys) = cond_both (le x y) _ _ (λ zs. sum_by f zs ≡ f x + sum_by f (y ∷ ys))
      (λ e. sum_by-cons f x (y ∷ ys))
      (λ e. omega (arith, sum_by-cons f y (insert_by le x ys), sum_by-insert_by f x ys, sum_by-cons f y ys))

  pub sum_by-sort_by : (f : X → ℕ) (xs : List X) → sum_by f (sort_by le xs) ≡ sum_by f xs
  unfolding sort_by
  sum_by-sort_by f [] = refl
  sum_by-sort_by f (x ∷ xs) = omega (arith, sum_by-insert_by f x (sort_by le xs), sum_by-sort_by f xs, sum_by-cons f x xs)

  pub each-insert_by : (P : X → Type 0) (x : X) (xs : List X) → P x → AllByRecursion P xs → AllByRecursion P (insert_by le x xs)
  unfolding insert_by
  each-insert_by P x [] p h = (p, tt)
  each-insert_by P x (y ∷ ys) p h = cond_both (le x y) _ _ (AllByRecursion P) (λ e. (p, h)) (λ e. (h.0, each-insert_by P x ys p h.1))

  pub each-sort_by : (P : X → Type 0) (xs : List X) → AllByRecursion P xs → AllByRecursion P (sort_by le xs)
  unfolding sort_by
  each-sort_by P [] h = tt
  each-sort_by P (x ∷ xs) h = each-insert_by P x (sort_by le xs) h.0 (each-sort_by P xs h.1)

  length-insert_by : (x : X) (xs : List X) → length (insert_by le x xs) ≡ suc (length xs)
  unfolding insert_by
  length-insert_by x [] = refl
  length-insert_by x (y ∷ ys) = cond_both (le x y) _ _ (λ (zs : List X). length zs ≡ suc (suc (length ys))) (λ e. refl) (λ e. ap suc (length-insert_by x ys))

  pub length-sort_by : (xs : List X) → length (sort_by le xs) ≡ length xs
  unfolding sort_by
  length-sort_by [] = refl
  length-sort_by (x ∷ xs) = length-insert_by x (sort_by le xs) ∙ ap suc (length-sort_by xs)

module _ {X : Type 0} (le : X → X → Bool) (order : IsOrder le) where
  pub self : (x : X) → le x x ≡ true
  self x = elim (cases_Bool (le x x)) [ inl e ↦ e | inr e ↦ order.total x x e ]

  ordered-insert_by : (x : X) (xs : List X) → Ordered le xs → Ordered le (insert_by le x xs)
  unfolding insert_by
  ordered-insert_by x [] h = (tt, tt)
  ordered-insert_by x (y ∷ ys) h = cond_both (le x y) _ _ (Ordered le)
      (λ e. ((e, each-weaker (λ z. le y z ≡ true) (λ z. le x z ≡ true) (λ z f. order.joins x y z e f) ys h.0), h))
      (λ e. (each-insert_by le (λ z. le y z ≡ true) x ys (order.total x y e) h.0, ordered-insert_by x ys h.1))

  pub ordered-sort_by : (xs : List X) → Ordered le (sort_by le xs)
  unfolding sort_by
  ordered-sort_by [] = tt
  ordered-sort_by (x ∷ xs) = ordered-insert_by x (sort_by le xs) (ordered-sort_by xs)

  -- the first of an ordered list is not after what another list of the same elements begins with
  first_le : (y z : X) (ys zs : List X) → AllByRecursion (λ w. le z w ≡ true) zs → ((f : X → ℕ) → sum_by f (y ∷ ys) ≡ sum_by f (z ∷ zs)) → le z y ≡ true
  first_le y z ys zs h same = elim (cases_Bool (le z y)) [
    | inl e ↦ e
    | inr e ↦ absurd (omega (
      arith,
      same f,
      sum_by-cons f y ys,
      one-true (le y y) (self y),
      sum_by-zero f (z ∷ zs) (after z (self z) e, each-weaker (λ w. le z w ≡ true) (λ w. f w ≡ 0) (λ w g. after w g e) zs h),
    ))
  ]
    where
      f : X → ℕ
      f w = one (le w y)

      after : (w : X) → le z w ≡ true → le z y ≡ false → f w ≡ 0
      after w g e = one-false (le w y) (λ k. false≢true (sym e ∙ order.joins z w y g k))

  -- two ordered lists of the same elements are equal
  pub same_ordered : (ys zs : List X) → Ordered le ys → Ordered le zs → ((f : X → ℕ) → sum_by f ys ≡ sum_by f zs) → ys ≡ zs
  same_ordered [] [] h g same = refl
  same_ordered [] (z ∷ zs) h g same = absurd (omega (arith, same (λ w. 1), sum_by-cons (λ w. 1) z zs))
  same_ordered (y ∷ ys) [] h g same = absurd (omega (arith, same (λ w. 1), sum_by-cons (λ w. 1) y ys))
  same_ordered (y ∷ ys) (z ∷ zs) h g same =
      let e : y ≡ z = order.same y z (first_le z y zs ys h.0 (λ f. sym (same f))) (first_le y z ys zs g.0 same) in
      ap₂ (λ w ws. w ∷ ws) e (same_ordered ys zs h.1 g.1 (λ f. omega (arith, same f, sum_by-cons f y ys, sum_by-cons f z zs, ap f e)))

  pub sort_by_is : (xs ys : List X) → IsPermutation xs ys → Ordered le ys → ys ≡ sort_by le xs
  sort_by_is xs ys p h = same_ordered ys (sort_by le xs) h (ordered-sort_by xs) (λ f. sum_by-IsPermutation f xs ys p ∙ sym (sum_by-sort_by le f xs))

  -- an order between neighbours is one between all
  pub ordered_from_neighbours : (xs : List X) → ((k : ℕ) (d : X) → suc k < length xs → le (get_or xs k d) (get_or xs (suc k) d) ≡ true) → Ordered le xs
  ordered_from_neighbours [] h = tt
  ordered_from_neighbours (x ∷ []) h = (tt, tt)
  ordered_from_neighbours (x ∷ (y ∷ ys)) h =
      let r : Ordered le (y ∷ ys) = ordered_from_neighbours (y ∷ ys) (λ k d l. h (suc k) d (omega arith)) in
      let e : le x y ≡ true = h 0 x (omega arith) in
      ((e, each-weaker (λ z. le y z ≡ true) (λ z. le x z ≡ true) (λ z f. order.joins x y z e f) ys r.0), r)

pub nat_le-order : IsOrder nat_le
nat_le-order = record {
  total = λ x y e. le-leb y x (omega (arith, leb-false x y e));
  joins = λ x y z e f. le-leb x z (omega (arith, leb-true x y e, leb-true y z f));
  same = λ x y e f. omega (arith, leb-true x y e, leb-true y x f);
}

le_from_cmp : (x y : ℕ) → is_lt (nat_cmp y x) ≡ false → nat_le x y ≡ true
le_from_cmp x y e = grind (arith, nat_tests)

pub next : (k : ℕ) → k + 1 ≡ suc k
next k = omega arith

pub sorted_row_is : (xs ys : List ℕ) → IsPermutation xs ys → IsSorted nat_cmp ys → ys ≡ sort_by nat_le xs
sorted_row_is xs ys p s = sort_by_is nat_le nat_le-order xs ys p (ordered_from_neighbours nat_le nat_le-order ys
    (λ k d l. le_from_cmp (get_or ys k d) (get_or ys (suc k) d) (subst (λ n. is_lt (nat_cmp (get_or ys n d) (get_or ys k d)) ≡ false) (next k) (s k d (omega arith) (omega arith)))))
