-- Rows that are borrowed, sorted and packed again.
use Rattle.std.proofs.Common.{IsPermutation, List, [], Some, arith, false, get_or, inl, inr, is_lt, length, map, slice_get, subst, suc, sym, take, zero, ℕ, ◌+◌, ◌-◌, ◌<◌, ◌∷◌, ◌≡◌, ◌≤◌}
use Rattle.std.proofs.lemmas.List.{get_or-map, length-map}
use Rattle.std.proofs.lemmas.List.Sorted.{IsPermutation-map, IsPermutation-refl}
use Rattle.counting.proofs.Booleans.{cases_lt}
use Rattle.std.proofs.lemmas.Option.{get_or_from_slice_get}
use Rattle.std.specs.Cmp.Lexicographic.{slice_cmp}
use Rattle.std.specs.List.Sorted.{IsSorted, IsSortedWithin}
use Rattle.std.specs.Ordering.{nat_cmp}
use Rattle.counting.specs.Sorting.{sort_by}
use Rattle.design_base.proofs.Sorted.{sorted_from_sort}
use Rattle.design_base.specs.Canonical.{lex_le}
use Rattle.incidence.proofs.Sizes.{size_of-cons}
use Rattle.incidence.specs.Packed.{size_of}
use denote.Ref.{Bor}

-- the rows that borrowed rows are
abbrev pub pointed : List (Bor (List ℕ)) → List (List ℕ)
pointed rows = map (λ row. row.now) rows

-- what is sorted by what it points to, points to what is sorted
pub pointed_sorted : (order : List (Bor (List ℕ))) → IsSorted (λ a b. slice_cmp nat_cmp a.now b.now) order → IsSorted (slice_cmp nat_cmp) (pointed order)
pointed_sorted order up k d low high =
    let point : Bor (List ℕ) → List ℕ = λ row. row.now in
    let e : Bor (List ℕ) = record { ref_ptr = (0, 0); now = d } in
    let within : k + 1 < length order = omega (arith, high, length-map order point) in
    rw (get_or-map point order (k + 1) e d within, get_or-map point order k e d (omega arith)) (up k e low within)

-- what is moved among borrowed rows is moved among the rows
pub pointed_permuted : (rows : List (List ℕ)) (list order : List (Bor (List ℕ))) → pointed list ≡ rows → IsPermutation list order → IsPermutation rows (pointed order)
pointed_permuted rows list order is moved =
    let P : List (List ℕ) → Type 0 = λ r. IsPermutation r (pointed order) in
    subst P is (IsPermutation-map (λ row. row.now) list order moved)

-- one more row stands in order, where it is not before the last
pub ascends_more : (rows : List (List ℕ)) (i : ℕ) (last next : List ℕ) → 1 ≤ i → slice_get rows (i - 1) ≡ Some last → slice_get rows i ≡ Some next → is_lt (slice_cmp nat_cmp next last) ≡ false
    → IsSortedWithin (λ x y. is_lt (slice_cmp nat_cmp x y)) rows 0 i → IsSortedWithin (λ x y. is_lt (slice_cmp nat_cmp x y)) rows 0 (i + 1)
ascends_more rows i last next some at_last at_next after up k d low high =
    elim (cases_lt (k + 1) i) [
      | inl less ↦ up k d low less
      | inr beyond ↦
          let is : k + 1 ≡ i = omega (arith, beyond, high) in
          let before : i - 1 ≡ k = omega (arith, is) in
          let first : get_or rows k d ≡ last = get_or_from_slice_get rows k last d (subst (λ j. slice_get rows j ≡ Some last) before at_last) in
          let second : get_or rows (k + 1) d ≡ next = get_or_from_slice_get rows (k + 1) next d (subst (λ j. slice_get rows j ≡ Some next) (sym is) at_next) in
          rw (second, first) after
    ]

-- rows in order are the sorted form of themselves
pub sorted_stays : (rows : List (List ℕ)) → IsSorted (slice_cmp nat_cmp) rows → rows ≡ sort_by lex_le rows
sorted_stays rows up = sorted_from_sort rows rows (IsPermutation-refl rows) up

-- a front of the rows and the next row are together not more than all
pub size_more : (list : List (Bor (List ℕ))) (i : ℕ) (d : Bor (List ℕ)) → i < length list → size_of (pointed (take i list)) + length (get_or list i d).now + 1 ≤ size_of (pointed list)
size_more [] i d within = absurd (omega arith)
size_more (row ∷ rows) zero d within = omega (arith, size_of-cons row.now (pointed rows))
size_more (row ∷ rows) (suc i) d within =
    omega (arith, size_of-cons row.now (pointed rows), size_of-cons row.now (pointed (take i rows)), size_more rows i d (omega arith))
