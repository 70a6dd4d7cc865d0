-- What the tests of a block tell.
use Rattle.std.proofs.Common.{Bool, List, [], add-one, ap, arith, false, get_or, inl, inr, refl, sym, true, suc, zero, ℕ, ◌+◌, ◌∙◌, ◌∷◌, ◌≡◌}
use Rattle.counting.proofs.Booleans.{and_from, bool_same, both, cases_eq, false≢true, lt-ltb, ltb-true}
use Rattle.std.proofs.lemmas.List.Kept.{AllPairs-from_increasing}
use Rattle.std.specs.List.{IsAllAdjacentAnswer}
use Rattle.std.specs.List.Sorted.{IsPartitionedBy, IsStrictlyIncreasing}
use Rattle.std.specs.Prelude.{nat_lt}
use Rattle.design_checks.specs.Findings.{rises}

pub increasing_from_test : (b : List ℕ) → rises b ≡ true → IsStrictlyIncreasing b
unfolding rises
increasing_from_test [] e k h = absurd (omega arith)
increasing_from_test (x ∷ []) e k h = absurd (omega arith)
increasing_from_test (x ∷ (y ∷ ys)) e zero h = ltb-true x y (both (nat_lt x y) (rises (y ∷ ys)) e).0
increasing_from_test (x ∷ (y ∷ ys)) e (suc k) h =
    rw (add-one (suc k)) (rw (add-one k) at (increasing_from_test (y ∷ ys) (both (nat_lt x y) (rises (y ∷ ys)) e).1 k (omega arith)))

pub test_from_increasing : (b : List ℕ) → IsStrictlyIncreasing b → rises b ≡ true
unfolding rises
test_from_increasing [] h = refl
test_from_increasing (x ∷ []) h = refl
test_from_increasing (x ∷ (y ∷ ys)) h =
    and_from (nat_lt x y) (rises (y ∷ ys)) (lt-ltb x y (h 0 (omega arith)))
    (test_from_increasing (y ∷ ys) (λ k l. rw (add-one k) (rw (add-one (suc k)) at (h (suc k) (omega arith)))))

-- from what `is_sorted_by` answers
pub rises_answer : (b : List ℕ) (r : Bool) → IsAllAdjacentAnswer (λ x y t. t ≡ nat_lt x y) b r → r ≡ rises b
rises_answer b true h = sym (test_from_increasing b (λ k l. ltb-true (get_or b k 0) (get_or b (k + 1) 0) (sym (h k 0 l))))
rises_answer b false h = bool_same false (rises b) (λ e. absurd (false≢true e))
    (λ e. h.2 0 ∙ lt-ltb (get_or b h.0 0) (get_or b (h.0 + 1) 0) (increasing_from_test b e h.0 h.1))

-- the numbers of an increasing row that are below a bound stand in front
pub below_in_front : (row : List ℕ) (low : ℕ) → IsStrictlyIncreasing row → IsPartitionedBy (λ y. nat_lt y low) row
below_in_front row low up i j d l m e = elim (cases_eq i j) [
  | inl s ↦ ap (λ k. nat_lt (get_or row k d) low) s ∙ e
  | inr n ↦ lt-ltb (get_or row i d) low (omega (arith, AllPairs-from_increasing row up i j d (omega arith) m, ltb-true (get_or row j d) low e))
]
