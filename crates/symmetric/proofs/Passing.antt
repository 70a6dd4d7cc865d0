-- The numbers below a bound that pass a test.
use Rattle.std.proofs.Common.{Bool, List, [], ap, append-nil, arith, cond, false, true, ℕ, ◌++◌, ◌+◌, ◌<◌, ◌∙◌, ◌∷◌, ◌≡◌}
use Rattle.std.proofs.lemmas.List.Elements.{filter-append}
use Rattle.std.proofs.lemmas.List.Kept.{IsStrictlyIncreasing-filter}
use Rattle.std.specs.List.Sorted.{IsStrictlyIncreasing}
use Rattle.std.specs.Prelude.{filter}
use Rattle.counting.proofs.Counts.{join_below_more, join_below_none}
use Rattle.counting.proofs.Ranges.{get_or-list_below, length-list_below}
use Rattle.counting.specs.Sums.{list_below}

abbrev pub passing : (ℕ → Bool) → ℕ → List ℕ
passing test n = filter test (list_below n (λ i. i))

module _ (test : ℕ → Bool) where
  pub passing_none : passing test 0 ≡ []
  passing_none = ap (filter test) (join_below_none (λ i. i ∷ []))

  passing_more : (n : ℕ) → passing test (n + 1) ≡ passing test n ++ cond (test n) (n ∷ []) []
  passing_more n = ap (filter test) (join_below_more n (λ i. i ∷ [])) ∙ filter-append test (list_below n (λ i. i)) (n ∷ [])

  pub passing_taken : (n : ℕ) → test n ≡ true → passing test (n + 1) ≡ passing test n ++ n ∷ []
  passing_taken n e = passing_more n ∙ ap (λ t. passing test n ++ cond t (n ∷ []) []) e

  pub passing_left : (n : ℕ) → test n ≡ false → passing test (n + 1) ≡ passing test n
  passing_left n e = passing_more n ∙ ap (λ t. passing test n ++ cond t (n ∷ []) []) e ∙ append-nil (passing test n)

  pub passing_rises : (n : ℕ) → IsStrictlyIncreasing (passing test n)
  passing_rises n = IsStrictlyIncreasing-filter test (list_below n (λ i. i)) increasing
    where
      increasing : IsStrictlyIncreasing (list_below n (λ i. i))
      increasing i l =
          let m : i + 1 < n = omega (arith, length-list_below n (λ (i : ℕ). i)) in
          omega (arith, get_or-list_below n (λ i. i) i 0 (omega arith), get_or-list_below n (λ i. i) (i + 1) 0 m)
