-- An orthogonal array of order n >= 2 has at most n + 1 columns.
use Rattle.std.proofs.Common.{◌≡◌, ℕ, zero, suc, ◌+◌, ◌*◌, ◌<◌, ◌≤◌, ◌≢◌, inl, inr, Bool, true, false, List, [], ◌∷◌, ◌&&◌, ◌==◌, get_or, refl, sym, ◌∙◌, arith}
use Rattle.std.specs.Prelude.{All}
use Rattle.std.specs.List.{sum_by}
use Rattle.std.proofs.Math.Nat.{mul-le-mul_left}
use Rattle.counting.proofs.Booleans.{both_equal, both_equal-from, cases_Bool, cases_eq, cases_lt, cases_order, eq-eqb, eqb-true}
use Rattle.std.proofs.lemmas.List.Sums.{sum_by-cons, sum_by-le}
use Rattle.counting.specs.Sums.{one, sum_below}
use Rattle.counting.proofs.Counts.{one-true, one-false, sum_below-same, sum_below-const, sum_below-zero, count_one}
use Rattle.counting.proofs.Lists.{sum_by-agree, sum_by-sum_below}
use Rattle.counting.proofs.OnePlace.{two_places}
use Rattle.design_base.specs.Arrays.{agree, IsRow, IsOa}
use Rattle.design_base.specs.Blocks.{IsTd}
use Rattle.design_base.proofs.Rows.{agree-is, agree-turn}
use Rattle.design_base.proofs.Groups.{oa_from_td}

-- a test that no two numbers below k pass is passed by one at most
at_most_one : (k : ℕ) (p : ℕ → Bool) → ((i j : ℕ) → i < j → j < k → p i ≡ true → p j ≡ true → ⊥) → sum_below k (λ j. one (p j)) ≤ 1
unfolding sum_below
at_most_one zero p apart = omega arith
at_most_one (suc k) p apart = elim (cases_Bool (p k)) [
  | inl e ↦ omega (arith, one-true (p k) e, sum_below-zero k (λ j. one (p j)) (λ i l. one-false (p i) (λ f. apart i k l (omega arith) f e)))
  | inr e ↦ omega (arith, one-false (p k) (λ f. both e f), at_most_one k p (λ i j l m. apart i j l (omega arith)))
]
  where
    both : p k ≡ false → p k ≡ true → ⊥
    both e f = cc

-- in how many of k columns a row agrees with the first
unfoldable pub shared_columns : ℕ → List ℕ → List ℕ → ℕ
shared_columns k first r = sum_below k (λ j. one (get_or r j 0 == get_or first j 0))

-- count the places where the rows agree with the first row: n in each column, and no other row has two of them
module _ (k n : ℕ) (first : List ℕ) (R : List (List ℕ)) (oa : IsOa (first ∷ R) k n) (two : 2 ≤ k) where
  row : IsRow k n first
  row = oa.rows 0 [] (omega arith)

  agree_any : (i j a b : ℕ) → i ≢ j → i < k → j < k → a < n → b < n → agree (first ∷ R) i j a b ≡ 1
  agree_any i j a b ne l m la lb = elim (cases_order i j) [
    | inl e ↦ absurd (ne e)
    | inr (inl w) ↦ oa.pairs i j a b w m la lb
    | inr (inr w) ↦ agree-turn (first ∷ R) i j a b ∙ oa.pairs j i b a w l lb la
  ]

  -- each symbol stands n times in a column
  in_column : (j i a : ℕ) → j ≢ i → j < k → i < k → a < n → sum_by (λ r. one (get_or r j 0 == a)) (first ∷ R) ≡ n
  in_column j i a ne l m la =
      sum_by-agree (IsRow k n) _ (λ r. sum_below n (λ b. one ((get_or r j 0 == a) && (get_or r i 0 == b)))) (first ∷ R) oa.rows (λ r s. sym (shared r s))
      ∙ sum_by-sum_below (λ b r. one ((get_or r j 0 == a) && (get_or r i 0 == b))) n (first ∷ R)
      ∙ sum_below-same n _ (λ b. 1) (λ b lb. sym (agree-is (first ∷ R) j i a b) ∙ agree_any j i a b ne l m la lb) ∙ sum_below-const n 1 ∙ omega arith
    where
      shared : (r : List ℕ) → IsRow k n r → sum_below n (λ b. one ((get_or r j 0 == a) && (get_or r i 0 == b))) ≡ one (get_or r j 0 == a)
      shared r s = elim (cases_eq (get_or r j 0) a) [
        | inl e ↦ count_one n (get_or r i 0) (λ b. (get_or r j 0 == a) && (get_or r i 0 == b)) (s.below i 0 (omega (arith, s.size))) (both_equal-from (get_or r j 0) (get_or r i 0) a (get_or r i 0) e refl)
            (λ b lb t. sym (both_equal (get_or r j 0) (get_or r i 0) a b t).1) ∙ sym (one-true _ (eq-eqb (get_or r j 0) a e))
        | inr ne ↦ sum_below-zero n _ (λ b lb. one-false _ (λ t. ne (both_equal (get_or r j 0) (get_or r i 0) a b t).0)) ∙ sym (one-false _ (λ t. ne (eqb-true (get_or r j 0) a t)))
      ]

  pub in_all_columns : sum_by (shared_columns k first) (first ∷ R) ≡ k * n
  unfolding shared_columns
  in_all_columns = sum_by-sum_below (λ j r. one (get_or r j 0 == get_or first j 0)) k (first ∷ R)
      ∙ sum_below-same k _ (λ j. n) (λ j l. elim (cases_eq j 0) [
        | inl e ↦ in_column j 1 (get_or first j 0) (omega arith) l (omega arith) (row.below j 0 (omega (arith, row.size)))
        | inr ne ↦ in_column j 0 (get_or first j 0) ne l (omega arith) (row.below j 0 (omega (arith, row.size)))
      ]) ∙ sum_below-const k n

  pub of_the_first : shared_columns k first first ≡ k
  unfolding shared_columns
  of_the_first = sum_below-same k _ (λ j. 1) (λ j l. one-true _ (eq-eqb (get_or first j 0) (get_or first j 0) refl)) ∙ sum_below-const k 1 ∙ omega arith

  of_the_others : All (λ r. shared_columns k first r ≤ 1) R
  unfolding shared_columns
  of_the_others m d l = at_most_one k (λ j. get_or (get_or R m d) j 0 == get_or first j 0) (λ i j w h e f.
      omega (
        arith,
        agree-is (first ∷ R) i j (get_or first i 0) (get_or first j 0),
        oa.pairs i j (get_or first i 0) (get_or first j 0) w h (row.below i 0 (omega (arith, row.size))) (row.below j 0 (omega (arith, row.size))),
        two_places (λ r. (get_or r i 0 == get_or first i 0) && (get_or r j 0 == get_or first j 0)) (first ∷ R) 0 (suc m) d (omega arith) (omega arith)
            (both_equal-from (get_or first i 0) (get_or first j 0) _ _ refl refl)
            (both_equal-from (get_or (get_or R m d) i 0) (get_or (get_or R m d) j 0) _ _ (eqb-true _ _ e) (eqb-true _ _ f)),
      ))

  counted : k * n + 1 ≤ k + n * n
  counted = omega (arith, in_all_columns, sum_by-cons (shared_columns k first) first R, of_the_first, sum_by-le (shared_columns k first) 1 R of_the_others, oa.count)

cancelled : (k n : ℕ) → 2 ≤ n → k * n + 1 ≤ k + n * n → k ≤ n + 1
cancelled k (suc (suc n)) two h = elim (cases_lt (suc (suc n) + 1) k) [
  | inl l ↦ absurd (omega (arith, h, mul-le-mul_left (n + 1) l))
  | inr l ↦ l
]
cancelled k (suc zero) two h = absurd (omega arith)
cancelled k zero two h = absurd (omega arith)

pub columns_bound : (k n : ℕ) (R : List (List ℕ)) → 2 ≤ k → 2 ≤ n → IsOa R k n → k ≤ n + 1
columns_bound k n [] two big oa = absurd (omega (arith, oa.count, mul-le-mul_left n big))
columns_bound k n (r ∷ R) two big oa = cancelled k n big (counted k n r R oa two)

-- so there is no transversal design with more than n + 1 groups
pub groups_bound : (k n : ℕ) (B : List (List ℕ)) → 2 ≤ k → 2 ≤ n → IsTd B k n → k ≤ n + 1
groups_bound k n B two big td = columns_bound k n _ two big (oa_from_td k n B (omega arith) td two)
