-- Arrays whose rows are given by three numbers.
use Rattle.std.proofs.Common.{Bool, List, [], ap, ap₂, arith, get_or, length, refl, sym, true, ℕ, ◌&&◌, ◌*◌, ◌<◌, ◌==◌, ◌∙◌, ◌∷◌, ◌≡◌, ◌≤◌}
use Rattle.std.proofs.lemmas.Bool.Decides.{nat_tests}
use Rattle.std.proofs.lemmas.List.Elements.{All-from_recursion, recursion_from_All}
use Rattle.std.specs.List.{sum_by}
use Rattle.std.specs.Prelude.{All}
use Rattle.counting.proofs.Counts.{count_equal, one-most, sum_below-const, sum_below-mul, sum_below-same}
use Rattle.counting.proofs.Lists.{one-and, sum_by-agree, sum_by-join_below, sum_by-length, sum_by-single, sum_by-sum_below}
use Rattle.counting.proofs.Ranges.{All-join_below, each_below, get_or-list_below, length-list_below}
use Rattle.counting.proofs.Sorting.{each-sort_by, length-sort_by, sum_by-sort_by}
use Rattle.counting.proofs.Totals.{each_most, one_passes}
use Rattle.counting.specs.Sorting.{sort_by}
use Rattle.counting.specs.Sums.{list_below, one, sum_below}
use Rattle.design_base.proofs.Rows.{symbol_below}
use Rattle.design_base.specs.Arrays.{IsRow}
use Rattle.design_base.specs.Canonical.{lex_le}
use Rattle.three_designs.specs.Arrays.{cube_rows}
use Rattle.three_designs.specs.StrengthThree.{IsOa3, agree_in_three}
use Rattle.three_designs.proofs.FewTerms.{sum_below-most, sum_below-some, sum_below-unique}

pub agree_in_three-is : (R : List (List ℕ)) (h i j a b c : ℕ) → agree_in_three R h i j a b c ≡ sum_by (λ r. one ((get_or r h 0 == a) && ((get_or r i 0 == b) && (get_or r j 0 == c)))) R
unfolding agree_in_three one
agree_in_three-is R h i j a b c = refl

abbrev three_tests : ℕ → ℕ → ℕ → ℕ → ℕ → ℕ → Bool
three_tests x y z a b c = (x == a) && ((y == b) && (z == c))

three_equal : (x y z a b c : ℕ) → three_tests x y z a b c ≡ true → (x ≡ a) × (y ≡ b) × (z ≡ c)
three_equal x y z a b c h = grind (arith, nat_tests)

-- the triples of symbols share the rows out among them
agree_in_three-all : (k n : ℕ) (R : List (List ℕ)) → All (IsRow k n) R → (h i j : ℕ) → h < k → i < k → j < k → sum_below n (λ a. sum_below n (λ b. sum_below n (λ c. agree_in_three R h i j a b c))) ≡ length R
agree_in_three-all k n R rows h i j lh li lj =
    sum_below-same n _ (λ a. sum_by (λ r. sum_below n (λ b. sum_below n (λ c. test r a b c))) R) (λ a la.
    sum_below-same n _ (λ b. sum_by (λ r. sum_below n (λ c. test r a b c)) R) (λ b lb.
    sum_below-same n _ (λ c. sum_by (λ r. test r a b c) R) (λ c lc. agree_in_three-is R h i j a b c)
    ∙ sym (sum_by-sum_below (λ c r. test r a b c) n R))
    ∙ sym (sum_by-sum_below (λ b r. sum_below n (λ c. test r a b c)) n R))
    ∙ sym (sum_by-sum_below (λ a r. sum_below n (λ b. sum_below n (λ c. test r a b c))) n R)
    ∙ sum_by-agree (IsRow k n) _ (λ r. 1) R rows (λ r s. once (get_or r h 0) (get_or r i 0) (get_or r j 0) (symbol_below k n r s h lh) (symbol_below k n r s i li) (symbol_below k n r s j lj))
    ∙ sum_by-length R
  where
    test : List ℕ → ℕ → ℕ → ℕ → ℕ
    test r a b c = one (three_tests (get_or r h 0) (get_or r i 0) (get_or r j 0) a b c)

    once : (x y z : ℕ) → x < n → y < n → z < n → sum_below n (λ a. sum_below n (λ b. sum_below n (λ c. one (three_tests x y z a b c)))) ≡ 1
    once x y z lx ly lz = sum_below-same n _ (λ a. one (x == a)) (λ a la.
        sum_below-same n _ (λ b. one (x == a) * one (y == b)) (λ b lb.
        sum_below-same n _ (λ c. one (x == a) * one (y == b) * one (z == c)) (λ c lc. one-and (x == a) ((y == b) && (z == c)) ∙ ap (λ t. one (x == a) * t) (one-and (y == b) (z == c)) ∙ omega arith)
        ∙ sum_below-mul n (one (x == a) * one (y == b)) (λ c. one (z == c)) ∙ ap (λ t. one (x == a) * one (y == b) * t) (count_equal n z lz) ∙ omega arith)
        ∙ sum_below-mul n (one (x == a)) (λ b. one (y == b)) ∙ ap (λ t. one (x == a) * t) (count_equal n y ly) ∙ omega arith)
        ∙ count_equal n x lx

-- where no two rows show the same triple in three columns, each triple is shown once
oa3_from_count : (k n : ℕ) (R : List (List ℕ)) → All (IsRow k n) R → length R ≡ n * n * n
    → ((h i j a b c : ℕ) → h < i → i < j → j < k → a < n → b < n → c < n → agree_in_three R h i j a b c ≤ 1) → IsOa3 R k n
oa3_from_count k n R rows count most = record { count = count; rows = rows; triples = triples }
  where
    triples : (h i j a b c : ℕ) → h < i → i < j → j < k → a < n → b < n → c < n → agree_in_three R h i j a b c ≡ 1
    triples h i j a b c lh li lj la lb lc = each_most n 1 (λ c. agree_in_three R h i j a b c) (λ c lc. top a b c la lb lc) (omega (arith, line)) c lc
      where
        top : (a b c : ℕ) → a < n → b < n → c < n → agree_in_three R h i j a b c ≤ 1
        top a b c la lb lc = most h i j a b c lh li lj la lb lc

        line_most : (a b : ℕ) → a < n → b < n → sum_below n (λ c. agree_in_three R h i j a b c) ≤ n
        line_most a b la lb = omega (arith, sum_below-most n 1 (λ c. agree_in_three R h i j a b c) (λ c lc. top a b c la lb lc))

        plane_most : (a : ℕ) → a < n → sum_below n (λ b. sum_below n (λ c. agree_in_three R h i j a b c)) ≤ n * n
        plane_most a la = sum_below-most n n (λ b. sum_below n (λ c. agree_in_three R h i j a b c)) (λ b lb. line_most a b la lb)

        plane : sum_below n (λ b. sum_below n (λ c. agree_in_three R h i j a b c)) ≡ n * n
        plane = each_most n (n * n) (λ a. sum_below n (λ b. sum_below n (λ c. agree_in_three R h i j a b c))) plane_most
            (omega (arith, agree_in_three-all k n R rows h i j (omega arith) (omega arith) lj, count)) a la

        line : sum_below n (λ c. agree_in_three R h i j a b c) ≡ n
        line = each_most n n (λ b. sum_below n (λ c. agree_in_three R h i j a b c)) (λ b lb. line_most a b la lb) (omega (arith, plane)) b lb

-- the entries in three columns tell x, y and z
pub record IsDetermined (k n : ℕ) (e : ℕ → ℕ → ℕ → ℕ → ℕ) : Type 0 where
  pub small : (x y z j : ℕ) → x < n → y < n → z < n → j < k → e x y z j < n
  pub unique : (h i j x y z u v w : ℕ) → h < i → i < j → j < k → x < n → y < n → z < n → u < n → v < n → w < n
      → e x y z h ≡ e u v w h → e x y z i ≡ e u v w i → e x y z j ≡ e u v w j → (x ≡ u) × (y ≡ v) × (z ≡ w)

module _ (k n : ℕ) (e : ℕ → ℕ → ℕ → ℕ → ℕ) (determined : IsDetermined k n e) where
  abbrev row : ℕ → ℕ → ℕ → List ℕ
  row x y z = list_below k (e x y z)

  sum-cube : (f : List ℕ → ℕ) → sum_by f (cube_rows k n e) ≡ sum_below n (λ x. sum_below n (λ y. sum_below n (λ z. f (row x y z))))
  unfolding cube_rows
  sum-cube f = sum_by-join_below f n _
      ∙ sum_below-same n _ _ (λ x lx. sum_by-join_below f n (λ y. list_below n (λ z. row x y z))
      ∙ sum_below-same n _ (λ y. sum_below n (λ z. f (row x y z))) (λ y ly. sum_by-join_below f n (λ z. row x y z ∷ [])
      ∙ sum_below-same n _ (λ z. f (row x y z)) (λ z lz. sum_by-single f (row x y z))))

  rows_of_cube : All (IsRow k n) (cube_rows k n e)
  unfolding cube_rows
  rows_of_cube = All-join_below (IsRow k n) n _ (λ x lx. All-join_below (IsRow k n) n _ (λ y ly.
      All-from_recursion (IsRow k n) _ (each_below (IsRow k n) n (λ z. row x y z) (λ z lz. record {
        size = length-list_below k (e x y z);
        below = All-from_recursion (λ a. a < n) _ (each_below (λ a. a < n) k (e x y z) (λ j lj. determined.small x y z j lx ly lz lj));
      }))))

  length-cube : length (cube_rows k n e) ≡ n * n * n
  length-cube = sym (sum_by-length (cube_rows k n e)) ∙ sum-cube (λ r. 1)
      ∙ sum_below-same n _ (λ x. n * n) (λ x lx. sum_below-same n _ (λ y. n) (λ y ly. sum_below-const n 1 ∙ omega arith) ∙ sum_below-const n n)
      ∙ sum_below-const n (n * n) ∙ omega arith

  agree_once : (h i j a b c : ℕ) → h < i → i < j → j < k → a < n → b < n → c < n → agree_in_three (cube_rows k n e) h i j a b c ≤ 1
  agree_once h i j a b c lh li lj la lb lc = rw (agree_in_three-is, sum-cube, same) (
      sum_below-unique n 1 _ (λ x lx. in_plane x lx) (λ x u lx lu p q.
      let s = sum_below-some n _ p in let t = sum_below-some n _ s.2 in
      let s2 = sum_below-some n _ q in let t2 = sum_below-some n _ s2.2 in
      (agree x s.0 t.0 u s2.0 t2.0 lx s.1 t.1 lu s2.1 t2.1 t.2 t2.2).0))
    where
      test : ℕ → ℕ → ℕ → ℕ
      test x y z = one (three_tests (e x y z h) (e x y z i) (e x y z j) a b c)

      same : sum_below n (λ x. sum_below n (λ y. sum_below n (λ z. one (three_tests (get_or (row x y z) h 0) (get_or (row x y z) i 0) (get_or (row x y z) j 0) a b c))))
          ≡ sum_below n (λ x. sum_below n (λ y. sum_below n (λ z. test x y z)))
      same = sum_below-same n _ _ (λ x lx. sum_below-same n _ _ (λ y ly. sum_below-same n _ (λ z. test x y z) (λ z lz.
          ap (λ t. one (three_tests t (get_or (row x y z) i 0) (get_or (row x y z) j 0) a b c)) (get_or-list_below k (e x y z) h 0 (omega arith))
          ∙ ap₂ (λ s t. one (three_tests (e x y z h) s t a b c)) (get_or-list_below k (e x y z) i 0 (omega arith)) (get_or-list_below k (e x y z) j 0 lj))))

      agree : (x y z u v w : ℕ) → x < n → y < n → z < n → u < n → v < n → w < n → 0 < test x y z → 0 < test u v w → (x ≡ u) × (y ≡ v) × (z ≡ w)
      agree x y z u v w lx ly lz lu lv lw p q =
          let f = three_equal _ _ _ a b c (one_passes _ p) in let g = three_equal _ _ _ a b c (one_passes _ q) in
          determined.unique h i j x y z u v w lh li lj lx ly lz lu lv lw (f.0 ∙ sym g.0) (f.1 ∙ sym g.1) (f.2 ∙ sym g.2)

      in_line : (x y : ℕ) → x < n → y < n → sum_below n (λ z. test x y z) ≤ 1
      in_line x y lx ly = sum_below-unique n 1 (λ z. test x y z) (λ z lz. one-most _) (λ z w lz lw p q. (agree x y z x y w lx ly lz lx ly lw p q).2)

      in_plane : (x : ℕ) → x < n → sum_below n (λ y. sum_below n (λ z. test x y z)) ≤ 1
      in_plane x lx = sum_below-unique n 1 (λ y. sum_below n (λ z. test x y z)) (λ y ly. in_line x y lx ly) (λ y v ly lv p q.
          let s = sum_below-some n (λ z. test x y z) p in let t = sum_below-some n (λ z. test x v z) q in
          (agree x y s.0 x v t.0 lx ly s.1 lx lv t.1 s.2 t.2).1)

  pub cube_is_oa3 : IsOa3 (cube_rows k n e) k n
  cube_is_oa3 = oa3_from_count k n (cube_rows k n e) rows_of_cube length-cube agree_once

-- the order of the rows does not matter
pub oa3-sort_by : (k n : ℕ) (R : List (List ℕ)) → IsOa3 R k n → IsOa3 (sort_by lex_le R) k n
oa3-sort_by k n R oa = record {
  count = length-sort_by lex_le R ∙ oa.count;
  rows = All-from_recursion (IsRow k n) _ (each-sort_by lex_le (IsRow k n) R (recursion_from_All (IsRow k n) R oa.rows));
  triples = λ h i j a b c lh li lj la lb lc. agree_in_three-is (sort_by lex_le R) h i j a b c ∙ sum_by-sort_by lex_le _ R ∙ sym (agree_in_three-is R h i j a b c) ∙ oa.triples h i j a b c lh li lj la lb lc;
}
