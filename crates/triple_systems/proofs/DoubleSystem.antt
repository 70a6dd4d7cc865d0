-- The blocks of three points in which two points stand together twice.
use Rattle.std.proofs.Common.{Bool, List, [], ap, arith, inl, inr, refl, subst, suc, sym, true, zero, ℕ, ◌%◌, ◌*◌, ◌++◌, ◌+◌, ◌/◌, ◌<◌, ◌==◌, ◌||◌, ◌∷◌, ◌≡◌, ◌≢◌, ◌≤◌}
use Rattle.counting.proofs.Booleans.{cases_eq, cond-false, cond-true, eq-eqb, ne_eqb}
use Rattle.std.proofs.lemmas.Bool.Decides.{nat_tests}
use Rattle.std.proofs.lemmas.List.Elements.{All-append, All-cons, All-nil}
use Rattle.std.specs.Prelude.{All}
use Rattle.counting.proofs.Ranges.{All-join_below}
use Rattle.counting.specs.Sums.{join_below}
use Rattle.design_base.proofs.Canonical.{IsLoose, IsPointSet, design_from_loose, three_set}
use Rattle.design_base.proofs.Cover.{cover-append}
use Rattle.design_base.proofs.Places.{place-below, place-zero}
use Rattle.design_base.specs.Arrays.{place}
use Rattle.design_base.specs.Blocks.{IsBibd, cover, holds}
use Rattle.design_base.specs.Canonical.{canonical}
use Rattle.triple_systems.proofs.Columns.{column_sets, columns_fourth, columns_none, columns_one}
use Rattle.triple_systems.proofs.IdempotentSquare.{idempotent-self, idempotent_latin}
use Rattle.triple_systems.proofs.Levels.{IsColumns, columns_beside, three_groups, three_groups_more}
use Rattle.triple_systems.proofs.OrderedPairs.{ordered_level, ordered_above, ordered_level_sets}
use Rattle.triple_systems.proofs.InfiniteTriples.{infinite_sets, infinite_none, infinite_one, infinite_two}
use Rattle.triple_systems.specs.Squares.{IsIdempotent, IsLatin, idempotent}
use Rattle.triple_systems.specs.Double.{double_blocks, double_columns, six_point_blocks}
use Rattle.triple_systems.specs.declared.triples.Pairs.TheVariants.{Ordered}
use Rattle.triple_systems.specs.Triples.{columns, levels, infinite_triples}

module _ (n : ℕ) (op : ℕ → ℕ → ℕ) (square : IsLatin n op) (self : IsIdempotent n op) (pos : 0 < n) (C : List (List ℕ)) (cols : IsColumns n 2 C) where
  abbrev blocks : List (List ℕ)
  blocks = C ++ levels Ordered n op 3

  -- with all three groups and no more
  pub double_loose : All (IsPointSet (3 * n) (λ s. s ≡ 3)) C → IsLoose blocks (3 * n) (λ s. s ≡ 3) (λ x y. 2)
  unfolding levels
  double_loose sets = record {
    blocks = All-append (IsPointSet (3 * n) (λ s. s ≡ 3)) C (levels Ordered n op 3) sets (ordered_level_sets n op square self (3 * n) (λ i x l m. place-below n 3 i x l m));
    pairs = three_groups n op 2 (ordered_level n op square self) (ordered_above n op square self) pos C (columns_beside n op 2 C self cols);
  }

  -- and with one point more
  pub double_loose_more : All (IsPointSet (3 * n + 1) (λ s. s ≡ 3)) C → ((c x : ℕ) → c < 3 → x < n → cover C (place n c x) (place n 3 0) ≡ 2) → IsLoose blocks (3 * n + 1) (λ s. s ≡ 3) (λ x y. 2)
  unfolding levels
  double_loose_more sets last = record {
    blocks = All-append (IsPointSet (3 * n + 1) (λ s. s ≡ 3)) C (levels Ordered n op 3) sets (ordered_level_sets n op square self (3 * n + 1) (λ i x l m. omega (arith, place-below n 3 i x l m)));
    pairs = three_groups_more n op 2 (ordered_level n op square self) (ordered_above n op square self) pos C (columns_beside n op 2 C self cols) last;
  }

-- ---- the columns twice, and with the triples of the infinite point
twice : (n : ℕ) → IsColumns n 2 (columns n n ++ columns n n)
twice n = record {
  same = λ c d x k e l. omega (arith, cover-append (columns n n) (columns n n) (place n c x) (place n d x), columns_one n n (omega arith) c d x k (omega arith) l);
  apart = λ c d x y k h l m ne. omega (arith, cover-append (columns n n) (columns n n) (place n c x) (place n d y), columns_none n n (omega arith) c d x y l m ne);
}

module _ (n : ℕ) (pos : 0 < n) where
  with_infinite : IsColumns n 2 (columns n n ++ infinite_triples n 0 n 3)
  with_infinite = record {
    same = λ c d x k e l. omega (
      arith,
      cover-append (columns n n) (infinite_triples n 0 n 3) (place n c x) (place n d x),
      columns_one n n (omega arith) c d x k (omega arith) l,
      infinite_one n 0 n (omega arith) c d x x c x l l k l (inr (inl (refl, omega arith))) (inr (inr (sym e, refl))) (λ j b z w p q. (omega arith, omega arith)),
    );
    apart = λ c d x y k h l m ne. omega (
      arith,
      cover-append (columns n n) (infinite_triples n 0 n 3) (place n c x) (place n d y),
      columns_none n n (omega arith) c d x y l m ne,
      infinite_none n 0 n (omega arith) c d x y l m (λ j b z w p q. omega arith),
    );
  }

  with_infinite_last : (c x : ℕ) → c < 3 → x < n → cover (columns n n ++ infinite_triples n 0 n 3) (place n c x) (place n 3 0) ≡ 2
  with_infinite_last c x k l = omega (
    arith,
    cover-append (columns n n) (infinite_triples n 0 n 3) (place n c x) (place n 3 0),
    columns_fourth n n (omega arith) c 3 x 0 l pos (omega arith),
    infinite_two n 0 n (omega arith) c 3 x 0 c x ((c + 2) % 3) x l pos k l (omega arith) l (inl (omega arith)) (inr (inl (refl, omega arith))) (inl (refl, refl)) (inr (inr (omega arith, refl))) (inl (refl, refl)) (λ o f z w p q. grind arith),
  )

-- ---- six points
below_six : (P : ℕ → Type 0) → P 0 → P 1 → P 2 → P 3 → P 4 → P 5 → (x : ℕ) → x < 6 → P x
below_six P a b c d e f zero l = a
below_six P a b c d e f (suc zero) l = b
below_six P a b c d e f (suc (suc zero)) l = c
below_six P a b c d e f (suc (suc (suc zero))) l = d
below_six P a b c d e f (suc (suc (suc (suc zero)))) l = e
below_six P a b c d e f (suc (suc (suc (suc (suc zero))))) l = f
below_six P a b c d e f (suc (suc (suc (suc (suc (suc x)))))) l = absurd (omega arith)

-- two of the points stand together twice
abbrev stand_twice : ℕ → ℕ → Bool
stand_twice x y = (x == y) || (cover (six_point_blocks 5) x y == 2)

six_pairs : (x : ℕ) → x < 6 → (y : ℕ) → y < 6 → stand_twice x y ≡ true
unfolding six_point_blocks join_below cover holds
six_pairs = below_six (λ x. (y : ℕ) → y < 6 → stand_twice x y ≡ true) (row 0 refl refl refl refl refl refl) (row 1 refl refl refl refl refl refl) (row 2 refl refl refl refl refl refl)
    (row 3 refl refl refl refl refl refl) (row 4 refl refl refl refl refl refl) (row 5 refl refl refl refl refl refl)
  where
    row : (x : ℕ) → stand_twice x 0 ≡ true → stand_twice x 1 ≡ true → stand_twice x 2 ≡ true → stand_twice x 3 ≡ true → stand_twice x 4 ≡ true → stand_twice x 5 ≡ true → (y : ℕ) → y < 6 → stand_twice x y ≡ true
    row x = below_six (λ y. stand_twice x y ≡ true)

-- what the test says
told : (x y c : ℕ) → x < y → ((x == y) || (c == 2)) ≡ true → c ≡ 2
told x y c l e = grind (arith, nat_tests)

six_loose : IsLoose (six_point_blocks 5) 6 (λ s. s ≡ 3) (λ x y. 2)
unfolding six_point_blocks
six_loose = record {
  blocks = All-join_below S 5 _ (λ c l. All-cons S (5 ∷ c ∷ (c + 2) % 5 ∷ []) ((c ∷ (c + 1) % 5 ∷ (c + 2) % 5 ∷ []) ∷ []) (three_set 6 5 c ((c + 2) % 5) (omega arith) (omega arith) (omega arith) (omega arith) (omega arith) (omega arith))
      (All-cons S (c ∷ (c + 1) % 5 ∷ (c + 2) % 5 ∷ []) [] (three_set 6 c ((c + 1) % 5) ((c + 2) % 5) (omega arith) (omega arith) (omega arith) (omega arith) (omega arith) (omega arith)) (All-nil S)));
  pairs = λ x y l m. told x y (cover (six_point_blocks 5) x y) l (six_pairs x (omega arith) y m);
}
  where
    S : List ℕ → Type 0
    S = IsPointSet 6 (λ s. s ≡ 3)

-- ---- all orders
pub double_six : double_blocks 6 ≡ (six_point_blocks 5)
unfolding double_blocks
double_six = refl

pub double_else : (v : ℕ) → v ≢ 6 → double_blocks v ≡ double_columns (v / 3) (v % 3) ++ levels Ordered (v / 3) (idempotent (v / 3)) 3
unfolding double_blocks
double_else v ne = cond-false (v == 6) _ _ (ne_eqb v 6 ne)

columns-whole : (n rest : ℕ) → rest ≡ 0 → double_columns n rest ≡ columns n n ++ columns n n
unfolding double_columns
columns-whole n rest e = ap (λ C. columns n n ++ C) (cond-true (rest == 0) _ _ (eq-eqb rest 0 e))

columns-more : (n rest : ℕ) → rest ≢ 0 → double_columns n rest ≡ columns n n ++ infinite_triples n 0 n 3
unfolding double_columns
columns-more n rest e = ap (λ C. columns n n ++ C) (cond-false (rest == 0) _ _ (ne_eqb rest 0 e))

double_whole : (n : ℕ) → 0 < n → n ≢ 2 → IsBibd (canonical ((columns n n ++ columns n n) ++ levels Ordered n (idempotent n) 3)) (3 * n) 3 2
double_whole n pos ne = design_from_loose (3 * n) (λ s. s ≡ 3) _ (λ x y. 2) (double_loose n (idempotent n) (idempotent_latin n pos ne) (idempotent-self n ne) pos (columns n n ++ columns n n) (twice n)
    (All-append (IsPointSet (3 * n) (λ s. s ≡ 3)) (columns n n) (columns n n) sets sets))
  where
    sets : All (IsPointSet (3 * n) (λ s. s ≡ 3)) (columns n n)
    sets = column_sets n n (omega arith) (3 * n) (λ i x l m. place-below n 3 i x l m)

double_more : (n : ℕ) → 0 < n → n ≢ 2 → IsBibd (canonical ((columns n n ++ infinite_triples n 0 n 3) ++ levels Ordered n (idempotent n) 3)) (3 * n + 1) 3 2
double_more n pos ne = design_from_loose (3 * n + 1) (λ s. s ≡ 3) _ (λ x y. 2) (double_loose_more n (idempotent n) (idempotent_latin n pos ne) (idempotent-self n ne) pos (columns n n ++ infinite_triples n 0 n 3) (with_infinite n pos)
    (All-append (IsPointSet (3 * n + 1) (λ s. s ≡ 3)) (columns n n) (infinite_triples n 0 n 3) (column_sets n n (omega arith) (3 * n + 1) below) (infinite_sets n 0 n (omega arith) (3 * n + 1) below (omega (arith, place-zero n 3))))
    (with_infinite_last n pos))
  where
    below : (i x : ℕ) → i < 3 → x < n → place n i x < 3 * n + 1
    below i x l m = omega (arith, place-below n 3 i x l m)

pub double_design : (v : ℕ) → 3 ≤ v → v % 3 ≢ 2 → v ≢ 7 → IsBibd (canonical (double_blocks v)) v 3 2
double_design v three shape seven = elim (cases_eq v 6) [
  | inl e ↦ rw (e, double_six) (design_from_loose 6 (λ s. s ≡ 3) (six_point_blocks 5) (λ x y. 2) six_loose)
  | inr ne ↦ subst (λ B. IsBibd (canonical B) v 3 2) (sym (double_else v ne)) (elim (cases_eq (v % 3) 0) [
    | inl a ↦ let e : 3 * (v / 3) ≡ v = omega arith in subst (λ w. IsBibd (canonical (double_columns (v / 3) (v % 3) ++ levels Ordered (v / 3) (idempotent (v / 3)) 3)) w 3 2) e
        (rw (columns-whole (v / 3) (v % 3) a) (double_whole (v / 3) (omega arith) (omega arith)))
    | inr a ↦ let e : 3 * (v / 3) + 1 ≡ v = omega arith in subst (λ w. IsBibd (canonical (double_columns (v / 3) (v % 3) ++ levels Ordered (v / 3) (idempotent (v / 3)) 3)) w 3 2) e
        (rw (columns-more (v / 3) (v % 3) a) (double_more (v / 3) (omega arith) (omega arith)))
  ])
]
