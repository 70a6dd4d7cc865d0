-- How the lists of triples grow: a loop begins with none, and each round appends what the next number gives.
use Rattle.std.proofs.Common.{[], ap, ℕ, ◌%◌, ◌++◌, ◌+◌, ◌==◌, ◌∙◌, ◌∷◌, ◌≡◌, ◌≢◌}
use Rattle.counting.proofs.Booleans.{cond-false, cond-true, eq-eqb, ne_eqb}
use Rattle.std.proofs.lemmas.List.{append-nil, append_assoc}
use Rattle.counting.proofs.Counts.{join_below_more, join_below_none}
use Rattle.triple_systems.specs.Double.{six_point_blocks}
use Rattle.triple_systems.specs.declared.triples.Pairs.{Pairs}
use Rattle.triple_systems.specs.Triples.{column, columns, infinite_triple, infinite_triples, infinite_triples_of, levels, partners, triple, triples_above, triples_with}

pub columns-none : (n : ℕ) → columns n 0 ≡ []
unfolding columns
columns-none n = join_below_none _

pub columns-more : (n m : ℕ) → columns n (m + 1) ≡ columns n m ++ column n m ∷ []
unfolding columns
columns-more n m = join_below_more m _

module _ (n : ℕ) (op : ℕ → ℕ → ℕ) where
  pub triples_with-none : (i j y : ℕ) → triples_with n op i j y 0 ≡ []
  unfolding triples_with
  triples_with-none i j y = join_below_none _

  pub triples_with-same : (i j y m : ℕ) → m ≡ y → triples_with n op i j y (m + 1) ≡ triples_with n op i j y m
  unfolding triples_with
  triples_with-same i j y m e = join_below_more m _ ∙ ap (λ t. triples_with n op i j y m ++ t) (cond-true (m == y) _ _ (eq-eqb m y e)) ∙ append-nil (triples_with n op i j y m)

  pub triples_with-more : (i j y m : ℕ) → m ≢ y → triples_with n op i j y (m + 1) ≡ triples_with n op i j y m ++ triple n i j m y (op m y) ∷ []
  unfolding triples_with
  triples_with-more i j y m ne = join_below_more m _ ∙ ap (λ t. triples_with n op i j y m ++ t) (cond-false (m == y) _ _ (ne_eqb m y ne))

module _ (pairs : Pairs) (n : ℕ) (op : ℕ → ℕ → ℕ) where
  pub triples_above-none : (i j : ℕ) → triples_above pairs n op i j 0 ≡ []
  unfolding triples_above
  triples_above-none i j = join_below_none _

  pub triples_above-more : (i j m : ℕ) → triples_above pairs n op i j (m + 1) ≡ triples_above pairs n op i j m ++ triples_with n op i j m (partners pairs n m)
  unfolding triples_above
  triples_above-more i j m = join_below_more m _

  pub levels-none : levels pairs n op 0 ≡ []
  unfolding levels
  levels-none = join_below_none _

  pub levels-more : (m : ℕ) → levels pairs n op (m + 1) ≡ levels pairs n op m ++ triples_above pairs n op m ((m + 1) % 3) n
  unfolding levels
  levels-more m = join_below_more m _

module _ (n s : ℕ) where
  pub infinite_triples_of-none : (i : ℕ) → infinite_triples_of n s i 0 ≡ []
  unfolding infinite_triples_of
  infinite_triples_of-none i = join_below_none _

  pub infinite_triples_of-more : (i m : ℕ) → infinite_triples_of n s i (m + 1) ≡ infinite_triples_of n s i m ++ infinite_triple n s i m ∷ []
  unfolding infinite_triples_of
  infinite_triples_of-more i m = join_below_more m _

  pub infinite_triples-none : (m : ℕ) → infinite_triples n s m 0 ≡ []
  unfolding infinite_triples
  infinite_triples-none m = join_below_none _

  pub infinite_triples-more : (m h : ℕ) → infinite_triples n s m (h + 1) ≡ infinite_triples n s m h ++ infinite_triples_of n s h m
  unfolding infinite_triples
  infinite_triples-more m h = join_below_more h _

pub six_point_blocks-none : six_point_blocks 0 ≡ []
unfolding six_point_blocks
six_point_blocks-none = join_below_none _

pub six_point_blocks-more : (m : ℕ) → six_point_blocks (m + 1) ≡ six_point_blocks m ++ (5 ∷ m ∷ (m + 2) % 5 ∷ []) ∷ (m ∷ (m + 1) % 5 ∷ (m + 2) % 5 ∷ []) ∷ []
unfolding six_point_blocks
six_point_blocks-more m = join_below_more m _

pub ruleset steps = (
  append-nil,
  append_assoc,
  columns-none,
  columns-more,
  triples_with-none,
  triples_with-same,
  triples_with-more,
  triples_above-none,
  triples_above-more,
  levels-none,
  levels-more,
  infinite_triples_of-none,
  infinite_triples_of-more,
  infinite_triples-none,
  infinite_triples-more,
  six_point_blocks-none,
  six_point_blocks-more,
)
