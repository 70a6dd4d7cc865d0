-- Which points the triples with the infinite point hold.
use Rattle.std.proofs.Common.{Bool, List, arith, inl, true, ℕ, ◌%◌, ◌&&◌, ◌+◌, ◌<◌, ◌∙◌, ◌≡◌, ◌≢◌, ◌≤◌, ◌⊎◌}
use Rattle.counting.proofs.Booleans.{and_from, both}
use Rattle.std.proofs.lemmas.List.Elements.{All-from_recursion}
use Rattle.std.specs.Prelude.{All}
use Rattle.counting.proofs.Counts.{grid_none, grid_one}
use Rattle.counting.proofs.Grids.{grid, grid_two}
use Rattle.counting.proofs.Ranges.{All-join_below, each_below}
use Rattle.counting.specs.Sums.{one}
use Rattle.design_base.proofs.Canonical.{IsPointSet}
use Rattle.design_base.proofs.Cover.{cover-join_below, cover-single}
use Rattle.design_base.proofs.Places.{Stands, set_of_places, stands, stands-from}
use Rattle.design_base.specs.Arrays.{place}
use Rattle.design_base.specs.Blocks.{cover, holds}
use Rattle.triple_systems.specs.Triples.{infinite_triple, infinite_triples, infinite_triples_of}

module _ (n s m : ℕ) (fits : m + s ≤ n) where
  -- triple a of group i holds the point (x,c)
  abbrev pub InTriple : ℕ → ℕ → ℕ → ℕ → Type 0
  InTriple i a c x = Stands 3 0 i (a + s) ((i + 1) % 3) a c x

  -- the triples that hold both points are counted by groups and numbers
  abbrev Both : ℕ → ℕ → ℕ → ℕ → ℕ → ℕ → Bool
  Both c x d y i a = holds (place n c x) (infinite_triple n s i a) && holds (place n d y) (infinite_triple n s i a)

  counted : (c x d y : ℕ) → cover (infinite_triples n s m 3) (place n c x) (place n d y) ≡ grid 3 m (λ i a. one (Both c x d y i a))
  unfolding infinite_triples infinite_triples_of
  counted c x d y = simp (cover-join_below, cover-single)

  in_triple : (i a c x : ℕ) → a < m → x < n → holds (place n c x) (infinite_triple n s i a) ≡ true → InTriple i a c x
  in_triple i a c x l k e = stands n 3 0 i (a + s) ((i + 1) % 3) a c x (omega arith) (omega arith) (omega arith) k e

  both-from : (c x d y i a : ℕ) → InTriple i a c x → InTriple i a d y → Both c x d y i a ≡ true
  both-from c x d y i a p q = and_from _ _ (stands-from n 3 0 i (a + s) ((i + 1) % 3) a c x p) (stands-from n 3 0 i (a + s) ((i + 1) % 3) a d y q)

  pub infinite_one : (c d x y i a : ℕ) → x < n → y < n → i < 3 → a < m → InTriple i a c x → InTriple i a d y → ((j b : ℕ) → j < 3 → b < m → InTriple j b c x → InTriple j b d y → (j ≡ i) × (b ≡ a)) → cover (infinite_triples n s m 3) (place n c x) (place n d y) ≡ 1
  infinite_one c d x y i a l k h g p q u = counted c x d y ∙ grid_one 3 m i a (Both c x d y) h g (both-from c x d y i a p q)
      (λ j b z w e. let es = both _ _ e in u j b z w (in_triple j b c x w l es.0) (in_triple j b d y w k es.1))

  pub infinite_two : (c d x y i a j b : ℕ) → x < n → y < n → i < 3 → a < m → j < 3 → b < m → (i ≢ j) ⊎ (a ≢ b) → InTriple i a c x → InTriple i a d y → InTriple j b c x → InTriple j b d y →
      ((o f : ℕ) → o < 3 → f < m → InTriple o f c x → InTriple o f d y → ((o ≡ i) × (f ≡ a)) ⊎ ((o ≡ j) × (f ≡ b))) → cover (infinite_triples n s m 3) (place n c x) (place n d y) ≡ 2
  infinite_two c d x y i a j b l k h g hh gg ne p q r t u = counted c x d y ∙ grid_two 3 m i a j b (Both c x d y) h g hh gg ne (both-from c x d y i a p q) (both-from c x d y j b r t)
      (λ o f z w e. let es = both _ _ e in u o f z w (in_triple o f c x w l es.0) (in_triple o f d y w k es.1))

  pub infinite_none : (c d x y : ℕ) → x < n → y < n → ((j b : ℕ) → j < 3 → b < m → InTriple j b c x → InTriple j b d y → ⊥) → cover (infinite_triples n s m 3) (place n c x) (place n d y) ≡ 0
  infinite_none c d x y l k u = counted c x d y ∙ grid_none 3 m (Both c x d y)
      (λ j b z w e. let es = both _ _ e in u j b z w (in_triple j b c x w l es.0) (in_triple j b d y w k es.1))

  -- such a triple has three different points
  pub infinite_sets : (v : ℕ) → ((i x : ℕ) → i < 3 → x < n → place n i x < v) → place n 3 0 < v → All (IsPointSet v (λ s. s ≡ 3)) (infinite_triples n s m 3)
  unfolding infinite_triples infinite_triples_of
  infinite_sets v below last = All-join_below S 3 _ (λ i k. All-from_recursion S _ (each_below S m (infinite_triple n s i) (λ x l.
      set_of_places v n 3 0 i (x + s) ((i + 1) % 3) x (omega arith) (omega arith) (omega arith) (inl (omega arith)) (inl (omega arith)) (inl (omega arith))
      last (below i (x + s) k (omega arith)) (below ((i + 1) % 3) x (omega arith) (omega arith)))))
    where
      S : List ℕ → Type 0
      S = IsPointSet v (λ s. s ≡ 3)
