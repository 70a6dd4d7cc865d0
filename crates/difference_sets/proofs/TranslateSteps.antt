-- The steps of the loops that write translates: what there is before the first, and what one more adds.
use Rattle.std.proofs.Common.{List, ap, arith, length, subst, ℕ, ◌*◌, ◌+◌, ◌∷◌, ◌≡◌}
use Rattle.std.proofs.lemmas.List.{append-nil, append_assoc}
use Rattle.std.proofs.lemmas.List.Elements.{All-head}
use Rattle.std.specs.Prelude.{All}
use Rattle.counting.proofs.Counts.{join_below_more, join_below_none}
use Rattle.design_base.specs.Blocks.{IsBlock}

pub ruleset steps = (append-nil, append_assoc, join_below_none, join_below_more)

-- the next of the blocks to come, and the room of its translates
module _ (all rest : List (List ℕ)) (block : List ℕ) (is : all ≡ block ∷ rest) where
  pub next_size : (v k : ℕ) → All (IsBlock v (λ size. size ≡ k)) all → length block ≡ k
  next_size v k each = let now : All (IsBlock v (λ size. size ≡ k)) (block ∷ rest) = subst (All (IsBlock v (λ size. size ≡ k))) is each in (All-head (IsBlock v (λ size. size ≡ k)) block rest now).size

  pub next_room : (v k : ℕ) → length block ≡ k → v * (length block + 1) + v * ((k + 1) * length rest) ≡ v * ((k + 1) * length all)
  next_room v k size = omega (arith, ap (λ n. v * ((k + 1) * n)) (ap length is), ap (λ n. v * (n + 1)) size)
