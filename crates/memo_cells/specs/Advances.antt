-- A pass and a count of steps before and after any calls.
use Rattle.std.specs.Prelude.{◌≡◌, ℕ}
use Rattle.rule_table.specs.Told.{Keeps, IsPaid}
use Rattle.memo_cells.specs.Knowledge.{PassState}

-- the pass is of the same memo and keeps what it knew, and the steps rise by at most the number of cells that it newly knows
pub record Advances (old new : PassState) (old_steps new_steps : ℕ) : Type 0 where
  pub memo : new.memo ≡ old.memo
  pub keeps : Keeps old.knowledge.known new.knowledge.known
  pub paid : IsPaid old.knowledge.known new.knowledge.known old_steps new_steps
