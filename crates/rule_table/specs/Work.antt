-- How many evaluations a verdict takes where nothing is remembered.
use Rattle.std.specs.Prelude.{ℕ, ◌+◌, sum_by}
use Rattle.std.proofs.Common.{zero, suc}
use Rattle.design_base.specs.declared.query.Query.{Query}
use Rattle.rule_table.specs.Asked.{asked}
use Rattle.rule_terms.specs.Rank.{rank}

-- the work of a question whose rank is below n
unfoldable pub work_below : ℕ → Query → ℕ
work_below zero q = 0
work_below (suc n) q = 1 + sum_by (work_below n) (asked q)

-- One evaluation, and the work of each question that it asks for: `work q ≡ 1 + sum_by work (asked q)`, since those have smaller ranks.
unfoldable pub work : Query → ℕ
work q = work_below (rank q + 1) q
