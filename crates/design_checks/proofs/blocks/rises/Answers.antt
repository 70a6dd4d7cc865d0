use Rattle.std.proofs.Common.{of_calls, rules}
use Rattle.std.proofs.lemmas.Fn.{always_returns_same}
use Rattle.std.specs.Prelude.{nat_lt}
use Rattle.design_checks.proofs.Increasing.{rises_answer}
use Rattle.design_checks.proofs.blocks.rises.Goals as goal

pub returns : goal.returns
returns c = rises_answer c.args.row.now c.is_sorted_by.result (c.is_sorted_by.ensures.cases nat_lt (always_returns_same _ _ _ (λ a r f k. search (rules, of_calls))))
