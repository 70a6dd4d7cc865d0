use Rattle.std.proofs.Common.{◌≡◌, ◌+◌}
use Rattle.rule_table.specs.Closure.{IsClosed, cells_of}
use Rattle.rule_table.specs.Verdicts.{is_yes}
use Rattle.design_answers.specs.Draws.{drawn, drawn_closures, is_no, is_unknown}
use Rattle.design_answers.proofs.tally.tally_draws.Given as goal

abbrev pub invariant-loop-j : goal.invariant-loop-j
invariant-loop-j g l = record {
  all : l.tally.yes + l.tally.no + l.tally.unknown ≡ l.j;
  yes : l.tally.yes ≡ drawn is_yes l.j;
  no : l.tally.no ≡ drawn is_no l.j;
  unknown : l.tally.unknown ≡ drawn is_unknown l.j;
  marks : l.marks ≡ cells_of (drawn_closures l.j);
  closed : IsClosed l.marks;
}
