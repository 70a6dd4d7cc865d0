use Rattle.std.proofs.Common.{◌≡◌, ◌≤◌, ◌+◌, ◌*◌, length, take, map}
use Rattle.std.specs.Fmt.{decimal}
use Rattle.design_lines.specs.Printed.{with_words}
use Rattle.design_lines.proofs.line.InPlace.push_numbers.Given as goal

abbrev pub invariant-loop-number : goal.invariant-loop-number
invariant-loop-number g l = record {
  words : l.self ≡ with_words l.fn.self (map decimal (take l.number-index l.numbers));
  short : length l.self ≤ length l.fn.self + 6 * l.number-index;
}
