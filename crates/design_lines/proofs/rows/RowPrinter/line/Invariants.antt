use Rattle.std.proofs.Common.{◌≡◌, ◌*◌, ◌≤◌, length, map, take}
use Rattle.std.specs.Fmt.{decimal}
use Rattle.design_lines.proofs.Joined.{behind_spaces}
use Rattle.design_lines.proofs.rows.RowPrinter.line.Given as goal

abbrev pub invariant-loop-number : goal.invariant-loop-number
invariant-loop-number l = record {
  texts : l.self.line ≡ behind_spaces (map decimal (take l.number-index l.row));
  short : length l.self.line ≤ 6 * l.number-index;
}
