use Rattle.std.proofs.Common.{◌≡◌, ◌+◌, ◌*◌, ◌≤◌, length, map, take}
use Rattle.std.specs.Fmt.{decimal}
use Rattle.std.specs.Prelude.{codes}
use Rattle.design_lines.specs.Printed.{with_word, with_words}
use Rattle.derivation_text.proofs.printing.push_names.Given as goal

abbrev pub invariant-loop-number : goal.invariant-loop-number
invariant-loop-number l = record {
  words : l.text ≡ with_words (with_word l.fn.text (codes "from")) (map decimal (take l.number-index l.numbers));
  short : length l.text ≤ length l.fn.text + 5 + 21 * l.number-index;
}
