use Rattle.std.proofs.Common.{take}
use Rattle.design_lines.proofs.Digits.{IsValue}
use Rattle.block_texts.proofs.front.digits_at_front.Given as goal

abbrev pub invariant-loop-count : goal.invariant-loop-count
invariant-loop-count l = IsValue (take l.count l.text) l.value
