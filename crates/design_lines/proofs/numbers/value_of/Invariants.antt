use Rattle.std.proofs.Common.{take}
use Rattle.design_lines.proofs.Digits.{IsValue}
use Rattle.design_lines.proofs.numbers.value_of.Given as goal

abbrev pub invariant-loop-digit : goal.invariant-loop-digit
invariant-loop-digit l = IsValue (take l.digit-index l.digits) l.value
