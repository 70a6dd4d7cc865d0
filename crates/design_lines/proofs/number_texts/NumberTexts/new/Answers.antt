use Rattle.std.proofs.Common.{refl}
use Rattle.design_lines.proofs.NumberTexts.{no_texts}
use Rattle.design_lines.specs.declared.number_texts.TheConstants.{KEPT}
use Rattle.design_lines.proofs.number_texts.NumberTexts.new.Goals as goal

pub invariant_of-result : goal.invariant_of-result
invariant_of-result c = no_texts KEPT _ refl
