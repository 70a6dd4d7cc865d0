-- The text of a derivation is read back, and is the only one that is read as that derivation.
use Rattle.std.specs.Prelude.{◌≡◌, ℕ, ◌<◌, ◌≤◌, true, All, List, [], length}
use Rattle.std.specs.List.{flat_map}
use Rattle.design_base.specs.declared.limits.TheConstants.{DERIVATION_MAX}
use Rattle.design_base.specs.Steps.{IsStep}
use Rattle.design_lines.specs.Grammar.{is_narrow}
use Rattle.derivations.specs.Spelled.{IsSpellable}
use Rattle.derivations.specs.declared.line.Line.{Line}
use Rattle.derivation_text.specs.Grammar.{parse_text, parsed}
use Rattle.derivation_text.specs.Text.{derivation_lines}

-- A line as it is kept: no number of its question is above 65,535, and its step is one of its rule.
pub record IsKept (l : Line) : Type 0 where
  pub narrow : is_narrow l.query ≡ true
  pub step : IsStep l.step

-- the text of a derivation
abbrev pub text_of : List Line → List ℕ
text_of D = flat_map (λ line. line) (derivation_lines D)

-- the text of so many lines, each of which can be spelled, is read as these lines
abbrev pub IsReadBack : List Line → Type 0
IsReadBack D = 0 < length D → length D ≤ DERIVATION_MAX → All IsSpellable D → parse_text (text_of D) ≡ parsed D []

-- whatever lines are kept
abbrev pub ReadBackLaw : Type 0
ReadBackLaw = (D : List Line) → All IsKept D → IsReadBack D

-- each text that is read is the text of what was read
abbrev pub OnlyTextLaw : Type 0
OnlyTextLaw = (text : List ℕ) (D : List Line) → parse_text text ≡ parsed D [] → text ≡ text_of D
