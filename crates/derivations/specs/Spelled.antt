-- Lines that a text of a derivation can print, and lines that it can spell, so that they are read back.
use Rattle.std.specs.Prelude.{◌≡◌, ◌≤◌, All, List, length}
use Rattle.design_base.specs.Limits.{HasFewDigits}
use Rattle.design_base.specs.Rules.{kind_of, title}
use Rattle.design_base.specs.declared.limits.TheConstants.{PREMISES_MAX}
use Rattle.derivations.specs.declared.line.Line.{Line}

-- Each line fits in the room for a line that is printed: it does not name too many lines.
abbrev pub ArePrintable : List Line → Type 0
ArePrintable D = All (λ l. length l.from ≤ PREMISES_MAX) D

-- The rule is one of the question's kind, and not too many lines are named, by numbers of few digits.
pub record IsSpellable (l : Line) : Type 0 where
  pub kind : (title l.step.rule).kind ≡ kind_of l.query
  pub few : length l.from ≤ PREMISES_MAX
  pub small : All HasFewDigits l.from
