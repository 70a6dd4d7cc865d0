-- What holds of derivations and of what they lead to.
use Rattle.std.specs.Prelude.{◌≡◌, true, All, List, Some, length}
use Rattle.design_base.specs.Limits.{HasFewDigits, in_bounds}
use Rattle.design_base.specs.Meets.{Meets}
use Rattle.design_base.specs.Steps.{Step}
use Rattle.design_base.specs.declared.query.Query.{Query}
use Rattle.design_base.specs.declared.verdict.Verdict.TheVariants.{Yes}
use Rattle.rule_table.specs.Verdicts.{verdict}
use Rattle.derivations.specs.Derivations.{IsSound, derivation, last_question, replayed}
use Rattle.derivations.specs.Spelled.{IsSpellable}
use Rattle.derivations.specs.declared.line.Line.{Line}

-- any sound derivation leads to a design that its last question asks for
abbrev pub ReplayLaw : Type 0
ReplayLaw = (D : List Line) → IsSound D → (q : Query) → last_question D ≡ Some q → Meets q (replayed D)

-- the derivation of a question whose verdict is Yes is sound, and its last question is that question
abbrev pub DerivationLaw : Type 0
DerivationLaw =
    (q : Query) (s : Step) → in_bounds q ≡ true → verdict q ≡ Yes s → IsSound (derivation q) × (last_question (derivation q) ≡ Some q)

-- so a Yes verdict means that there is a design
abbrev pub YesLaw : Type 0
YesLaw = (q : Query) (s : Step) → in_bounds q ≡ true → verdict q ≡ Yes s → Meets q (replayed (derivation q))

-- Each line of a sound derivation can be spelled, where the number of its lines can: a line names lines before it.
abbrev pub SpellingLaw : Type 0
SpellingLaw = (D : List Line) → IsSound D → HasFewDigits (length D) → All IsSpellable D
