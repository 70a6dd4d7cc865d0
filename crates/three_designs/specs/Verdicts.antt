-- Whether a design of strength three is known.
use Rattle.std.specs.Prelude.{Bool, false, true}
use Rattle.three_designs.specs.declared.verdict.ThreeRule.{ThreeRule}
use Rattle.three_designs.specs.declared.verdict.ThreeVerdict.{ThreeVerdict}
use Rattle.three_designs.specs.declared.verdict.ThreeVerdict.TheVariants.{No, Unknown, Yes}

-- the verdict is Yes, by some rule
abbrev pub is_yes : ThreeVerdict → Bool
is_yes (Yes rule) = true
is_yes No = false
is_yes Unknown = false

-- P holds of the rule, where the verdict is Yes
abbrev pub IfYes : ThreeVerdict → (ThreeRule → Type 0) → Type 0
IfYes (Yes rule) P = P rule
IfYes No P = Unit {0}
IfYes Unknown P = Unit {0}
