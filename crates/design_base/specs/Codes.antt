-- The numbers of the verdicts. None of them is 0.
use Rattle.std.specs.Prelude.{ℕ, ◌+◌, ◌*◌, ◌/◌, ◌%◌, ◌^◌, ◌==◌, nat_lt, ⊤, Bool, ◌&&◌, ◌||◌, List, if◌then◌else◌, Option, Some, None, find, option_map, option_and_then}
use Rattle.design_base.specs.declared.rule.Rule.{Rule}
use Rattle.design_base.specs.declared.verdict.Criterion.{Criterion}
use Rattle.design_base.specs.declared.verdict.Criterion.TheVariants.{Replication}
use Rattle.design_base.specs.declared.verdict.TheConstants.{CRITERIA}
use Rattle.design_base.specs.contracts.verdict.Criterion.{enum}
use denote.Enum.Declared.{declared, tag_of}
use Rattle.design_base.specs.declared.verdict.Verdict.{Verdict}
use Rattle.design_base.specs.declared.verdict.Verdict.TheVariants.{Yes, No, Unknown}
use Rattle.design_base.specs.Rules.{title, number_of_rule, rule_numbered}
use Rattle.design_base.specs.Steps.{Step, IsStep, step}

abbrev place_of_criterion : Criterion → ℕ
place_of_criterion c = tag_of (declared enum) c

-- the number of a criterion: its place among the variants, from 1
abbrev pub number_of_criterion : Criterion → ℕ
number_of_criterion Replication = place_of_criterion Replication + 1
number_of_criterion c = place_of_criterion c + 1

-- the criteria in the order of their numbers
abbrev pub criteria : List Criterion
criteria = CRITERIA.now

-- the criterion with this number
abbrev pub criterion_numbered : ℕ → Option Criterion
criterion_numbered i = find (λ c. number_of_criterion c == i) criteria

-- a verdict that a program can hold: its step is one
abbrev pub IsVerdict : Verdict → Type 0
IsVerdict (Yes s) = IsStep s
IsVerdict (No c) = ⊤
IsVerdict Unknown = ⊤

-- the number of a verdict: what it is, its rule or criterion, and its parameters
unfoldable pub code : Verdict → ℕ
code Unknown = 1
code (No c) = 2 + 256 * number_of_criterion c
code (Yes s) = 3 + 256 * number_of_rule s.rule + 2 ^ 16 * s.a + 2 ^ 28 * s.b + 2 ^ 40 * s.c + 2 ^ 52 * s.d

-- parameter i is one of the rule's own, or 0
abbrev pub is_own : Rule → ℕ → ℕ → Bool
is_own r i x = nat_lt i (title r).parameters || x == 0

-- the step of a rule and its parameters, where those past the rule's own are 0
abbrev pub step_if : Rule → ℕ → ℕ → ℕ → ℕ → Option Step
step_if r a b c d = if is_own r 0 a && is_own r 1 b && is_own r 2 c && is_own r 3 d then Some (step r a b c d) else None

-- the step whose parameters a word holds
abbrev pub step_in : ℕ → Rule → Option Step
step_in word r = step_if r (word / 2 ^ 16 % 4096) (word / 2 ^ 28 % 4096) (word / 2 ^ 40 % 4096) (word / 2 ^ 52)

-- the verdict that a word begins as
abbrev pub verdict_in : ℕ → Option Verdict
verdict_in word =
    if word % 256 == 1 then Some Unknown else
    if word % 256 == 2 then option_map (λ c. No c) (criterion_numbered (word / 256 % 256)) else
    if word % 256 == 3 then option_map (λ s. Yes s) (option_and_then (step_in word) (rule_numbered (word / 256 % 256))) else
    None

-- the verdict whose code the word is
unfoldable pub read_code : ℕ → Option Verdict
read_code word = option_and_then (λ v. if code v == word then Some v else None) (verdict_in word)
