-- The printed words of a line are read back.
use Rattle.std.proofs.Common.{◌≡◌, ℕ, zero, suc, ◌+◌, ◌≤◌, true, false, List, [], ◌∷◌, ◌++◌, length, take, map, Option, Some, Result, Ok, refl, ap, sym, ◌∙◌, append_assoc, append-nil, arith}
use Rattle.std.specs.Prelude.{◌==◌}
use Rattle.std.specs.Fmt.{decimal}
use Rattle.std.specs.List.{AllByRecursion}
use Rattle.std.proofs.lemmas.Bool.Decides.{nat_tests}
use Rattle.counting.specs.Search.{◌<=◌}
use Rattle.design_base.specs.Limits.{HasFewDigits}
use Rattle.design_base.specs.declared.limits.TheConstants.{PARAMETER_MAX, PREMISES_MAX}
use Rattle.design_base.specs.declared.query.Query.{Query}
use Rattle.design_base.specs.declared.query.Query.TheVariants.{Td, Df, Bibd, Gdd, Pbd}
use Rattle.design_base.specs.declared.rule.Rule.{Rule}
use Rattle.design_base.specs.declared.rule.Rule.TheVariants.{TdOne}
use Rattle.design_base.specs.Rules.{kind_of, rule_named, title}
use Rattle.design_base.specs.Steps.{IsStep, Step, parameters_of, step}
use Rattle.design_lines.specs.declared.command.Reason.{Reason}
use Rattle.design_lines.specs.Grammar.{is_narrow, narrowed, normal_question}
use Rattle.design_lines.specs.Printed.{question_words, step_words}
use Rattle.design_lines.specs.Reading.{Reader, Reading, gives, is_next, number, one_of_or}
use Rattle.design_lines.proofs.Digits.{number_of_decimal}
use Rattle.design_lines.proofs.ReadBack.{AreSpellable, question_read, word_count}
use Rattle.derivations.specs.declared.line.Line.{Line}
use Rattle.derivation_text.specs.Grammar.{◌giving◌, line_read, names, numbers_behind, parameter, rule_word, step_of_rule}
use Rattle.derivation_text.specs.Text.{from_words}
use Rattle.rule_terms.proofs.Grounded.{few_parameters}

abbrev pub reading : {A : Type 0} → A → ℕ → List (List ℕ) → Result (Reading A) Reason
reading value at words = Ok (record { value = value; at = at; words = words })

pub number_read : (n at : ℕ) (rest : List (List ℕ)) → HasFewDigits n → number at (decimal n ∷ rest) ≡ reading n (at + 1) rest
unfolding number
number_read n at rest small = rw (number_of_decimal n small) refl

narrow_spellable : (q : Query) → is_narrow q ≡ true → AreSpellable q
narrow_spellable (Td k n) h = grind (arith, nat_tests)
narrow_spellable (Df group v k l) h = grind (arith, nat_tests)
narrow_spellable (Bibd v k l) h = grind (arith, nat_tests)
narrow_spellable (Gdd k g u) h = grind (arith, nat_tests)
narrow_spellable (Pbd v s) h = grind (arith, nat_tests)

query_read : (q : Query) (at : ℕ) (rest : List (List ℕ)) → is_narrow q ≡ true → normal_question at (question_words q ++ rest) ≡ reading (Some q) (at + word_count q) rest
unfolding narrowed
query_read q at rest narrow = rw (question_read q at rest (narrow_spellable q narrow), narrow) refl

-- each rule is found by its kind and its name
named : (r : Rule) → rule_named (title r).kind (title r).name ≡ Some r
unfolding rule_named
named TdOne = refl
named r = refl

rule_read : (q : Query) (r : Rule) (at : ℕ) (rest : List (List ℕ)) → (title r).kind ≡ kind_of q → rule_word (kind_of q) at ((title r).name ∷ rest) ≡ reading (Some r) (at + 1) rest
unfolding rule_word
rule_read q r at rest same = ap (λ found. reading found (at + 1) rest) (ap (λ k. rule_named k (title r).name) (sym same) ∙ named r)

-- The parameters of a step, of which a rule has four at most.

small_parameter : (n at : ℕ) (rest : List (List ℕ)) → n ≤ PARAMETER_MAX → parameter true at (decimal n ∷ rest) ≡ reading (Some n) (at + 1) rest
unfolding parameter
small_parameter n at rest small =
    let e : (n <= PARAMETER_MAX) ≡ true = grind (arith, nat_tests) in
    rw (number_read n at rest (omega (arith, small)), e) refl

no_parameter : (at : ℕ) (words : List (List ℕ)) → parameter false at words ≡ reading (Some 0) at words
unfolding parameter
no_parameter at words = refl

abbrev pub steps_of : ℕ → Rule → Reader (Option Step)
steps_of n rule = parameter (1 <= n) giving λ a. parameter (2 <= n) giving λ b. parameter (3 <= n) giving λ c. parameter (4 <= n) giving λ d. gives (Some (step rule a b c d))

parameters_read : (n : ℕ) (r : Rule) (a b c d at : ℕ) (rest : List (List ℕ)) → n ≤ 4 → a ≤ PARAMETER_MAX → b ≤ PARAMETER_MAX → c ≤ PARAMETER_MAX → d ≤ PARAMETER_MAX
    → (n ≤ 0 → a ≡ 0) → (n ≤ 1 → b ≡ 0) → (n ≤ 2 → c ≡ 0) → (n ≤ 3 → d ≡ 0)
    → (after : ℕ) × (steps_of n r at (map decimal (take n (a ∷ b ∷ c ∷ d ∷ [])) ++ rest) ≡ reading (Some (step r a b c d)) after rest)
parameters_read zero r a b c d at rest few ha hb hc hd ua ub uc ud =
    (at, rw (ua (omega arith), ub (omega arith), uc (omega arith), ud (omega arith)) (simp no_parameter refl))
parameters_read (suc zero) r a b c d at rest few ha hb hc hd ua ub uc ud =
    (at + 1, rw (ub (omega arith), uc (omega arith), ud (omega arith)) (simp (small_parameter a at rest ha, no_parameter) refl))
parameters_read (suc (suc zero)) r a b c d at rest few ha hb hc hd ua ub uc ud =
    (at + 1 + 1, rw (uc (omega arith), ud (omega arith)) (simp (small_parameter a at (decimal b ∷ rest) ha, small_parameter b (at + 1) rest hb, no_parameter) refl))
parameters_read (suc (suc (suc zero))) r a b c d at rest few ha hb hc hd ua ub uc ud =
    (at + 1 + 1 + 1, rw (ud (omega arith)) (simp (small_parameter a at (decimal b ∷ decimal c ∷ rest) ha, small_parameter b (at + 1) (decimal c ∷ rest) hb, small_parameter c (at + 1 + 1) rest hc, no_parameter) refl))
parameters_read (suc (suc (suc (suc zero)))) r a b c d at rest few ha hb hc hd ua ub uc ud = (
  at + 1 + 1 + 1 + 1,
  simp (small_parameter a at (decimal b ∷ decimal c ∷ decimal d ∷ rest) ha, small_parameter b (at + 1) (decimal c ∷ decimal d ∷ rest) hb, small_parameter c (at + 1 + 1) (decimal d ∷ rest) hc, small_parameter d (at + 1 + 1 + 1) rest hd) refl,
)
parameters_read (suc (suc (suc (suc (suc n))))) r a b c d at rest few ha hb hc hd ua ub uc ud = absurd (omega (arith, few))

step_read : (s : Step) (at : ℕ) (rest : List (List ℕ)) → IsStep s → (after : ℕ) × (step_of_rule s.rule at (map decimal (parameters_of s) ++ rest) ≡ reading (Some s) after rest)
unfolding step_of_rule
step_read s at rest is =
    parameters_read (title s.rule).parameters s.rule s.a s.b s.c s.d at rest (few_parameters s.rule) is.a_small is.b_small is.c_small is.d_small is.a_used is.b_used is.c_used is.d_used

-- the numbers that are named
numbers_read : (most : ℕ) (before numbers : List ℕ) (at : ℕ) → length numbers ≤ most → AllByRecursion HasFewDigits numbers → numbers_behind most before at (map decimal numbers) ≡ reading (before ++ numbers) (at + length numbers) []
unfolding numbers_behind
numbers_read zero before [] at few small = let e : at ≡ at + 0 = omega arith in ap (λ ns. reading ns at []) (sym (append-nil before)) ∙ ap (λ i. reading (before ++ []) i []) e
numbers_read zero before (n ∷ numbers) at few small = absurd (omega (arith, few))
numbers_read (suc most) before [] at few small = let e : at ≡ at + 0 = omega arith in ap (λ ns. reading ns at []) (sym (append-nil before)) ∙ ap (λ i. reading (before ++ []) i []) e
numbers_read (suc most) before (n ∷ numbers) at few small =
    let e : at + 1 + length numbers ≡ at + length (n ∷ numbers) = omega arith in
    rw (number_read n at (map decimal numbers) small.0)
    (numbers_read most (before ++ n ∷ []) numbers (at + 1) (omega (arith, few)) small.1
    ∙ ap (λ ns. reading ns (at + 1 + length numbers) []) (append_assoc before (n ∷ []) numbers)
    ∙ ap (λ i. reading (before ++ n ∷ numbers) i []) e)

names_read : (numbers : List ℕ) (at : ℕ) → length numbers ≤ PREMISES_MAX → AllByRecursion HasFewDigits numbers → (after : ℕ) × (names at (from_words numbers) ≡ reading numbers after [])
unfolding names one_of_or is_next from_words
names_read [] at few small = (at, refl)
names_read (n ∷ numbers) at few small =
    (at + 1 + 1 + length numbers, rw (number_read n (at + 1) (map decimal numbers) small.0) (numbers_read 5 (n ∷ []) numbers (at + 1 + 1) (omega (arith, few)) small.1))

-- A line is read back from its words.

same_number : (i : ℕ) → (i == i) ≡ true
same_number i = grind (arith, nat_tests)

pub line_is_read : (i : ℕ) (l : Line) → HasFewDigits i → is_narrow l.query ≡ true → IsStep l.step → (title l.step.rule).kind ≡ kind_of l.query → length l.from ≤ PREMISES_MAX → AllByRecursion HasFewDigits l.from
    → (after : ℕ) × (line_read i 1 (decimal i ∷ (question_words l.query ++ step_words l.step ++ from_words l.from)) ≡ reading (Some l) after [])
unfolding line_read step_words
line_is_read i l small narrow is kind few named =
    let behind = from_words l.from in
    let words = map decimal (parameters_of l.step) ++ behind in
    let at = 1 + 1 + word_count l.query in
    let step = step_read l.step (at + 1) behind is in
    let numbers = names_read l.from step.0 few named in
    let apart : question_words l.query ++ ((title l.step.rule).name ∷ map decimal (parameters_of l.step)) ++ behind ≡ question_words l.query ++ ((title l.step.rule).name ∷ words) =
    append_assoc (question_words l.query) ((title l.step.rule).name ∷ map decimal (parameters_of l.step)) behind in (
      numbers.0,
      rw (
        number_read i 1 (question_words l.query ++ ((title l.step.rule).name ∷ map decimal (parameters_of l.step)) ++ behind) small,
        same_number i,
        apart,
        query_read l.query (1 + 1) ((title l.step.rule).name ∷ words) narrow,
        rule_read l.query l.step.rule at words kind,
        step.1,
        numbers.1,
      ) refl,
    )
