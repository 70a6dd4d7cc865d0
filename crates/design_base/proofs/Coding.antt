-- Codes are read back, and numbers lead to their rules.
use Rattle.std.proofs.Common.{◌≡◌, ℕ, zero, suc, ◌+◌, ◌*◌, ◌/◌, ◌%◌, ◌^◌, ◌<◌, ◌≤◌, ◌==◌, ◌⊎◌, inl, inr, Bool, true, false, ◌&&◌, List, [], ◌∷◌, drop, length, find, arith, refl, sym, ap, ◌∙◌, cond}
use Rattle.std.specs.Prelude.{Option, Some, None, IfSome, option_and_then}
use Rattle.counting.proofs.Booleans.{both, eq-eqb}
use Rattle.std.proofs.lemmas.Bool.Decides.{nat_tests}
use Rattle.design_base.specs.declared.limits.TheConstants.{PARAMETER_MAX}
use Rattle.design_base.specs.declared.rule.Rule.{Rule}
use Rattle.design_base.specs.declared.rule.Rule.TheVariants.{TdOne}
use Rattle.design_base.specs.declared.verdict.Criterion.{Criterion}
use Rattle.design_base.specs.declared.verdict.Criterion.TheVariants.{Replication}
use Rattle.design_base.specs.declared.verdict.Verdict.{Verdict}
use Rattle.design_base.specs.declared.verdict.Verdict.TheVariants.{Yes, No, Unknown}
use Rattle.design_base.specs.Codes.{code, criteria, criterion_numbered, number_of_criterion, read_code, verdict_in, step_if, is_own, IsVerdict}
use Rattle.design_base.specs.Rules.{number_of_rule, rule_numbered, rules, title}
use Rattle.design_base.specs.Steps.{Step, IsStep, step}

pub number_small : (r : Rule) → number_of_rule r ≤ length rules
number_small TdOne = omega arith
number_small r = omega arith

rule_back : (r : Rule) → rule_numbered (number_of_rule r) ≡ Some r
rule_back TdOne = refl
rule_back r = refl

-- a list in which each element has the number of its place
module _ {X : Type 0} (number : X → ℕ) where
  -- they are the numbers from n + 1 on
  abbrev are_numbered : ℕ → List X → Bool
  are_numbered n [] = true
  are_numbered n (x ∷ xs) = number x == n + 1 && are_numbered (n + 1) xs

  number_at : (n i : ℕ) (xs ys : List X) (x : X) → are_numbered n xs ≡ true → drop i xs ≡ x ∷ ys → number x ≡ n + i + 1
  number_at n zero [] ys x h e = absurd (cc)
  number_at n (suc i) [] ys x h e = absurd (cc)
  number_at n zero (z ∷ xs) ys x h e =
      let a = both (number z == n + 1) (are_numbered (n + 1) xs) h in
      grind (arith, nat_tests, a.0, e)
  number_at n (suc i) (z ∷ xs) ys x h e =
      let a = both (number z == n + 1) (are_numbered (n + 1) xs) h in
      omega (arith, number_at (n + 1) i xs ys x a.1 e)

  none_numbered : (n i : ℕ) (xs : List X) → are_numbered n xs ≡ true → (i ≤ n) ⊎ (n + length xs < i) → find (λ x. number x == i) xs ≡ None
  none_numbered n i [] h l = refl
  none_numbered n i (x ∷ xs) h l =
      let a = both (number x == n + 1) (are_numbered (n + 1) xs) h in
      let other : (number x == i) ≡ false = grind (arith, nat_tests, a.0, l) in
      let further : (i ≤ n + 1) ⊎ (n + 1 + length xs < i) = by l in
      ap (λ b. cond b (Some x) (find (λ x. number x == i) xs)) other ∙ none_numbered (n + 1) i xs a.1 further
    where
      by : (i ≤ n) ⊎ (n + length (x ∷ xs) < i) → (i ≤ n + 1) ⊎ (n + 1 + length xs < i)
      by (inl h) = inl (omega arith)
      by (inr h) = inr (omega arith)

  outside : (i : ℕ) (xs : List X) → are_numbered 0 xs ≡ true → (i ≡ 0) ⊎ (length xs < i) → find (λ x. number x == i) xs ≡ None
  outside i xs h (inl e) = none_numbered 0 i xs h (inl (omega (arith, e)))
  outside i xs h (inr l) = none_numbered 0 i xs h (inr (omega (arith, l)))

pub rule_found : (i : ℕ) (r : Rule) (ys : List Rule) → drop i rules ≡ r ∷ ys → rule_numbered (i + 1) ≡ Some r
rule_found i r ys e =
    let n : number_of_rule r ≡ i + 1 = omega (arith, number_at number_of_rule 0 i rules ys r refl e) in
    ap rule_numbered (sym n) ∙ rule_back r

pub rule_none : (i : ℕ) → (i ≡ 0) ⊎ (length rules < i) → rule_numbered i ≡ None
rule_none i h = outside number_of_rule i rules refl h

pub ruleset rule_laws = (rule_found, rule_none)

criterion_back : (c : Criterion) → criterion_numbered (number_of_criterion c) ≡ Some c
criterion_back Replication = refl
criterion_back c = refl

pub criterion_found : (i : ℕ) (c : Criterion) (ys : List Criterion) → drop i criteria ≡ c ∷ ys → criterion_numbered (i + 1) ≡ Some c
criterion_found i c ys e =
    let n : number_of_criterion c ≡ i + 1 = omega (arith, number_at number_of_criterion 0 i criteria ys c refl e) in
    ap criterion_numbered (sym n) ∙ criterion_back c

pub criterion_none : (i : ℕ) → (i ≡ 0) ⊎ (length criteria < i) → criterion_numbered i ≡ None
criterion_none i h = outside number_of_criterion i criteria refl h

pub ruleset criterion_laws = (criterion_found, criterion_none)

-- the parameters past the rule's own are 0
pub own_step : (r : Rule) (a b c d : ℕ) → a ≤ PARAMETER_MAX → b ≤ PARAMETER_MAX → c ≤ PARAMETER_MAX → d ≤ PARAMETER_MAX
    → is_own r 0 a ≡ true → is_own r 1 b ≡ true → is_own r 2 c ≡ true → is_own r 3 d ≡ true → IsStep (step r a b c d)
own_step r a b c d la lb lc ld ea eb ec ed = record {
  a_small = la;
  b_small = lb;
  c_small = lc;
  d_small = ld;
  a_used = λ h. grind (arith, nat_tests, ea, h);
  b_used = λ h. grind (arith, nat_tests, eb, h);
  c_used = λ h. grind (arith, nat_tests, ec, h);
  d_used = λ h. grind (arith, nat_tests, ed, h);
}

pub ruleset step_laws = (own_step)

-- nothing stands behind the last parameter
pub last_parameter : (word : ℕ) → word < 2 ^ 64 → word / 2 ^ 52 % 4096 ≡ word / 2 ^ 52
last_parameter word h = omega arith

-- where the parameters of a step stand in its code
record Parts (n a b c d x : ℕ) : Type 0 where
  pub tag : x % 256 ≡ 3
  pub number : x / 256 % 256 ≡ n
  pub first : x / 2 ^ 16 % 4096 ≡ a
  pub second : x / 2 ^ 28 % 4096 ≡ b
  pub third : x / 2 ^ 40 % 4096 ≡ c
  pub fourth : x / 2 ^ 52 ≡ d

parts : (n a b c d : ℕ) → n ≤ length rules → a ≤ PARAMETER_MAX → b ≤ PARAMETER_MAX → c ≤ PARAMETER_MAX → d ≤ PARAMETER_MAX
    → Parts n a b c d (3 + 256 * n + 2 ^ 16 * a + 2 ^ 28 * b + 2 ^ 40 * c + 2 ^ 52 * d)
parts n a b c d hn ha hb hc hd = record {
  tag = omega arith;
  number = omega arith;
  first = omega arith;
  second = omega arith;
  third = omega arith;
  fourth = omega arith;
}

used : (r : Rule) (i x : ℕ) → ((title r).parameters ≤ i → x ≡ 0) → is_own r i x ≡ true
used r i x h = grind (arith, nat_tests, h)

step_is : (s : Step) → IsStep s → step_if s.rule s.a s.b s.c s.d ≡ Some s
step_is s i = simp (used s.rule 0 s.a i.a_used, used s.rule 1 s.b i.b_used, used s.rule 2 s.c i.c_used, used s.rule 3 s.d i.d_used)

at_yes : (x n a b c d : ℕ) (r : Rule) → Parts n a b c d x → rule_numbered n ≡ Some r → step_if r a b c d ≡ Some (step r a b c d) → verdict_in x ≡ Some (Yes (step r a b c d))
at_yes x n a b c d r p e s = simp (p.tag, p.number, e, p.first, p.second, p.third, p.fourth, s)

-- what a word begins as, where the word is its code
decoded : (x : ℕ) (v : Verdict) → verdict_in x ≡ Some v → code v ≡ x → read_code x ≡ Some v
unfolding read_code
decoded x v e c = simp (e, eq-eqb (code v) x c)

yes_read : (s : Step) → IsStep s → verdict_in (code (Yes s)) ≡ Some (Yes s)
unfolding code
yes_read s i =
    at_yes (3 + 256 * number_of_rule s.rule + 2 ^ 16 * s.a + 2 ^ 28 * s.b + 2 ^ 40 * s.c + 2 ^ 52 * s.d) (number_of_rule s.rule) s.a s.b s.c s.d s.rule
    (parts (number_of_rule s.rule) s.a s.b s.c s.d (number_small s.rule) i.a_small i.b_small i.c_small i.d_small) (rule_back s.rule) (step_is s i)

no_read : (c : Criterion) → read_code (code (No c)) ≡ Some (No c)
unfolding read_code code
no_read Replication = refl
no_read c = refl

unknown_read : read_code (code Unknown) ≡ Some Unknown
unfolding read_code code
unknown_read = refl

-- the code of a verdict is read back
pub code_read : (v : Verdict) → IsVerdict v → read_code (code v) ≡ Some v
code_read Unknown i = unknown_read
code_read (No c) i = no_read c
code_read (Yes s) i = decoded (code (Yes s)) (Yes s) (yes_read s i) refl

-- codes are told apart
pub same_code : (v w : Verdict) → IsVerdict v → IsVerdict w → code v ≡ code w → v ≡ w
same_code v w i j e = let s : Some v ≡ Some w = sym (code_read v i) ∙ ap read_code e ∙ code_read w j in cc

pub code_positive : (v : Verdict) → 0 < code v
unfolding code
code_positive Unknown = omega arith
code_positive (No c) = omega arith
code_positive (Yes s) = omega arith

equal : (x y : ℕ) → (x == y) ≡ true → x ≡ y
equal x y h = grind (arith, nat_tests, h)

-- what is read is the verdict with that code
read_back : (word : ℕ) (v : Verdict) → read_code word ≡ Some v → code v ≡ word
unfolding read_code
read_back word v e = by (verdict_in word) e
  where
    kept : (w : Verdict) → cond (code w == word) (Some w) None ≡ Some v → (b : Bool) → (code w == word) ≡ b → code v ≡ word
    kept w e true h = let s : Some w ≡ Some v = sym (ap (λ t. cond t (Some w) None) h) ∙ e in let same : w ≡ v = cc in ap code (sym same) ∙ equal (code w) word h
    kept w e false h = let s : None ≡ Some v = sym (ap (λ t. cond t (Some w) None) h) ∙ e in absurd (cc)

    by : (found : Option Verdict) → option_and_then (λ w. cond (code w == word) (Some w) None) found ≡ Some v → code v ≡ word
    by None e = let n : None ≡ Some v = e in absurd (cc)
    by (Some w) e = kept w e (code w == word) refl

pub read_found : (word : ℕ) (found : Option Verdict) → found ≡ read_code word → IfSome found (λ v. code v ≡ word)
read_found word None e = tt
read_found word (Some v) e = read_back word v (sym e)

pub read_only : (word : ℕ) (found : Option Verdict) → found ≡ read_code word → (v : Verdict) → IsVerdict v → code v ≡ word → found ≡ Some v
read_only word found e v i c = e ∙ ap read_code (sym c) ∙ code_read v i

pub ruleset read_laws = (read_found, read_only)

pub code_some : (word : ℕ) (v : Verdict) → word ≡ code v → 0 < word
code_some word v e = omega (arith, e, code_positive v)

pub code_back : (word : ℕ) (v : Verdict) → word ≡ code v → IsVerdict v → read_code word ≡ Some v
code_back word v e i = ap read_code e ∙ code_read v i

pub ruleset code_laws = (code_some)
