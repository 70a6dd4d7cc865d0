-- The lines of a sound derivation, as a text spells them.
use Rattle.std.proofs.Common.{◌≡◌, ℕ, suc, ◌+◌, ◌<◌, ◌≤◌, ◌^◌, Bool, true, false, ◌&&◌, List, [], ◌∷◌, ◌++◌, refl, ap, arith, length}
use Rattle.std.specs.Prelude.{All, Option, Some, None}
use Rattle.std.specs.List.{AllByRecursion, list_all}
use Rattle.std.proofs.lemmas.Bool.Decides.{nat_tests}
use Rattle.counting.proofs.Booleans.{both}
use Rattle.design_base.specs.Limits.{HasFewDigits}
use Rattle.design_base.specs.declared.limits.TheConstants.{DIGITS_MAX, PREMISES_MAX}
use Rattle.design_base.specs.declared.query.Query.{Query}
use Rattle.rule_table.proofs.Passing.{premises_few}
use Rattle.rule_table.proofs.Spelled.{candidate_kind}
use Rattle.rule_table.specs.Candidates.{premises}
use Rattle.derivations.specs.Derivations.{IsSound, answers, comes_before, fault, question_at}
use Rattle.design_base.specs.Same.{same_query}
use Rattle.derivations.specs.Spelled.{ArePrintable, IsSpellable}
use Rattle.derivations.specs.declared.line.Line.{Line}
use Rattle.derivations.proofs.Fine.{AreFine, IsFine, all_fine}
use Rattle.derivations.proofs.Parts.{all_at}

answers-length : (D : List Line) (is : List ℕ) (ps : List Query) → answers D is ps ≡ true → length is ≡ length ps
unfolding answers
answers-length D [] [] e = refl
answers-length D [] (p ∷ ps) e = cc
answers-length D (i ∷ is) [] e = cc
answers-length D (i ∷ is) (p ∷ ps) e = split (question_at D i) (answers-length D is ps) e
  where
    split : (o : Option Query) → (answers D is ps ≡ true → length is ≡ length ps)
        → ◌≡◌ {A = Bool} (elim o [ Some q ↦ same_query q p && answers D is ps | None ↦ false ]) true → suc (length is) ≡ suc (length ps)
    split None r e = cc
    split (Some q) r e = ap suc (r (both (same_query q p) (answers D is ps) e).1)

-- not too many lines are named
names_few : (D : List Line) (i : ℕ) (named : List ℕ) (l : Line) → IsFine D i named l → length l.from ≤ PREMISES_MAX
names_few D i named l f = omega (arith, answers-length D l.from (premises l.query l.step) f.answered, premises_few l.query l.step f.bounds f.candidate)

each_few : (D : List Line) (i : ℕ) (named : List ℕ) (ls : List Line) → AreFine D i named ls → AllByRecursion (λ l. length l.from ≤ PREMISES_MAX) ls
each_few D i named [] f = tt
each_few D i named (l ∷ rest) f = (names_few D i named l f.0, each_few D (i + 1) (l.from ++ named) rest f.1)

pub names_are_few : (D : List Line) → IsSound D → ArePrintable D
unfolding fault
names_are_few D s = all_at (λ l. length l.from ≤ PREMISES_MAX) D (each_few D 1 [] D (all_fine D 1 [] D s.no_fault))

-- the lines that are named stand before
named_small : (i : ℕ) (js : List ℕ) → HasFewDigits i → list_all (comes_before i) js ≡ true → AllByRecursion HasFewDigits js
named_small i [] small e = tt
named_small i (j ∷ js) small e =
    let b = both (comes_before i j) (list_all (comes_before i) js) e in
    let earlier : j < i = grind (arith, nat_tests, b.0) in
    (omega (arith, earlier, small), named_small i js small b.1)

fine_spellable : (D : List Line) (i : ℕ) (named : List ℕ) (l : Line) → HasFewDigits i → IsFine D i named l → IsSpellable l
fine_spellable D i named l small f = record {
  kind = candidate_kind l.query l.step f.candidate;
  few = names_few D i named l f;
  small = all_at HasFewDigits l.from (named_small i l.from small f.backward);
}

each_spellable : (D : List Line) (i : ℕ) (named : List ℕ) (ls : List Line) → i + length ls ≤ 10 ^ DIGITS_MAX → AreFine D i named ls → AllByRecursion IsSpellable ls
each_spellable D i named [] small f = tt
each_spellable D i named (l ∷ rest) small f =
    (fine_spellable D i named l (omega (arith, small)) f.0, each_spellable D (i + 1) (l.from ++ named) rest (omega (arith, small)) f.1)

pub sound_spellable : (D : List Line) → IsSound D → HasFewDigits (length D) → All IsSpellable D
unfolding fault
sound_spellable D s small = all_at IsSpellable D (each_spellable D 1 [] D (omega (arith, small)) (all_fine D 1 [] D s.no_fault))
