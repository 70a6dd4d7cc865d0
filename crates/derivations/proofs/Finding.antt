-- The first fault, line after line.
use Rattle.std.proofs.Common.{◌≡◌, ℕ, zero, suc, ◌+◌, ◌<◌, ◌≤◌, Bool, true, false, List, [], ◌∷◌, ◌++◌, arith, refl, ap, sym, ◌∙◌, length, get_or, drop, add-one, drop-cons}
use Rattle.std.specs.Prelude.{Option, Some, None, replicate}
use Rattle.std.specs.List.{list_all}
use Rattle.std.proofs.lemmas.List.{drop_all}
use Rattle.counting.specs.Search.{is_among}
use Rattle.design_base.specs.Limits.{in_bounds}
use Rattle.rule_table.specs.Candidates.{is_candidate, premises}
use Rattle.derivations.specs.declared.line.Line.{Line}
use Rattle.derivations.specs.declared.line.Fault.{Fault}
use Rattle.derivations.specs.declared.line.LineFault.{LineFault}
use Rattle.derivations.specs.declared.line.LineFault.TheVariants.{Surplus}
use Rattle.derivations.specs.Derivations.{comes_before, answers, used_twice, fault_of_line, surplus_from, fault_from, fault, fault_at}
use Rattle.derivations.specs.Marks.{Marks}
use Rattle.derivations.proofs.Fine.{fault_by}

pub fault_is : (D : List Line) (i : ℕ) (named : List ℕ) (l : Line) (a b c d e : Bool) → a ≡ in_bounds l.query → b ≡ is_candidate l.query l.step
    → c ≡ list_all (comes_before i) l.from → d ≡ answers D l.from (premises l.query l.step) → e ≡ used_twice named l.from
    → fault_by a b c d e ≡ fault_of_line D i named l
unfolding fault_of_line
fault_is D i named l a b c d e p q r s t =
    ap (λ (x : Bool). fault_by x b c d e) p ∙ ap (λ (x : Bool). fault_by (in_bounds l.query) x c d e) q
    ∙ ap (λ (x : Bool). fault_by (in_bounds l.query) (is_candidate l.query l.step) x d e) r
    ∙ ap (λ (x : Bool). fault_by (in_bounds l.query) (is_candidate l.query l.step) (list_all (comes_before i) l.from) x e) s
    ∙ ap (λ (x : Bool). fault_by (in_bounds l.query) (is_candidate l.query l.step) (list_all (comes_before i) l.from) (answers D l.from (premises l.query l.step)) x) t

-- what is left to do after line number i has or has not a fault
abbrev pub goes_on : List Line → ℕ → List ℕ → List Line → Option LineFault → Option Fault
goes_on D i named rest (Some f) = fault_at i f
goes_on D i named rest None = fault_from D (i + 1) named rest

pub fault_at_place : (D : List Line) (k : ℕ) (named : List ℕ) (l : Line) (found : Option LineFault) → k < length D → l ≡ get_or D k l → found ≡ fault_of_line D (k + 1) named l
    → fault_from D (k + 1) named (drop k D) ≡ goes_on D (k + 1) (l.from ++ named) (drop (k + 1) D) found
unfolding fault_from
fault_at_place D k named l found h e f =
    let d : drop k D ≡ l ∷ drop (k + 1) D = rw (add-one, drop-cons D k l) (ap (λ y. y ∷ drop (suc k) D) (sym e)) in
    ap (λ ys. fault_from D (k + 1) named ys) d ∙ split (fault_of_line D (k + 1) named l) ∙ ap (λ o. goes_on D (k + 1) (l.from ++ named) (drop (k + 1) D) o) (sym f)
  where
    split : (o : Option LineFault) → ◌≡◌ {A = Option Fault} (elim o [ Some f ↦ fault_at (k + 1) f | None ↦ fault_from D (k + 1 + 1) (l.from ++ named) (drop (k + 1) D) ]) (goes_on D (k + 1) (l.from ++ named) (drop (k + 1) D) o)
    split (Some f) = refl
    split None = refl

pub fault_begins : (D : List Line) → fault D ≡ fault_from D (0 + 1) [] (drop 0 D)
unfolding fault
fault_begins D = refl

pub fault_ends : (D : List Line) (k i : ℕ) (named : List ℕ) → length D ≤ k → fault_from D i named (drop k D) ≡ surplus_from 1 named D
unfolding fault_from
fault_ends D k i named h = ap (λ ys. fault_from D i named ys) (drop_all k D h)

pub no_marks : (n : ℕ) → Marks [] (replicate n false)
unfolding is_among
no_marks zero j h = refl
no_marks (suc n) zero h = refl
no_marks (suc n) (suc j) h = no_marks n j (omega arith)

pub surplus_step : (named : List ℕ) (D : List Line) (j k : ℕ) (b : Bool) → j + 1 < length D → b ≡ is_among k named
    → surplus_from k named (drop j D) ≡ (elim b [ true ↦ surplus_from (k + 1) named (drop (suc j) D) | false ↦ fault_at k Surplus ])
unfolding surplus_from
surplus_step named [] j k b h e = absurd (omega arith)
surplus_step named (l ∷ []) j k b h e = absurd (omega arith)
surplus_step named (l ∷ m ∷ rest) zero k b h e = ap (λ (t : Bool). elim t as (λ _. Option Fault) [ true ↦ surplus_from (k + 1) named (m ∷ rest) | false ↦ fault_at k Surplus ]) (sym e)
surplus_step named (l ∷ m ∷ rest) (suc j) k b h e = surplus_step named (m ∷ rest) j k b (omega arith) e

pub surplus_end : (named : List ℕ) (D : List Line) (j k : ℕ) → length D ≤ j + 1 → surplus_from k named (drop j D) ≡ None
unfolding surplus_from
surplus_end named [] zero k h = refl
surplus_end named [] (suc j) k h = refl
surplus_end named (l ∷ []) zero k h = refl
surplus_end named (l ∷ []) (suc j) k h = surplus_end named [] j k (omega arith)
surplus_end named (l ∷ m ∷ rest) zero k h = absurd (omega arith)
surplus_end named (l ∷ m ∷ rest) (suc j) k h = surplus_end named (m ∷ rest) j k (omega arith)
