-- What it means that lines have no fault.
use Rattle.std.proofs.Common.{◌≡◌, ℕ, ◌+◌, Bool, true, false, List, [], ◌∷◌, ◌++◌, refl, sym}
use Rattle.std.specs.Prelude.{not, if◌then◌else◌, Option, Some, None}
use Rattle.std.specs.List.{list_all}
use Rattle.design_base.specs.Limits.{in_bounds}
use Rattle.rule_table.specs.Candidates.{is_candidate, premises}
use Rattle.derivations.specs.declared.line.LineFault.{LineFault}
use Rattle.derivations.specs.declared.line.LineFault.TheVariants.{OutOfBounds, NotCandidate, ForwardReference, MissingPremise, UsedTwice}
use Rattle.derivations.specs.declared.line.Line.{Line}
use Rattle.derivations.specs.declared.line.Fault.{Fault}
use Rattle.derivations.specs.Derivations.{comes_before, fault_at, answers, used_twice, fault_of_line, fault_from, surplus_from}

-- line number i of D, behind lines that name the numbers `named`, has no fault
pub record IsFine (D : List Line) (i : ℕ) (named : List ℕ) (l : Line) : Type 0 where
  pub bounds : in_bounds l.query ≡ true
  pub candidate : is_candidate l.query l.step ≡ true
  pub backward : list_all (comes_before i) l.from ≡ true
  pub answered : answers D l.from (premises l.query l.step) ≡ true
  pub once : used_twice named l.from ≡ false

-- none of the lines from number i on has a fault
abbrev pub AreFine : List Line → ℕ → List ℕ → List Line → Type 0
AreFine D i named [] = Unit {0}
AreFine D i named (l ∷ rest) = IsFine D i named l × AreFine D (i + 1) (l.from ++ named) rest

-- the numbers that the lines name, and those that were named before
unfoldable pub named_by : List ℕ → List Line → List ℕ
named_by named [] = named
named_by named (l ∷ rest) = named_by (l.from ++ named) rest

-- the fault by what the five tests say
abbrev pub fault_by : Bool → Bool → Bool → Bool → Bool → Option LineFault
fault_by a b c d e =
    if not a then Some OutOfBounds else
    if not b then Some NotCandidate else
    if not c then Some ForwardReference else
    if not d then Some MissingPremise else
    if e then Some UsedTwice else
    None

five : (a b c d e : Bool) → fault_by a b c d e ≡ None → (a ≡ true) × (b ≡ true) × (c ≡ true) × (d ≡ true) × (e ≡ false)
five true true true true false h = (refl, refl, refl, refl, refl)
five true true true true true h = cc
five true true true false e h = cc
five true true false d e h = cc
five true false c d e h = cc
five false b c d e h = cc

pub fine_of : (D : List Line) (i : ℕ) (named : List ℕ) (l : Line) → fault_of_line D i named l ≡ None → IsFine D i named l
unfolding fault_of_line
fine_of D i named l h =
    let t = five (in_bounds l.query) (is_candidate l.query l.step) (list_all (comes_before i) l.from) (answers D l.from (premises l.query l.step)) (used_twice named l.from) h in
    record { bounds = t.0; candidate = t.1; backward = t.2; answered = t.3; once = t.4 }

none_five : (a b c d e : Bool) → a ≡ true → b ≡ true → c ≡ true → d ≡ true → e ≡ false → fault_by a b c d e ≡ None
none_five true true true true false h i j k l = refl
none_five true true true true true h i j k l = cc
none_five true true true false e h i j k l = cc
none_five true true false d e h i j k l = cc
none_five true false c d e h i j k l = cc
none_five false b c d e h i j k l = cc

pub none_of : (D : List Line) (i : ℕ) (named : List ℕ) (l : Line) → IsFine D i named l → fault_of_line D i named l ≡ None
unfolding fault_of_line
none_of D i named l f =
    none_five (in_bounds l.query) (is_candidate l.query l.step) (list_all (comes_before i) l.from) (answers D l.from (premises l.query l.step)) (used_twice named l.from)
    f.bounds f.candidate f.backward f.answered f.once

pub all_fine : (D : List Line) (i : ℕ) (named : List ℕ) (ls : List Line) → fault_from D i named ls ≡ None → AreFine D i named ls
unfolding fault_from
all_fine D i named [] h = tt
all_fine D i named (l ∷ rest) h = split (fault_of_line D i named l) refl (all_fine D (i + 1) (l.from ++ named) rest) h
  where
    split : (f : Option LineFault) → f ≡ fault_of_line D i named l
        → (fault_from D (i + 1) (l.from ++ named) rest ≡ None → AreFine D (i + 1) (l.from ++ named) rest)
        → ◌≡◌ {A = Option Fault} (elim f [ Some f ↦ fault_at i f | None ↦ fault_from D (i + 1) (l.from ++ named) rest ]) None
        → IsFine D i named l × AreFine D (i + 1) (l.from ++ named) rest
    split (Some f) e r h = cc
    split None e r h = (fine_of D i named l (sym e), r h)

pub fine_goes_on : (D : List Line) (i : ℕ) (named : List ℕ) (ls : List Line) → AreFine D i named ls → fault_from D i named ls ≡ surplus_from 1 (named_by named ls) D
unfolding fault_from named_by
fine_goes_on D i named [] f = refl
fine_goes_on D i named (l ∷ rest) f = split (fault_of_line D i named l) (none_of D i named l f.0) (fine_goes_on D (i + 1) (l.from ++ named) rest f.1)
  where
    split : (f : Option LineFault) → f ≡ None → fault_from D (i + 1) (l.from ++ named) rest ≡ surplus_from 1 (named_by (l.from ++ named) rest) D
        → ◌≡◌ {A = Option Fault} (elim f [ Some f ↦ fault_at i f | None ↦ fault_from D (i + 1) (l.from ++ named) rest ]) (surplus_from 1 (named_by (l.from ++ named) rest) D)
    split (Some f) e r = cc
    split None e r = r
