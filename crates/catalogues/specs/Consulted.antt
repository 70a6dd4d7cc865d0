-- What catalogues that tell their entries offer for a question, and which entries stay.
use Rattle.std.proofs.Common.{[], ◌++◌, ◌∷◌}
use Rattle.std.specs.Prelude.{IfSome, List, None, Option, Some, filter, map, not, ℕ, ◌+◌, ◌≡◌}
use Rattle.design_base.specs.Canonical.{canonical}
use Rattle.design_base.specs.declared.query.Query.{Query}
use Rattle.design_checks.specs.Findings.{finding}
use Rattle.design_checks.specs.declared.finding.Finding.{Finding}
use Rattle.design_checks.specs.declared.finding.Finding.TheVariants.{BadBlock, BadPair, Valid}
use Rattle.catalogues.specs.declared.outcome.Rejected.{Rejected}
use Rattle.catalogues.specs.Entries.{Seen, no_entry, take_out}
use Rattle.catalogues.specs.declared.catalogue.Entry.{Entry}

-- the refused offers, the valid one with the place of its catalogue, from 1, and the entries afterwards
pub record Walk : Type 0 where
  pub refusals : List Rejected
  pub valid : Option (ℕ × List (List ℕ))
  pub lists : List (List Entry)

-- refusals R and entries es of one catalogue before a walk
abbrev pub before : List Rejected → List Entry → Walk → Walk
before R es w = record { refusals = R ++ w.refusals; valid = w.valid; lists = es ∷ w.lists }

abbrev pub refused : ℕ → Finding → List Entry → Walk → Walk
refused number found es w = before ((record { number = number; finding = found }) ∷ []) es w

-- an offer C of a catalogue, of which the entries es stay: the walk goes on behind it unless C is valid
abbrev pub offered : ℕ → List (List ℕ) → List Entry → List (List Entry) → (Unit {0} → Walk) → Finding → Walk
offered number C es lists next Valid = record { refusals = []; valid = Some (number, C); lists = es ∷ lists }
offered number C es lists next (BadBlock index) = refused number (BadBlock index) es (next tt)
offered number C es lists next (BadPair x y count) = refused number (BadPair x y count) es (next tt)

-- each catalogue is asked in order, up to the first valid offer
unfoldable pub walk : Query → ℕ → List (List Entry) → Walk
walk q number [] = record { refusals = []; valid = None; lists = [] }
walk q number (es ∷ lists) = elim ((take_out q es).blocks) [
  | None ↦ before [] (take_out q es).entries (walk q (number + 1) lists)
  | Some B ↦ offered number (canonical B) (take_out q es).entries lists (λ u. walk q (number + 1) lists) (finding q (canonical B))
]

-- then the empty catalogues are dropped
abbrev pub consulted : Query → List (List Entry) → Walk
consulted q lists = record { refusals = (walk q 1 lists).refusals; valid = (walk q 1 lists).valid; lists = filter (λ es. not (no_entry es)) (walk q 1 lists).lists }

-- entries of a catalogue: those that it tells, where it does
abbrev pub IsHeld : Option (List Entry) → List Entry → Type 0
IsHeld told es = IfSome told (λ fs. fs ≡ es)

-- a list of entries for each catalogue
unfoldable pub AreHeld : List Seen → List (List Entry) → Type 0
AreHeld [] lists = lists ≡ []
AreHeld (s ∷ old) [] = ⊥
AreHeld (s ∷ old) (es ∷ lists) = IsHeld s.told es × AreHeld old lists

-- all of them tell their entries, and these are they
abbrev pub AreTold : List Seen → List (List Entry) → Type 0
AreTold old lists = map (λ s. s.told) old ≡ map (λ es. Some es) lists

-- there are entries of the catalogues such that what was found is the walk's over them; where all of them tell their entries, what they tell afterwards is the walk's too
pub record IsConsulted (q : Query) (old new : List Seen) (R : List Rejected) (valid : Option (ℕ × List (List ℕ))) : Type 0 where
  pub lists : List (List Entry)
  pub held : AreHeld old lists
  pub refusals : R ≡ (consulted q lists).refusals
  pub valid_one : valid ≡ (consulted q lists).valid
  pub after : AreTold old lists → AreTold new (consulted q lists).lists
