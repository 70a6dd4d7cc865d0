-- The walk by one step, and what it finds.
use Rattle.std.proofs.Common.{List, [], ap, ap₂, refl, subst, sym, ℕ, ◌++◌, ◌+◌, ◌∙◌, ◌∷◌, ◌≡◌, ◌≢◌}
use Rattle.std.proofs.lemmas.List.{append_assoc}
use Rattle.std.specs.Prelude.{IfSome, None, Option, Some}
use Rattle.design_base.specs.Canonical.{canonical}
use Rattle.design_base.specs.Meets.{Meets}
use Rattle.design_base.specs.declared.query.Query.{Query}
use Rattle.design_checks.proofs.Meeting.{found_meets}
use Rattle.design_checks.specs.Findings.{finding}
use Rattle.design_checks.specs.declared.finding.Finding.{Finding}
use Rattle.design_checks.specs.declared.finding.Finding.TheVariants.{BadBlock, BadPair, Valid}
use Rattle.catalogues.specs.declared.outcome.Rejected.{Rejected}
use Rattle.catalogues.specs.Consulted.{Walk, before, consulted, offered, refused, walk}
use Rattle.catalogues.specs.Entries.{take_out}
use Rattle.catalogues.specs.declared.catalogue.Entry.{Entry}

pub walk_end : (q : Query) (number : ℕ) → walk q number [] ≡ record { refusals = []; valid = None; lists = [] }
unfolding walk
walk_end q number = refl

pub walk_none : (q : Query) (number : ℕ) (es : List Entry) (rest : List (List Entry)) → (take_out q es).blocks ≡ None → walk q number (es ∷ rest) ≡ before [] (take_out q es).entries (walk q (number + 1) rest)
unfolding walk
walk_none q number es rest e = ap (λ o. elim o [
  | None ↦ before [] (take_out q es).entries (walk q (number + 1) rest)
  | Some B ↦ offered number (canonical B) (take_out q es).entries rest (λ u. walk q (number + 1) rest) (finding q (canonical B))
]) e

walk_some : (q : Query) (number : ℕ) (es : List Entry) (rest : List (List Entry)) (B : List (List ℕ)) → (take_out q es).blocks ≡ Some B →
    walk q number (es ∷ rest) ≡ offered number (canonical B) (take_out q es).entries rest (λ u. walk q (number + 1) rest) (finding q (canonical B))
unfolding walk
walk_some q number es rest B e = ap (λ o. elim o [
  | None ↦ before [] (take_out q es).entries (walk q (number + 1) rest)
  | Some B ↦ offered number (canonical B) (take_out q es).entries rest (λ u. walk q (number + 1) rest) (finding q (canonical B))
]) e

-- an offer that is not valid
not_valid : (number : ℕ) (C : List (List ℕ)) (es : List Entry) (rest : List (List Entry)) (next : Unit {0} → Walk) (found : Finding) → found ≢ Valid → offered number C es rest next found ≡ refused number found es (next tt)
not_valid number C es rest next Valid ne = absurd (ne refl)
not_valid number C es rest next (BadBlock index) ne = refl
not_valid number C es rest next (BadPair x y count) ne = refl

-- a refused offer, and a valid one
pub walk_unfit : (q : Query) (number : ℕ) (es : List Entry) (rest : List (List Entry)) (B : List (List ℕ)) (found : Finding) → (take_out q es).blocks ≡ Some B → found ≡ finding q (canonical B) → found ≢ Valid →
    walk q number (es ∷ rest) ≡ refused number found (take_out q es).entries (walk q (number + 1) rest)
walk_unfit q number es rest B found e f ne =
    walk_some q number es rest B e ∙ ap (offered number (canonical B) (take_out q es).entries rest (λ u. walk q (number + 1) rest)) (sym f)
    ∙ not_valid number (canonical B) (take_out q es).entries rest (λ u. walk q (number + 1) rest) found ne

pub walk_fit : (q : Query) (number : ℕ) (es : List Entry) (rest : List (List Entry)) (B C : List (List ℕ)) → (take_out q es).blocks ≡ Some B → C ≡ canonical B → finding q C ≡ Valid →
    walk q number (es ∷ rest) ≡ record { refusals = []; valid = Some (number, canonical B); lists = (take_out q es).entries ∷ rest }
walk_fit q number es rest B C e form passes = walk_some q number es rest B e ∙ ap (offered number (canonical B) (take_out q es).entries rest (λ u. walk q (number + 1) rest)) (sym (ap (finding q) form) ∙ passes)

-- what was found and done before a walk
unfoldable pub after : List Rejected → List (List Entry) → Walk → Walk
after R done w = record { refusals = R ++ w.refusals; valid = w.valid; lists = done ++ w.lists }

pub after_before : (R S : List Rejected) (done : List (List Entry)) (es : List Entry) (w : Walk) → after R done (before S es w) ≡ after (R ++ S) (done ++ es ∷ []) w
unfolding after
after_before R S done es w = ap₂ (λ r l. record { refusals = r; valid = w.valid; lists = l }) (sym (append_assoc R S w.refusals)) (sym (append_assoc done (es ∷ []) w.lists))

-- ---- of no catalogues
pub consulted_none : (q : Query) → consulted q [] ≡ record { refusals = []; valid = None; lists = [] }
unfolding walk
consulted_none q = refl

-- ---- a valid one is a design
abbrev FindsDesign : Query → Walk → Type 0
FindsDesign q w = IfSome w.valid (λ p. (finding q p.1 ≡ Valid) × Meets q p.1)

offered_meets : (q : Query) (number : ℕ) (C : List (List ℕ)) (es : List Entry) (rest : List (List Entry)) (next : Unit {0} → Walk) (found : Finding) → finding q C ≡ found → FindsDesign q (next tt) →
    FindsDesign q (offered number C es rest next found)
offered_meets q number C es rest next Valid e h = (e, (found_meets q C Valid (sym e)).0 refl)
offered_meets q number C es rest next (BadBlock index) e h = h
offered_meets q number C es rest next (BadPair x y count) e h = h

by_offer : (q : Query) (number : ℕ) (es : List Entry) (rest : List (List Entry)) → FindsDesign q (walk q (number + 1) rest) →
    (offer : Option (List (List ℕ))) → (take_out q es).blocks ≡ offer → FindsDesign q (walk q number (es ∷ rest))
by_offer q number es rest h None e = subst (FindsDesign q) (sym (walk_none q number es rest e)) h
by_offer q number es rest h (Some B) e =
    subst (FindsDesign q) (sym (walk_some q number es rest B e))
    (offered_meets q number (canonical B) (take_out q es).entries rest (λ u. walk q (number + 1) rest) (finding q (canonical B)) refl h)

walk_meets : (q : Query) (number : ℕ) (lists : List (List Entry)) → FindsDesign q (walk q number lists)
walk_meets q number [] = subst (FindsDesign q) (sym (walk_end q number)) tt
walk_meets q number (es ∷ rest) = by_offer q number es rest (walk_meets q (number + 1) rest) (take_out q es).blocks refl

pub consulted_meets : (q : Query) (lists : List (List Entry)) (number : ℕ) (C : List (List ℕ)) → (consulted q lists).valid ≡ Some (number, C) → (finding q C ≡ Valid) × Meets q C
consulted_meets q lists number C e = subst (λ valid. IfSome valid (λ p. (finding q p.1 ≡ Valid) × Meets q p.1)) e (walk_meets q 1 lists)
