-- The lines of a catalogue text, read one after another.
use Rattle.std.proofs.Common.{List, [], ap, refl, subst, sym, ℕ, ◌+◌, ◌∙◌, ◌∷◌, ◌≡◌}
use Rattle.std.specs.Prelude.{IfErr, IfOk, None, Option, Result, Some}
use Rattle.design_io.specs.InputLines.{InputLine, lines_of}
use Rattle.std.specs.declared.result.Result.TheVariants.{Err, Ok}
use Rattle.catalogues.specs.CatalogueText.{CatalogueText, IsBadCatalogue, Progress, at_end, bad_line, catalogue_text, entries, nothing_read, after_line, read_on}
use Rattle.catalogues.specs.Listed.{Listed}
use Rattle.catalogues.specs.declared.text.CatalogueEnd.{CatalogueEnd}
use Rattle.catalogues.specs.declared.text.CatalogueEnd.TheVariants.{BadLine}

pub read_begins : (text : List ℕ) → catalogue_text text ≡ read_on 1 nothing_read (lines_of text)
unfolding catalogue_text
read_begins text = refl

-- by what a line more comes to
on_line : ℕ → List InputLine → Option Progress → CatalogueText
on_line place lines o = elim o [ None ↦ bad_line place | Some next ↦ read_on (place + 1) next lines ]

by_line : (place : ℕ) (p : Progress) (l : InputLine) (lines : List InputLine) → read_on place p (l ∷ lines) ≡ on_line place lines (after_line p.ended p.begun l.bytes)
unfolding read_on on_line
by_line place p l lines = refl

module _ (whole : CatalogueText) (place : ℕ) (p : Progress) (lines : List InputLine) (reads : whole ≡ read_on place p lines) where
  pub read_line : (l : InputLine) (more : List InputLine) (next : Progress) → lines ≡ l ∷ more → after_line p.ended p.begun l.bytes ≡ Some next → whole ≡ read_on (place + 1) next more
  unfolding on_line
  read_line l more next e o = reads ∙ ap (read_on place p) e ∙ by_line place p l more ∙ ap (on_line place more) o

  pub read_bad : (l : InputLine) (more : List InputLine) → lines ≡ l ∷ more → after_line p.ended p.begun l.bytes ≡ None → whole ≡ bad_line place
  unfolding on_line
  read_bad l more e o = reads ∙ ap (read_on place p) e ∙ by_line place p l more ∙ ap (on_line place more) o

  pub read_ends : lines ≡ [] → whole ≡ at_end place p
  unfolding read_on
  read_ends e = reads ∙ ap (read_on place p) e

-- where no line is left
module _ (text : List ℕ) (place : ℕ) (p : Progress) (ends : catalogue_text text ≡ at_end place p) where
  pub all_ended : (result : Result Listed CatalogueEnd) → IfOk result (λ list. at_end place p ≡ entries list.entries) → IfOk result (λ list. catalogue_text text ≡ entries list.entries)
  all_ended (Ok list) h = ends ∙ h
  all_ended (Err end) h = tt

  pub one_begun : (result : Result Listed CatalogueEnd) → IfErr result (λ end. (end ≡ BadLine place) × (at_end place p ≡ bad_line place)) → IfErr result (IsBadCatalogue text)
  one_begun (Ok list) h = tt
  one_begun (Err end) h = subst (IsBadCatalogue text) (sym h.0) (ends ∙ h.1)
