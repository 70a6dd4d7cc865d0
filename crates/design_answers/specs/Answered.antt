-- How an answer ends that may ask catalogues, against its report.
use Rattle.std.specs.Prelude.{◌≡◌, ◌⊎◌, ℕ, Bool, true, List, None, Option, Some, ⊤}
use Rattle.catalogues.specs.Consulted.{AreHeld, AreTold}
use Rattle.catalogues.specs.Consults.{AsksFirst, HasFailed}
use Rattle.catalogues.specs.Entries.{Seen}
use Rattle.catalogues.specs.declared.catalogue.Entry.{Entry}
use Rattle.design_reports.specs.Answers.{EndsWith}
use Rattle.design_reports.specs.Reports.{Report}
use Rattle.design_reports.specs.declared.ending.Ending.{Ending}
use Rattle.design_reports.specs.declared.ending.Ending.TheVariants.{CatalogueFault, NoMemory}

-- the catalogues tell these entries, unless there was no memory or an offer failed
abbrev pub LeavesTold : Ending → List Seen → List (List Entry) → Type 0
LeavesTold NoMemory new lists = ⊤
LeavesTold (CatalogueFault number) new lists = ⊤
LeavesTold ending new lists = AreTold new lists

-- How the catalogues were asked. The first of them, where some are asked: each once and without a failed offer, and then the spent ones were dropped; for want of
-- memory these may be fewer, or none. Where an offer failed, its catalogue was the last that was asked.
abbrev pub AsksBy : Ending → Option ℕ → List Seen → List Seen → Type 0
AsksBy NoMemory asks old new = (new ≡ old) ⊎ ((n : ℕ) × AsksFirst n old new)
AsksBy (CatalogueFault number) asks old new = HasFailed old new number
AsksBy ending None old new = new ≡ old
AsksBy ending (Some n) old new = AsksFirst n old new

-- There are entries, those that the catalogues tell where they do, and the answer ends as the report on them says. Where all of them tell, so they do of what
-- is left by `after`. By `asks` so many of them are asked.
pub record AnswersOn (old new : List Seen) (report : List (List Entry) → Report) (after : List (List Entry) → List (List Entry)) (asks : List (List Entry) → Option ℕ) (ending : Ending) (held now : Option (List ℕ)) : Type 0 where
  pub lists : List (List Entry)
  pub are_held : AreHeld old lists
  pub ends : EndsWith (report lists) ending held now
  pub leaves : AreTold old lists → LeavesTold ending new (after lists)
  pub asked : AsksBy ending (asks lists) old new

-- the catalogues were asked, and the offer of the one with this number failed
pub record HasOfferFault (asks : Bool) (old new : List Seen) (number : ℕ) : Type 0 where
  pub asked : asks ≡ true
  pub failed : HasFailed old new number
