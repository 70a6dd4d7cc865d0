-- What is said of a question that the table of rules leaves open: what catalogues offer for it.
use Rattle.std.specs.Prelude.{ℕ, List, [], ◌∷◌, ◌++◌, length, map, Option, Some, None, option_map}
use Rattle.catalogues.specs.Consulted.{consulted}
use Rattle.catalogues.specs.declared.catalogue.Entry.{Entry}
use Rattle.catalogues.specs.declared.outcome.ConsultEnd.{ConsultEnd}
use Rattle.catalogues.specs.declared.outcome.ConsultEnd.TheVariants.{Failed, Memory}
use Rattle.catalogues.specs.declared.outcome.Rejected.{Rejected}
use Rattle.design_base.specs.declared.query.Query.{Query}
use Rattle.design_base.specs.declared.verdict.Verdict.TheVariants.{Unknown as UnknownVerdict}
use Rattle.design_lines.specs.declared.command.Shape.{Shape}
use Rattle.design_reports.specs.Parts.{part_lines, part_of}
use Rattle.design_reports.specs.Reports.{Report}
use Rattle.design_reports.specs.Texts.{refused_offer_line, valid_offer_line, verdict_line}
use Rattle.design_reports.specs.declared.ending.Ending.{Ending}
use Rattle.design_reports.specs.declared.ending.Ending.TheVariants.{CatalogueFault, NoMemory, Unknown, Yes}

-- the offers that are no designs, each with what its check found
abbrev pub refused_lines : List Rejected → List (List ℕ)
refused_lines refused = map (λ r. refused_offer_line r.number r.finding) refused

-- the one that is a design: the number of its catalogue, and how many blocks it has
abbrev pub counted : Option (ℕ × List (List ℕ)) → Option (ℕ × ℕ)
counted valid = option_map (λ offer. (offer.0, length offer.1)) valid

abbrev pub valid_lines : Option (ℕ × ℕ) → List (List ℕ)
valid_lines None = []
valid_lines (Some offer) = valid_offer_line offer.0 offer.1 ∷ []

-- and its blocks, in the shape that is asked for
abbrev pub handed_lines : Query → Shape → Option (ℕ × List (List ℕ)) → List (List ℕ)
handed_lines q shape None = []
handed_lines q shape (Some offer) = part_lines (part_of q shape offer.1)

-- an answer that says the offers is yes where one of them is a design
abbrev pub ending_by : Option (ℕ × ℕ) → Ending
ending_by None = Unknown
ending_by (Some offer) = Yes

-- that the question is open, the offers in their order, and these lines
abbrev pub offers_report : Query → List Rejected → Option (ℕ × ℕ) → List (List ℕ) → Report
offers_report q refused valid lines = record { lines = verdict_line q UnknownVerdict ∷ (refused_lines refused ++ (valid_lines valid ++ lines)); ending = ending_by valid }

-- what catalogues with these entries offer
abbrev pub consulted_report : Query → List (List Entry) → Report
consulted_report q lists = offers_report q (consulted q lists).refusals (counted (consulted q lists).valid) []

-- the same with the blocks of the design
abbrev pub handed_report : Query → Shape → List (List Entry) → Report
handed_report q shape lists = offers_report q (consulted q lists).refusals (counted (consulted q lists).valid) (handed_lines q shape (consulted q lists).valid)

-- how an answer ends where the catalogues were not asked to the end
abbrev pub ending_at_consult : ConsultEnd → Ending
ending_at_consult (Failed number) = CatalogueFault number
ending_at_consult Memory = NoMemory
