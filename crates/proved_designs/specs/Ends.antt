-- How a block list does not become a design.
use Rattle.std.specs.Prelude.{ℕ, ◌≡◌, ◌≢◌, List, ⊤}
use Rattle.design_base.specs.declared.query.Query.{Query}
use Rattle.design_checks.specs.Findings.{finding}
use Rattle.design_checks.specs.declared.finding.Finding.TheVariants.{Valid}
use Rattle.proved_designs.specs.declared.design.CheckEnd.{CheckEnd}
use Rattle.proved_designs.specs.declared.design.CheckEnd.TheVariants.{Memory, Unfit}

-- what was found is what a check finds of the list, and not that it is a design
abbrev pub IsCheckEnd : Query → List (List ℕ) → CheckEnd → Type 0
IsCheckEnd q B (Unfit found) = (found ≡ finding q B) × (found ≢ Valid)
IsCheckEnd q B Memory = ⊤
