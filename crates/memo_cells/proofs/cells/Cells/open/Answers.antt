use Rattle.std.proofs.Common.{ℕ, refl, ap, ◌∙◌, length}
use Rattle.std.proofs.lemmas.List.{length-replicate}
use Rattle.design_base.specs.declared.cells.TheConstants.{CELLS}
use Rattle.memo_cells.proofs.Filling.{law_begins}
use Rattle.memo_cells.proofs.cells.Cells.open.Goals as goal

pub of_words-requires : goal.of_words-requires
of_words-requires c = law_begins CELLS _ refl refl
