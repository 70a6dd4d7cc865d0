-- What was read is what the lines so far come to; there is room for the numbers of those that are left.
use Rattle.std.proofs.Common.{length, ◌*◌, ◌+◌, ◌≡◌, ◌≤◌}
use Rattle.design_io.specs.InputLines.{lines_of}
use Rattle.catalogues.specs.CatalogueText.{catalogue_text, read_on, size_of_begun}
use Rattle.catalogues.proofs.text.read_catalogue.Given as goal

abbrev pub invariant-loop-first : goal.invariant-loop-first
invariant-loop-first l = record {
  reads : catalogue_text l.fn.text ≡ read_on l.line (record { ended = l.ended.items; begun = l.begun }) (lines_of l.rest);
  place : l.line + length l.rest ≤ length l.fn.text + 1;
  room : size_of_begun l.begun + 2 * length l.rest ≤ 2 * length l.fn.text;
}

abbrev pub decreases-loop-first : goal.decreases-loop-first
decreases-loop-first l = length l.rest
