use Rattle.std.proofs.Common.{◌≡◌, ◌+◌, ◌≤◌, length}
use Rattle.incidence.specs.Packed.{size_of}
use Rattle.block_texts.specs.BlockText.{behind, block_text, lines_of, read_from, shortened, until_short}
use Rattle.block_texts.proofs.blocks.read_blocks.Given as goal

abbrev pub invariant-lines : goal.invariant-lines
invariant-lines l = record {
  read : shortened l.fn.least (block_text l.text) ≡ shortened l.fn.least (behind l.rows (read_from l.line (lines_of l.rest)));
  short : until_short l.fn.least l.rows ≡ l.rows;
  lines : l.line + length l.rest ≤ length l.text + 1;
  room : size_of l.rows + length l.rest ≤ length l.text;
}

abbrev pub decreases-lines : goal.decreases-lines
decreases-lines l = length l.rest
