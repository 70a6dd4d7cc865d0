use Rattle.std.proofs.Common.{Err, ap, arith, length, refl, ◌+◌, ◌∙◌}
use Rattle.std.specs.Prelude.{option_map}
use Rattle.block_texts.specs.BlockLines.{with_row}
use Rattle.block_texts.specs.BlockText.{behind, read_from, shortened, until_short}
use Rattle.block_texts.specs.Fronts.{bytes_behind, lines_behind}
use Rattle.block_texts.proofs.BlockTexts.{block_text-bad, block_text-first, block_text-last, block_text-more}
use Rattle.block_texts.proofs.Shortened.{stays_short}
use Rattle.block_texts.proofs.blocks.read_blocks.Goals as goal

pub lines-init : goal.lines-init
unfolding until_short
lines-init c = record {
  read = rw c.new-rows.ensures (ap (shortened c.args.least) (block_text-first c.args.text.now));
  short = rw c.new-rows.ensures refl;
  lines = omega arith;
  room = rw c.new-rows.ensures (omega arith);
}

pub returns-in-Err-Bad-clause-bad : goal.returns-in-Err-Bad-clause-bad
returns-in-Err-Bad-clause-bad c =
    block_text-bad c.args.least c.args.text.now c.lines.rest.now c.lines.rows c.lines.line c.lines.invariant.read (c.read_row.ensures.bad (c.in-Err-Bad.is ∙ ap Err c.in-Err-Bad.field-0-is))

pub returns-in_default-next-clause-blocks : goal.returns-in_default-next-clause-blocks
returns-in_default-next-clause-blocks c =
    block_text-last c.args.least c.args.text.now c.lines.rest.now c.read_row.new.row.items c.deref.result.now c.lines.rows c.push_until_short.new.rows c.lines.line _ c.lines.invariant.read c.in-Ok.ensures.row
    (ap (option_map (λ rest. rest.now)) c.in_default-next.is) c.deref.ensures.value c.in-Ok-push_until_short.ensures.row

pub lines-preserved : goal.lines-preserved
lines-preserved c =
    let more = ap (option_map (λ rest. rest.now)) c.in-Some.is in
    record {
      read =
          block_text-more c.args.least c.args.text.now c.lines.rest.now c.read_row.new.row.items c.deref.result.now c.lines.rows c.push_until_short.new.rows c.lines.line _ c.lines.invariant.read c.in-Ok.ensures.row
          c.deref.ensures.value c.in-Ok-push_until_short.ensures.row
          ∙ ap (λ next. shortened c.args.least (behind c.push_until_short.new.rows (read_from (c.lines.line + 1) (lines_behind next)))) more;
      short = stays_short c.args.least c.push_until_short.new.rows (with_row c.lines.rows c.deref.result.now) c.in-Ok-push_until_short.ensures.row;
      lines = omega (arith, c.lines.invariant.lines, c.in-Ok.ensures.row.few, ap bytes_behind more);
      room = omega (arith, c.lines.invariant.room, c.in-Ok.ensures.row.few, ap bytes_behind more, ap length c.deref.ensures.value, c.in-Ok-push_until_short.ensures.size);
    }
