use Rattle.std.proofs.Common.{arith, sym, ◌-◌}
use Rattle.block_texts.proofs.Shortened.{last_of_rows}
use Rattle.block_texts.proofs.blocks.ends_short.Goals as goal

pub returns-then-count-gt0 : goal.returns-then-count-gt0
returns-then-count-gt0 c =
    sym (last_of_rows c.args.least c.args.rows.now (c.len-count.result - 1) c.row.result.now c.requires (omega (arith, c.len-count.ensures.len, c.if-count-gt0.true)) c.row.ensures)
