use Rattle.std.proofs.Common.{[], ap₂, arith, sym, ◌∙◌}
use Rattle.std.proofs.lemmas.Option.{get_or_from_slice_get}
use Rattle.block_counts.specs.Counts.{meet}
use Rattle.symmetric.proofs.EqualMeets.{meets, places}
use Rattle.symmetric.proofs.meets.meet.Goals as goal

pub returns-clause-common : goal.returns-clause-common
returns-clause-common c = c.count_common.ensures
    ∙ sym (ap₂ meet (get_or_from_slice_get c.args.rows.now c.args.i c.row.result.now [] c.row.ensures) (get_or_from_slice_get c.args.rows.now c.args.j c.row-2.result.now [] c.row-2.ensures))

pub returns-clause-equal : goal.returns-clause-equal
returns-clause-equal c =
    let many = places c.args.rows.now c.args.v c.args.k c.args.l c.requires.design in
    returns-clause-common c ∙ meets c.args.rows.now c.args.v c.args.k c.args.l c.requires.design c.args.i (omega (arith, many, c.requires.first)) c.args.j (omega (arith, many, c.requires.second)) (λ e. c.requires.apart (sym e))
