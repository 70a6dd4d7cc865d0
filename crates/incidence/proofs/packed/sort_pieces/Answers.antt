use Rattle.std.proofs.Common.{arith, drop, get_or, length-drop, refl, ◌-◌}
use Rattle.std.proofs.lemmas.List.{length-take-le}
use Rattle.std.specs.List.{slice_range}
use Rattle.counting.proofs.Sorting.{sorted_row_is}
use Rattle.incidence.proofs.Pieces.{next_within, sorted_more}
use Rattle.incidence.proofs.packed.sort_pieces.Goals as goal

pub loop-next-preserved : goal.loop-next-preserved
loop-next-preserved c =
    let numbers = c.loop-next.numbers in
    let start = c.loop-next.start in
    let end = get_or c.args.ends.now c.loop-next.next-index 0 in
    let within = next_within c.args.ends.now c.args.numbers.now numbers c.loop-next.next-index start c.loop-next.invariant c.loop-next-test.true in
    sorted_more c.args.ends.now c.args.numbers.now numbers c.sort_unstable.new.self c.loop-next.next-index start end c.loop-next.invariant c.loop-next-test.true refl
    (sorted_row_is (slice_range numbers start end) c.sort_unstable.new.self c.sort_unstable.ensures.permutation c.sort_unstable.ensures.sorted)
    (omega (arith, within, c.sort_unstable.ensures.len, length-take-le (end - start) (drop start numbers) (omega (arith, within, length-drop start numbers))))
