use Rattle.std.proofs.Common.{arith, inl, inr, sym, ◌∙◌, ◌≡◌, ap}
use Rattle.counting.proofs.Booleans.{cases_eq}
use Rattle.design_base.specs.Blocks.{differences}
use Rattle.design_base.specs.Meets.{group_add}
use Rattle.design_checks.proofs.Families.{differences-covers, differences-few}
use Rattle.design_checks.proofs.differences.first_bad_difference.Goals as goal

pub overflow_cast-count : goal.overflow_cast-count
overflow_cast-count c =
    let rows = c.args.rows.now in
    let add = group_add c.args.group c.args.v in
    omega (arith, c.times_difference-count.ensures rows (rw c.deref.ensures.value c.count_rows.ensures.counts), differences-covers c.args.v add c.loop-d.d rows c.requires.rows, differences-few c.args.v add c.loop-d.d rows c.requires.rows, c.count_rows.ensures.small)

pub returns-then-count-from-clause-pair : goal.returns-then-count-from-clause-pair
returns-then-count-from-clause-pair c =
    let rows = c.args.rows.now in
    let add = group_add c.args.group c.args.v in
    let count : c.times_difference-count.result ≡ differences add rows c.loop-d.d = c.times_difference-count.ensures rows (rw c.deref.ensures.value c.count_rows.ensures.counts) ∙ sym (differences-covers c.args.v add c.loop-d.d rows c.requires.rows) in
    record {
      above = omega arith;
      below = omega arith;
      partner = record {
        above = omega arith;
        below = omega arith;
        differ = λ e. c.if-count-from.true (count ∙ e ∙ sym c.from.ensures);
        before = c.loop-d.invariant;
      };
      before = λ x a b. absurd (omega arith);
      count = count;
    }

pub loop-d-preserved : goal.loop-d-preserved
loop-d-preserved c = λ i a b.
    let rows = c.args.rows.now in
    let add = group_add c.args.group c.args.v in
    let count : c.times_difference-count.result ≡ differences add rows c.loop-d.d = c.times_difference-count.ensures rows (rw c.deref.ensures.value c.count_rows.ensures.counts) ∙ sym (differences-covers c.args.v add c.loop-d.d rows c.requires.rows) in
    elim (cases_eq i c.loop-d.d) [
      | inl s ↦ ap (differences add rows) s ∙ sym count ∙ c.if-count-from.false ∙ c.from.ensures
      | inr n ↦ c.loop-d.invariant i a (omega arith)
    ]
