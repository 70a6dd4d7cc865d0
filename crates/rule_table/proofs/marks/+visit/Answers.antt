use Rattle.std.proofs.Common.{◌≡◌, ◌<◌, ◌-◌, refl, ap, sym, ◌∙◌, subst, arith}
use Rattle.rule_terms.specs.Rank.{rank}
use Rattle.rule_table.specs.Closure.{IsClosed}
use Rattle.rule_table.specs.Progress.{Progress}
use Rattle.rule_table.proofs.Closures.{closure_alone}
use Rattle.rule_table.proofs.Told.{kept_same}
use Rattle.rule_table.proofs.Visiting.{Visiting, visit_begins, visit_goes_on, visit_ends, visit_closes, visited_already, kept_on}
use Rattle.rule_table.proofs.marks.+visit.Goals as goal

pub turns-smaller : goal.turns-smaller
turns-smaller g t c =
    let e : c.answer.new.self.left ≡ c.turns.inquiry.left - 1 = ap (λ (e : Progress). e.left) (c.answer.ensures c.in-Ask.premise c.in-Ask.ensures.next) in
    omega (arith, e, c.in-Ask.ensures.left)

pub turns-preserved : goal.turns-preserved
turns-preserved g t c =
    let i = c.turns.invariant in
    let p = c.in-Ask.premise in
    let q = c.args.q.now in
    let told = g.A.Asker.told in
    let below : rank p < rank q = omega (arith, c.in-Ask.ensures.smaller, ap rank i.visiting.question) in
    record {
      visiting = subst (λ (e : Progress). Visiting q c.args.marks.now e c.visit.new.marks) (sym (c.answer.ensures p c.in-Ask.ensures.next))
          (visit_goes_on q p c.args.marks.now c.turns.inquiry c.turns.marks c.visit.new.marks i.visiting c.visit.ensures.marks c.visit.ensures.closed);
      memo = c.visit.ensures.memo ∙ c.ask-told.ensures.memo ∙ i.memo;
      told = kept_on p q (told c.args.asker.now) (told c.turns.asker) (told c.ask-told.new.self) (told c.visit.new.asker) c.args.steps.now c.turns.steps c.ask-told.new.steps c.visit.new.steps
          c.in-Ask.ensures.bounds below i.told c.ask-told.ensures.told c.visit.ensures.told;
    }

pub returns-in-Done-clause-marks : goal.returns-in-Done-clause-marks
returns-in-Done-clause-marks g t c = c.mark.ensures ∙ visit_ends c.args.q.now c.args.marks.now c.turns.inquiry c.turns.marks c.requires.bounds c.turns.invariant.visiting c.in-Done.ensures.answered

pub returns-in-Done-clause-closed : goal.returns-in-Done-clause-closed
returns-in-Done-clause-closed g t c =
    subst IsClosed (sym c.mark.ensures) (visit_closes c.args.q.now c.args.marks.now c.turns.inquiry c.turns.marks c.requires.bounds c.turns.invariant.visiting c.in-Done.ensures.answered)

pub returns-in-Done-clause-count : goal.returns-in-Done-clause-count
returns-in-Done-clause-count g t c none =
    closure_alone c.args.marks.now c.mark.new.self c.args.q.now
    (c.mark.ensures ∙ visit_ends c.args.q.now c.args.marks.now c.turns.inquiry c.turns.marks c.requires.bounds c.turns.invariant.visiting c.in-Done.ensures.answered) none

pub returns-then-has-clause-marks : goal.returns-then-has-clause-marks
returns-then-has-clause-marks g t c = visited_already c.args.q.now c.args.marks.now c.requires.bounds c.requires.closed (c.has.ensures.yes c.if-has.true)

pub returns-then-has-clause-count : goal.returns-then-has-clause-count
returns-then-has-clause-count g t c none =
    closure_alone c.args.marks.now c.args.marks.now c.args.q.now (visited_already c.args.q.now c.args.marks.now c.requires.bounds c.requires.closed (c.has.ensures.yes c.if-has.true)) none

pub turns-init : goal.turns-init
turns-init g t c = record {
  visiting = visit_begins c.args.q.now c.args.marks.now c.new-inquiry.result c.new-inquiry.ensures.question c.new-inquiry.ensures.begun c.requires.closed;
  memo = refl;
  told = kept_same c.args.q.now (g.A.Asker.told c.args.asker.now) c.args.steps.now;
}
