use Rattle.std.proofs.Common.{◌≡◌, ◌<◌, ◌-◌, ◌+◌, ap, sym, ◌∙◌, subst, arith, Some}
use Rattle.design_base.specs.Cells.{cell_of}
use Rattle.rule_terms.specs.Rank.{rank}
use Rattle.rule_table.specs.Progress.{Progress}
use Rattle.rule_table.specs.Asked.{asked}
use Rattle.rule_table.proofs.Told.{kept_then, told_below}
use Rattle.memo_cells.specs.Knowledge.{KnowsAll}
use Rattle.memo_cells.proofs.Decided.{knows_more, not_known, found_known, found_learns, found_paid, published_known, decision_ends}
use Rattle.memo_cells.proofs.deciding.+decide.Goals as goal

pub turns-smaller : goal.turns-smaller
turns-smaller g t c =
    let e : c.answer.new.self.left ≡ c.turns.evaluation.left - 1 = ap (λ (e : Progress). e.left) (c.answer.ensures c.in-Ask.premise c.in-Ask.ensures.next) in
    omega (arith, e, c.in-Ask.ensures.left)

pub turns-preserved : goal.turns-preserved
turns-preserved g t c =
    let e = c.answer.ensures c.in-Ask.premise c.in-Ask.ensures.next in
    let q = c.args.q.now in
    let i = c.turns.invariant in
    let was = c.turns.pass.knowledge.known in
    let now = c.decide-told.new.pass.knowledge.known in
    let below : rank c.in-Ask.premise < rank q = omega (arith, c.in-Ask.ensures.smaller, ap rank i.question) in
    record {
      question = ap (λ (e : Progress). e.question) e ∙ i.question;
      memo = c.decide-told.ensures.memo ∙ i.memo;
      kept = kept_then q (Some c.args.pass.now.knowledge.known) (Some was) (Some now) (c.args.steps.now + 1) c.turns.steps c.decide-told.new.steps i.kept
          (told_below c.in-Ask.premise q (Some was) (Some now) c.turns.steps c.decide-told.new.steps c.in-Ask.ensures.bounds below (c.decide-told.ensures.learns, c.decide-told.ensures.paid));
      knows = subst (KnowsAll now) (sym (ap (λ (e : Progress). e.answered) e)) (knows_more was now c.turns.evaluation.answered c.in-Ask.premise i.knows c.decide-told.ensures.learns);
    }

pub returns-in-Some-clause-learns : goal.returns-in-Some-clause-learns
returns-in-Some-clause-learns g t c =
    let known = found_known c.args.pass.now.knowledge c.known.new.pass.knowledge (cell_of c.args.q.now) _ c.in-Some.ensures.some in
    found_learns c.args.q.now c.args.pass.now.knowledge.known c.known.new.pass.knowledge.known known

pub returns-in-Some-clause-paid : goal.returns-in-Some-clause-paid
returns-in-Some-clause-paid g t c =
    let known = found_known c.args.pass.now.knowledge c.known.new.pass.knowledge (cell_of c.args.q.now) _ c.in-Some.ensures.some in
    found_paid c.args.pass.now.knowledge.known c.known.new.pass.knowledge.known (cell_of c.args.q.now) c.args.steps.now known

pub publish-requires-clause-grounded : goal.publish-requires-clause-grounded
publish-requires-clause-grounded g t c =
    let i = c.turns.invariant in
    subst (KnowsAll c.turns.pass.knowledge.known) (c.in-Done.ensures.answered ∙ ap asked i.question) i.knows

pub returns-in-Done-clause-learns : goal.returns-in-Done-clause-learns
returns-in-Done-clause-learns g t c =
    let q = c.args.q.now in
    let old = c.args.pass.now.knowledge.known in
    let k = c.turns.invariant.kept in
    let known = published_known c.turns.pass.knowledge c.publish.new.pass.knowledge (cell_of q) c.publish.ensures.knowledge in
    (decision_ends q old c.turns.pass.knowledge.known c.publish.new.pass.knowledge.known c.args.steps.now c.turns.steps c.requires.bounds k.0 k.1 (not_known q old c.requires.bounds c.in_default.ensures.unreached) known).0

pub returns-in-Done-clause-paid : goal.returns-in-Done-clause-paid
returns-in-Done-clause-paid g t c =
    let q = c.args.q.now in
    let old = c.args.pass.now.knowledge.known in
    let k = c.turns.invariant.kept in
    let known = published_known c.turns.pass.knowledge c.publish.new.pass.knowledge (cell_of q) c.publish.ensures.knowledge in
    (decision_ends q old c.turns.pass.knowledge.known c.publish.new.pass.knowledge.known c.args.steps.now c.turns.steps c.requires.bounds k.0 k.1 (not_known q old c.requires.bounds c.in_default.ensures.unreached) known).1

pub returns-in-Done-clause-free : goal.returns-in-Done-clause-free
returns-in-Done-clause-free g t c known = absurd (not_known c.args.q.now c.args.pass.now.knowledge.known c.requires.bounds c.in_default.ensures.unreached known)
