use Rattle.std.proofs.Common.{◌≡◌, ◌<◌, ◌-◌, ap, sym, ◌∙◌, arith}
use Rattle.rule_table.specs.Asked.{asked}
use Rattle.rule_table.specs.Progress.{Progress}
use Rattle.rule_table.specs.Verdicts.{verdict}
use Rattle.rule_table.proofs.Meanings.{none_meets}
use Rattle.rule_table.proofs.Works.{work_done, work_more}
use Rattle.rule_table.proofs.verdicts.+evaluate.Goals as goal

pub turns-smaller : goal.turns-smaller
turns-smaller g t c =
    let e : c.answer.new.self.left ≡ c.turns.evaluation.left - 1 = ap (λ (e : Progress). e.left) (c.answer.ensures c.in-Ask.premise c.in-Ask.ensures.next) in
    let p : 0 < c.turns.evaluation.left = c.in-Ask.ensures.left in
    omega arith

pub turns-preserved : goal.turns-preserved
turns-preserved g t c =
    let e = c.answer.ensures c.in-Ask.premise c.in-Ask.ensures.next in
    let more = work_more c.turns.evaluation.answered c.answer.new.self.answered c.in-Ask.premise (ap (λ (e : Progress). e.answered) e) in
    (ap (λ (e : Progress). e.question) e ∙ c.turns.invariant.0, omega (arith, c.turns.invariant.1, c.evaluate-told.ensures.steps, more))

pub returns-in-Done-clause-steps : goal.returns-in-Done-clause-steps
returns-in-Done-clause-steps g t c =
    let done = work_done c.args.q.now c.turns.evaluation.answered c.requires.bounds (c.in-Done.ensures.answered ∙ ap asked c.turns.invariant.0) in
    omega (arith, c.turns.invariant.1, done)

pub returns-in-Done-clause-none : goal.returns-in-Done-clause-none
returns-in-Done-clause-none g t c r k = none_meets _ r c.requires.bounds (sym (c.in-Done.ensures.verdict ∙ ap verdict c.turns.invariant.0) ∙ k)
