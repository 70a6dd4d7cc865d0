use Rattle.std.proofs.Common.{◌≡◌, ◌<◌, ◌-◌, ap, sym, ◌∙◌, subst, arith, inl}
use Rattle.rule_terms.specs.Rank.{rank}
use Rattle.rule_table.specs.Progress.{Progress}
use Rattle.rule_table.specs.Told.{Cells, Learns, IsCounted}
use Rattle.rule_table.proofs.Remembered.{note_ends, known_learns}
use Rattle.rule_table.proofs.Told.{grows_then, learned_grows}
use Rattle.rule_table.proofs.notes.+note.Goals as goal

pub turns-init : goal.turns-init
turns-init g t c = record {
  question = c.new-evaluation.ensures.question;
  grows = record { keeps = λ i k. k; fresh = λ i k. inl k };
  counted = omega (arith, c.new-evaluation.ensures.steps);
}

pub turns-smaller : goal.turns-smaller
turns-smaller g t c =
    let e : c.answer.new.self.left ≡ c.turns.evaluation.left - 1 = ap (λ (e : Progress). e.left) (c.answer.ensures c.in-Ask.premise c.in-Ask.ensures.next) in
    omega (arith, e, c.in-Ask.ensures.left)

pub turns-preserved : goal.turns-preserved
turns-preserved g t c =
    let e = c.answer.ensures c.in-Ask.premise c.in-Ask.ensures.next in
    let q = c.args.q.now in
    let below : rank c.in-Ask.premise < rank q = omega (arith, c.in-Ask.ensures.smaller, ap rank c.turns.invariant.question) in
    let grows = learned_grows c.in-Ask.premise q c.turns.notes c.note-told.new.notes c.in-Ask.ensures.bounds below c.note-told.ensures.learns in record {
      question = ap (λ (e : Progress). e.question) e ∙ c.turns.invariant.question;
      grows = grows_then q c.args.notes.now c.turns.notes c.note-told.new.notes c.turns.invariant.grows grows;
      counted = omega (arith, c.turns.invariant.counted, c.note-told.ensures.counted);
    }

pub returns-in-Some-clause-learns : goal.returns-in-Some-clause-learns
returns-in-Some-clause-learns g t c = known_learns c.args.q.now c.args.notes.now c.in-Some.ensures.1

pub returns-in-Done-clause-learns : goal.returns-in-Done-clause-learns
returns-in-Done-clause-learns g t c =
    let q = c.args.q.now in
    let f = note_ends q c.args.notes.now c.turns.notes c.args.steps.now c.turns.steps c.requires c.turns.invariant.grows c.turns.invariant.counted c.in_default.ensures in
    subst (λ (k : Cells). Learns q c.args.notes.now k) (sym c.write.ensures) f.0

pub returns-in-Done-clause-counted : goal.returns-in-Done-clause-counted
returns-in-Done-clause-counted g t c =
    let q = c.args.q.now in
    let f = note_ends q c.args.notes.now c.turns.notes c.args.steps.now c.turns.steps c.requires c.turns.invariant.grows c.turns.invariant.counted c.in_default.ensures in
    subst (λ (k : Cells). IsCounted c.args.notes.now k c.args.steps.now c.turns.steps) (sym c.write.ensures) f.1
