use Rattle.std.proofs.Common.{◌≡◌, sym, ap, ◌∙◌, arith, get_or, [], ◌∷◌, ◌++◌}
use Rattle.std.proofs.Common.{true}
use Rattle.design_base.specs.declared.query.Query.TheVariants.{Td}
use Rattle.design_base.specs.declared.verdict.Verdict.{Verdict}
use Rattle.design_base.specs.declared.verdict.Criterion.{Criterion}
use Rattle.design_base.specs.declared.verdict.Verdict.TheVariants.{No, Unknown}
use Rattle.rule_table.specs.Verdicts.{is_yes}
use Rattle.derivations.proofs.Parts.{premise_is, step_is, unfolding_goes_on, unfolding_ends, unfolded_too}
use Rattle.derivations.proofs.unfolding.+unfold.Goals as goal

not_no : (v : Verdict) (x : Criterion) → is_yes v ≡ true → No x ≡ v → ⊥
not_no v x y e = cc (ap is_yes e)

not_unknown : (v : Verdict) → is_yes v ≡ true → Unknown ≡ v → ⊥
not_unknown v y e = cc (ap is_yes e)

pub premises-found-requires-clause-candidate :
    goal.premises-found-requires-clause-candidate
premises-found-requires-clause-candidate g t c = step_is c.args.q.now c.args.step.now c.requires.bounds c.requires.verdict

pub ask-requires : goal.ask-requires
ask-requires g t c = record {
  bounds =
      (premise_is c.args.q.now c.args.step.now c.as_slice-asked.result.now c.requires.bounds c.requires.verdict (c.as_slice-asked.ensures ∙ c.premises-found.ensures.items) c.loop-premise.premise-index _ c.loop-premise-test.true).0;
}

pub unfold-requires : goal.unfold-requires
unfold-requires g t c κs within =
    let p = premise_is c.args.q.now c.args.step.now c.as_slice-asked.result.now c.requires.bounds c.requires.verdict (c.as_slice-asked.ensures ∙ c.premises-found.ensures.items) c.loop-premise.premise-index (Td 0 0) c.loop-premise-test.true in
    (omega (arith, p.1, c.decreases), (within.0, (within.1, (p.0, sym c.in-Yes.ensures.verdict))))

pub unreachable-requires : goal.unreachable-requires
unreachable-requires g t c =
    let p = premise_is c.args.q.now c.args.step.now c.as_slice-asked.result.now c.requires.bounds c.requires.verdict (c.as_slice-asked.ensures ∙ c.premises-found.ensures.items) c.loop-premise.premise-index _ c.loop-premise-test.true in
    not_no _ _ p.2 c.in-No.ensures.verdict

pub unreachable-requires-in-Unknown : goal.unreachable-requires-in-Unknown
unreachable-requires-in-Unknown g t c =
    let p = premise_is c.args.q.now c.args.step.now c.as_slice-asked.result.now c.requires.bounds c.requires.verdict (c.as_slice-asked.ensures ∙ c.premises-found.ensures.items) c.loop-premise.premise-index _ c.loop-premise-test.true in
    not_unknown _ p.2 c.in-Unknown.ensures.verdict

pub returns-in_err-unfold-in-Yes-clause-told : goal.returns-in_err-unfold-in-Yes-clause-told
returns-in_err-unfold-in-Yes-clause-told g t c =
    let p = get_or c.as_slice-asked.result.now c.loop-premise.premise-index (Td 0 0) in
    let told = g.A.Asker.told in
    let proved = premise_is c.args.q.now c.args.step.now c.as_slice-asked.result.now c.requires.bounds c.requires.verdict (c.as_slice-asked.ensures ∙ c.premises-found.ensures.items) c.loop-premise.premise-index (Td 0 0) c.loop-premise-test.true in
    unfolded_too p c.args.q.now (told c.args.asker.now) (told c.loop-premise.asker) (told c.ask.new.self) (told c.unfold.new.asker) c.args.steps.now c.loop-premise.steps c.ask.new.steps c.unfold.new.steps
    proved c.loop-premise.invariant.told c.ask.ensures.told c.unfold.ensures.told

pub returns-in_err-push-in-Yes-clause-told : goal.returns-in_err-push-in-Yes-clause-told
returns-in_err-push-in-Yes-clause-told g t c =
    let p = get_or c.as_slice-asked.result.now c.loop-premise.premise-index (Td 0 0) in
    let told = g.A.Asker.told in
    let proved = premise_is c.args.q.now c.args.step.now c.as_slice-asked.result.now c.requires.bounds c.requires.verdict (c.as_slice-asked.ensures ∙ c.premises-found.ensures.items) c.loop-premise.premise-index (Td 0 0) c.loop-premise-test.true in
    unfolded_too p c.args.q.now (told c.args.asker.now) (told c.loop-premise.asker) (told c.ask.new.self) (told c.unfold.new.asker) c.args.steps.now c.loop-premise.steps c.ask.new.steps c.unfold.new.steps
    proved c.loop-premise.invariant.told c.ask.ensures.told c.unfold.ensures.told

pub loop-premise-preserved : goal.loop-premise-preserved
loop-premise-preserved g t c =
    let i = c.loop-premise.invariant in
    let p = get_or c.as_slice-asked.result.now c.loop-premise.premise-index (Td 0 0) in
    let told = g.A.Asker.told in
    let proved = premise_is c.args.q.now c.args.step.now c.as_slice-asked.result.now c.requires.bounds c.requires.verdict (c.as_slice-asked.ensures ∙ c.premises-found.ensures.items) c.loop-premise.premise-index (Td 0 0) c.loop-premise-test.true in
    record {
      unfolds = unfolding_goes_on c.args.lines.now c.as_slice-asked.result.now c.loop-premise.premise-index c.loop-premise.lines c.unfold.new.lines c.loop-premise.from c.push.new.self (Td 0 0) c.loop-premise-test.true
          c.in_ok-unfold-in-Yes.ensures.lines (c.in_ok-push-in-Yes.ensures.ok ∙ ap (λ n. c.loop-premise.from ++ n ∷ []) c.len.ensures) i.unfolds;
      memo = c.unfold.ensures.memo ∙ c.ask.ensures.memo ∙ i.memo;
      told = unfolded_too p c.args.q.now (told c.args.asker.now) (told c.loop-premise.asker) (told c.ask.new.self) (told c.unfold.new.asker) c.args.steps.now c.loop-premise.steps c.ask.new.steps c.unfold.new.steps
          proved i.told c.ask.ensures.told c.unfold.ensures.told;
    }

pub returns-clause-lines : goal.returns-clause-lines
returns-clause-lines g t c =
    unfolding_ends c.args.lines.now c.args.q.now c.args.step.now c.as_slice-asked.result.now c.loop-premise.premise-index c.loop-premise.lines c.push-2.new.self c.loop-premise.from c.requires.bounds c.requires.verdict
    (c.as_slice-asked.ensures ∙ c.premises-found.ensures.items) c.loop-premise-test.false c.in_ok-push.ensures.ok c.loop-premise.invariant.unfolds
