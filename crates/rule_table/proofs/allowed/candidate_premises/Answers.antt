use Rattle.std.proofs.Common.{refl, subst, sym}
use Rattle.std.specs.Prelude.{false, is_some}
use Rattle.design_base.specs.Steps.{IsStep}
use Rattle.rule_table.specs.Candidates.{is_candidate}
use Rattle.rule_table.proofs.Members.{candidate_found, candidate_items, candidate_none, candidate_other, candidate_some, member_found}
use Rattle.rule_table.proofs.allowed.candidate_premises.Goals as goal

pub returns-then-not-serves-clause-member : goal.returns-then-not-serves-clause-member
returns-then-not-serves-clause-member c =
    member_found c.args.q.now c.args.step.now false c.requires (subst IsStep c.step.view_is c.step.invariant)
    (sym (candidate_other _ _ _ _ _ _ _ c.step.view_is _ _ c.kind.ensures c.serves.ensures c.if-not-serves.true))

pub returns-then-not-serves-clause-none : goal.returns-then-not-serves-clause-none
returns-then-not-serves-clause-none c = λ _.
    candidate_other _ _ _ _ _ _ _ c.step.view_is _ _ c.kind.ensures c.serves.ensures c.if-not-serves.true

pub returns-clause-member : goal.returns-clause-member
returns-clause-member c =
    let found = c.allowed_premises.result in
    member_found c.args.q.now c.args.step.now (is_some found) c.requires (subst IsStep c.step.view_is c.step.invariant)
    (candidate_found found (is_some found) (is_candidate c.args.q.now c.args.step.now) refl
    (candidate_none _ _ _ _ _ _ _ c.step.view_is _ _ c.kind.ensures c.serves.ensures c.if-not-serves.false found c.allowed_premises.ensures)
    (candidate_some _ _ _ _ _ _ _ c.step.view_is _ _ c.kind.ensures c.serves.ensures c.if-not-serves.false found c.allowed_premises.ensures))

pub returns-clause-candidate : goal.returns-clause-candidate
returns-clause-candidate c =
    candidate_some _ _ _ _ _ _ _ c.step.view_is _ _ c.kind.ensures c.serves.ensures c.if-not-serves.false c.allowed_premises.result c.allowed_premises.ensures

pub returns-clause-items : goal.returns-clause-items
returns-clause-items c = candidate_items _ _ _ _ _ _ _ c.step.view_is c.allowed_premises.result c.allowed_premises.ensures
