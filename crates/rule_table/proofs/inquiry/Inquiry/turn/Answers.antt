use Rattle.std.proofs.Common.{◌∙◌}
use Rattle.design_base.specs.declared.verdict.Verdict.TheVariants.{No, Unknown, Yes}
use Rattle.rule_table.proofs.Turns.{IsDone, IsWanted, no_done, premise_wanted, sound_at, unknown_done, yes_done}
use Rattle.rule_table.proofs.inquiry.Inquiry.turn.Goals as goal

no : (c : goal.In-Some) → IsDone c.args.self.now (No c.in-Some.criterion)
no c = no_done _ _ _ _ _ _ c.self.view_is c.self.invariant c.in-Some.is

unknown : (c : goal.In_default-candidate) → IsDone c.args.self.now Unknown
unknown c = unknown_done _ _ _ _ _ c.self.view_is c.self.invariant c.in_default.is c.in_default-candidate.is

wanted : (c : goal.Joined-list) → IsWanted c.args.self.now c.in-Some-get.premise.now
wanted c =
    premise_wanted _ _ _ _ _ _ _ _ c.self.view_is c.self.invariant c.in_default.is c.in-Some-candidate.is (c.as_slice.ensures ∙ c.premises-list.ensures.items)
    c.in-Some-get.ensures.lookup.3.0 c.in-Some-get.ensures.lookup.1

proved : (c : goal.Joined-list-2) → IsDone c.args.self.now (Yes c.in-Some-candidate.step)
proved c =
    yes_done _ _ _ _ _ _ _ c.self.view_is c.self.invariant c.in_default.is c.in-Some-candidate.is (c.as_slice.ensures ∙ c.premises-list.ensures.items) c.in-None.ensures.lookup.3

pub returns-in-Some-clause-verdict : goal.returns-in-Some-clause-verdict
returns-in-Some-clause-verdict c = (no c).right

pub returns-in-Some-clause-answered : goal.returns-in-Some-clause-answered
returns-in-Some-clause-answered c = (no c).complete

pub returns-in_default-candidate-clause-verdict : goal.returns-in_default-candidate-clause-verdict
returns-in_default-candidate-clause-verdict c = (unknown c).right

pub returns-in_default-candidate-clause-answered : goal.returns-in_default-candidate-clause-answered
returns-in_default-candidate-clause-answered c = (unknown c).complete

pub premises-list-requires-clause-candidate : goal.premises-list-requires-clause-candidate
premises-list-requires-clause-candidate c = (sound_at _ _ _ _ _ c.self.invariant c.in-Some-candidate.is).0

pub returns-in-Some-get-clause-bounds : goal.returns-in-Some-get-clause-bounds
returns-in-Some-get-clause-bounds c = (wanted c).bounds

pub returns-in-Some-get-clause-smaller : goal.returns-in-Some-get-clause-smaller
returns-in-Some-get-clause-smaller c = (wanted c).smaller

pub returns-in-Some-get-clause-left : goal.returns-in-Some-get-clause-left
returns-in-Some-get-clause-left c = (wanted c).left

pub returns-in-Some-get-clause-next : goal.returns-in-Some-get-clause-next
returns-in-Some-get-clause-next c = (wanted c).next

pub returns-clause-verdict : goal.returns-clause-verdict
returns-clause-verdict c = (proved c).right

pub returns-clause-answered : goal.returns-clause-answered
returns-clause-answered c = (proved c).complete
