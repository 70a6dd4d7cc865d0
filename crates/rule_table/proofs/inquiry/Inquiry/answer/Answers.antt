use Rattle.std.proofs.Common.{◌+◌, arith}
use Rattle.rule_table.proofs.Turns.{Comes, none_next, other_told, place_small, yes_told}
use Rattle.rule_table.proofs.inquiry.Inquiry.answer.Goals as goal

pub returns-in_default : goal.returns-in_default
returns-in_default c p n = absurd (none_next _ _ _ _ _ p c.self.view_is c.self.invariant c.in_default.is n)

pub overflow_add-self : goal.overflow_add-self
overflow_add-self c = omega (arith, place_small _ _ _ _ _ _ _ c.self.view_is c.self.invariant c.in-Some.is c.requires.told)

further : (c : goal.After-self-1) → Comes c.args.self.now c.self.inside.question c.self.inside.criterion c.self.inside.candidate (c.self.inside.place + 1)
further c = yes_told _ _ _ _ _ _ _ _ c.self.view_is c.self.invariant c.in-Some.is c.requires.told c.in-Yes.is

pub invariant_of-self : goal.invariant_of-self
invariant_of-self c = (further c).place

pub returns-in-Yes : goal.returns-in-Yes
returns-in-Yes c = (further c).answered

on : (c : goal.After-self-in_default-told-2-1) → Comes c.args.self.now c.self.inside.question c.self.inside.criterion c.following-self-inside.result 0
on c = other_told _ _ _ _ _ _ _ _ c.self.view_is c.self.invariant c.in-Some.is c.requires.told c.in_default-told.not-Yes c.following-self-inside.ensures

pub invariant_of-self-in_default-told : goal.invariant_of-self-in_default-told
invariant_of-self-in_default-told c = (on c).place

pub returns-in_default-told : goal.returns-in_default-told
returns-in_default-told c = (on c).answered
