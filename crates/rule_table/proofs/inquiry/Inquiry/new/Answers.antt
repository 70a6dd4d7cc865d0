use Rattle.rule_table.proofs.Turns.{begins, begins_no}
use Rattle.rule_table.proofs.inquiry.Inquiry.new.Goals as goal

pub invariant_of-t-5 : goal.invariant_of-t-5
invariant_of-t-5 c = (begins_no _ _ _ c.requires.bounds c.criterion.ensures.value c.in-Some.is).place

pub invariant_of-result : goal.invariant_of-result
invariant_of-result c = (begins _ _ _ c.requires.bounds c.criterion.ensures.value c.in-None.is c.first_of_rules.ensures).place

pub returns-in-Some-clause-question : goal.returns-in-Some-clause-question
returns-in-Some-clause-question c = (begins_no _ _ _ c.requires.bounds c.criterion.ensures.value c.in-Some.is).question

pub returns-in-Some-clause-begun : goal.returns-in-Some-clause-begun
returns-in-Some-clause-begun c = (begins_no _ _ _ c.requires.bounds c.criterion.ensures.value c.in-Some.is).answered

pub returns-in-None-clause-question : goal.returns-in-None-clause-question
returns-in-None-clause-question c = (begins _ _ _ c.requires.bounds c.criterion.ensures.value c.in-None.is c.first_of_rules.ensures).question

pub returns-in-None-clause-begun : goal.returns-in-None-clause-begun
returns-in-None-clause-begun c = (begins _ _ _ c.requires.bounds c.criterion.ensures.value c.in-None.is c.first_of_rules.ensures).answered
