-- The rule of a candidate serves its question's kind.
use Rattle.std.proofs.Common.{◌≡◌, true, refl}
use Rattle.counting.proofs.Booleans.{both}
use Rattle.design_base.specs.declared.query.Query.{Query}
use Rattle.design_base.specs.declared.rule.Kind.{Kind}
use Rattle.design_base.specs.declared.rule.Kind.TheVariants.{Td, Df, Bibd, Gdd, Pbd}
use Rattle.design_base.specs.Rules.{title, kind_of, same_kind, serves}
use Rattle.design_base.specs.Steps.{Step}
use Rattle.rule_table.specs.Candidates.{four, is_candidate}
use Rattle.rule_terms.specs.Table.{terms}
use Rattle.rule_terms.specs.RuleTree.{allows}

pub candidate_serves : (q : Query) (s : Step) → is_candidate q s ≡ true → serves (kind_of q) s.rule ≡ true
unfolding is_candidate
candidate_serves q s e = (both (serves (kind_of q) s.rule) (allows (terms q s.rule) (four s)) e).0

same : (a b : Kind) → same_kind a b ≡ true → a ≡ b
same Td Td e = refl
same Df Df e = refl
same Bibd Bibd e = refl
same Gdd Gdd e = refl
same Pbd Pbd e = refl
same a b e = cc

pub candidate_kind : (q : Query) (s : Step) → is_candidate q s ≡ true → (title s.rule).kind ≡ kind_of q
candidate_kind q s e = same (title s.rule).kind (kind_of q) (candidate_serves q s e)
