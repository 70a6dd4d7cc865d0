-- Every rule of the table is grounded, by the lemma of its kind.
use Rattle.std.proofs.Common.{◌≡◌, true}
use Rattle.design_base.specs.declared.query.Query.{Query}
use Rattle.design_base.specs.declared.query.Query.TheVariants.{Td, Df, Bibd, Gdd, Pbd}
use Rattle.design_base.specs.declared.rule.Rule.{Rule}
use Rattle.design_base.specs.Limits.{in_bounds}
use Rattle.design_base.specs.Rules.{title}
use Rattle.rule_terms.specs.Rank.{rank}
use Rattle.rule_terms.specs.Table.{terms}
use Rattle.rule_terms.proofs.BibdRules.{bibd_grounded}
use Rattle.rule_terms.proofs.DfRules.{df_grounded}
use Rattle.rule_terms.proofs.GddRules.{gdd_grounded}
use Rattle.rule_terms.proofs.Grounded.{IsGrounded}
use Rattle.rule_terms.proofs.PbdRules.{pbd_grounded}
use Rattle.rule_terms.proofs.TdRules.{td_grounded}

pub grounded : (q : Query) → in_bounds q ≡ true → (r : Rule) → IsGrounded (title r).parameters (rank q) (terms q r)
unfolding terms rank
grounded (Td k n) b r = td_grounded k n r
grounded (Df group v k l) b r = df_grounded group v k l (rank (Df group v k l)) r
grounded (Bibd v k l) b r = bibd_grounded v k l b r
grounded (Gdd k g u) b r = gdd_grounded k g u b r
grounded (Pbd v s) b r = pbd_grounded v s b r
