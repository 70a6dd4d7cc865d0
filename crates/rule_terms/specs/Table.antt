-- The table of rules: the terms of a rule at a question, by the kind of the question. A rule that does not serve the kind has none.
use Rattle.design_base.specs.declared.query.Query.{Query}
use Rattle.design_base.specs.declared.query.Query.TheVariants.{Td, Df, Bibd, Gdd, Pbd}
use Rattle.design_base.specs.declared.rule.Rule.{Rule}
use Rattle.rule_terms.specs.RuleTree.{RuleTree}
use Rattle.rule_terms.specs.TdTerms.{td_terms}
use Rattle.rule_terms.specs.DfTerms.{df_terms}
use Rattle.rule_terms.specs.BibdTerms.{bibd_terms}
use Rattle.rule_terms.specs.GddTerms.{gdd_terms}
use Rattle.rule_terms.specs.PbdTerms.{pbd_terms}

unfoldable pub terms : Query → Rule → RuleTree
terms (Td k n) r = td_terms k n r
terms (Df group v k l) r = df_terms group v k l r
terms (Bibd v k l) r = bibd_terms v k l r
terms (Gdd k g u) r = gdd_terms k g u r
terms (Pbd v s) r = pbd_terms v s r
