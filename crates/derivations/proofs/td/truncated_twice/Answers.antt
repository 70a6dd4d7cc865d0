use Rattle.std.proofs.Common.{◌≡◌, arith, subst, sym}
use Rattle.std.specs.Prelude.{IfOk}
use Rattle.design_base.specs.Canonical.{canonical}
use Rattle.design_base.specs.declared.rule.Rule.TheVariants.{Wilson2}
use Rattle.derivations.specs.TdBlocks.{td_blocks, CanBuildTd}
use Rattle.derivations.proofs.Taken.{six}
use Rattle.derivations.proofs.td.truncated_twice.Goals as goal

pub truncate_two-requires : goal.truncate_two-requires
unfolding CanBuildTd
truncate_two-requires c =
    let taken = six (λ r. r.now) c.args.ingredients.now c.master-item.result c.small-item.result c.large-item.result c.larger-item.result c.first-item.result c.second-item.result (omega arith)
    c.master-item.is c.small-item.is c.large-item.is c.larger-item.is c.first-item.is c.second-item.is in
    (subst (CanBuildTd c.args.k c.args.n Wilson2 c.args.m c.args.t c.args.u c.args.w) taken c.requires).0

pub returns : goal.returns
unfolding td_blocks
returns c =
    let taken = six (λ r. r.now) c.args.ingredients.now c.master-item.result c.small-item.result c.large-item.result c.larger-item.result c.first-item.result c.second-item.result (omega arith)
    c.master-item.is c.small-item.is c.large-item.is c.larger-item.is c.first-item.is c.second-item.is in
    subst (λ I. IfOk c.truncate_two.result (λ rows. rows ≡ canonical (td_blocks c.args.k c.args.n Wilson2 c.args.m c.args.t c.args.u c.args.w I))) (sym taken) c.truncate_two.ensures.blocks
