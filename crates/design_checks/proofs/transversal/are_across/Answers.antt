use Rattle.std.proofs.Common.{ap, arith, inl, inr, subst, sym, ◌∙◌, get_or}
use Rattle.counting.proofs.Booleans.{cases_eq}
use Rattle.std.proofs.lemmas.Option.{get_or_from_slice_get}
use Rattle.design_checks.specs.Bits.{IsAcross}
use Rattle.design_checks.proofs.transversal.are_across.Goals as goal

pub loop-i-preserved : goal.loop-i-preserved
loop-i-preserved c = λ m d l. elim (cases_eq m c.loop-i.i) [
  | inl s ↦ subst (IsAcross c.args.k c.args.n) (sym (ap (λ m. get_or c.args.rows.now m d) s ∙ get_or_from_slice_get c.args.rows.now c.loop-i.i c.row.result.now d c.row.ensures)) (c.is_across.ensures (cc))
  | inr n ↦ c.loop-i.invariant m d (omega arith)
]

pub returns : goal.returns
returns c = λ _ m d l. c.loop-i.invariant m d (omega arith)
