use Rattle.std.proofs.Common.{ap, arith, inl, inr, ◌*◌, ◌+◌, ◌∙◌}
use Rattle.counting.proofs.Booleans.{cases_eq}
use Rattle.std.specs.Int.{bit_at}
use Rattle.design_checks.proofs.ByBits.{full_word, word_within}
use Rattle.design_checks.specs.declared.transversal.TheConstants.{GROUPS}
use Rattle.design_checks.proofs.transversal.are_set.Goals as goal

pub loop-a-preserved : goal.loop-a-preserved
loop-a-preserved c = λ a j b la lj lk lb. elim (cases_eq a c.loop-a.a) [
  | inl s ↦ ap (λ w. bit_at w b) (word_within c.args.words.now (c.loop-a.a * GROUPS + c.args.i + 1) (c.loop-a.a * GROUPS + c.args.k) _ (a * GROUPS + j)
      (omega arith) (c.are_all.ensures (cc)) (omega arith) (omega arith)) ∙ full_word c.args.n b (omega arith) lb
  | inr n ↦ c.loop-a.invariant a j b (omega arith) lj lk lb
]
