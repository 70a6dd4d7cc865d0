-- Designs under the sizes of a question.
use Rattle.std.proofs.Common.{ℕ, List, subst}
use Rattle.design_base.specs.Blocks.{IsBibd}
use Rattle.derivations.specs.Sizes.{HasSizes}

pub sized : (B : List (List ℕ)) (v k l points size : ℕ) → HasSizes v k l points size → IsBibd B points size 1 → IsBibd B v k l
sized B v k l points size has d = subst (λ x. IsBibd B x k l) has.all (subst (λ x. IsBibd B points x l) has.block (subst (IsBibd B points size) has.once d))
