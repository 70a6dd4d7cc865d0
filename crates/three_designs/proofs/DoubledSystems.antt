-- A quadruple system on w points has an even number of them, so it is doubled over the one-factorization of w points.
use Rattle.std.proofs.Common.{arith, inl, inr, subst, ℕ, ◌%◌, ◌*◌, ◌+◌, ◌-◌, ◌/◌, ◌≡◌, ◌⊎◌}
use Rattle.std.proofs.Math.Nat.{div-add-mod'}
use Rattle.design_base.specs.Canonical.{canonical}
use Rattle.three_designs.specs.Laws.{DoublingLaw}
use Rattle.three_designs.specs.Quadruples.{double_blocks, doubled, factor}
use Rattle.three_designs.specs.StrengthThree.{IsSqs}
use Rattle.three_designs.proofs.DerivedSystems.{points_modulo_six}
use Rattle.three_designs.proofs.Doubled.{IsOneFactorization, doubled_loose}
use Rattle.three_designs.proofs.OneFactorizations.{factors_of}
use Rattle.three_designs.proofs.Triples.{loose_from_sqs, sqs_from_loose}

half_of : (w : ℕ) → (w % 6 ≡ 2) ⊎ (w % 6 ≡ 4) → (m : ℕ) × (2 * m ≡ w)
half_of w (inl e) = (3 * (w / 6) + 1, omega (arith, div-add-mod' w 6, e))
half_of w (inr e) = (3 * (w / 6) + 2, omega (arith, div-add-mod' w 6, e))

pub double_is_sqs : DoublingLaw
unfolding double_blocks
double_is_sqs S w two system =
    let m = half_of w (points_modulo_six S w two system) in
    let factors : IsOneFactorization w (w - 1) (factor w) = subst (λ w. IsOneFactorization w (w - 1) (factor w)) m.1 (factors_of m.0 (omega (arith, m.1))) in
    let made : IsSqs (canonical (doubled w (w - 1) (factor w) S)) (w + w) = sqs_from_loose (w + w) (doubled w (w - 1) (factor w) S) (doubled_loose w (w - 1) (factor w) S factors (loose_from_sqs w S system)) in
    subst (IsSqs (canonical (doubled w (w - 1) (factor w) S))) (let e : w + w ≡ 2 * w = omega arith in e) made
