use Rattle.std.proofs.Common.{List, ℕ, [], ap, arith, get_or, length, map, sym, take, ◌++◌, ◌*◌, ◌+◌, ◌≤◌, ◌∙◌, ◌∷◌}
use Rattle.std.proofs.Math.Nat.{mul-le-mul_right}
use Rattle.std.proofs.lemmas.List.{append_assoc}
use Rattle.design_base.specs.Digits.{digits}
use Rattle.design_base.specs.Fields.{field_product}
use Rattle.spaces.proofs.EntrySteps.{multiple_next}
use Rattle.spaces.specs.Vectors.{multiple}
use Rattle.spaces.proofs.multiples.push_multiples.Goals as goal

pub push_multiple-requires-clause-room : goal.push_multiple-requires-clause-room
push_multiple-requires-clause-room c =
    let more : (c.loop-x.x-index + 1) * (c.args.n + 1) ≤ length c.args.points.now * (c.args.n + 1) = mul-le-mul_right (c.args.n + 1) (let l : c.loop-x.x-index + 1 ≤ length c.args.points.now = omega (arith, c.loop-x-test.true) in l) in
    omega (arith, more, c.loop-x.invariant.size, c.requires.room)

pub loop-x-preserved : goal.loop-x-preserved
loop-x-preserved c =
    let q = c.args.field.now in
    let entries : List ℕ = digits q c.args.n (multiple (field_product q) q c.args.n c.args.t (get_or c.args.points.now c.loop-x.x-index 0)) in
    let so_far : List (List ℕ) = map (λ x. digits q c.args.n (multiple (field_product q) q c.args.n c.args.t x)) (take c.loop-x.x-index c.args.points.now) in
    let next = multiple_next (field_product q) q c.args.n c.args.t c.loop-x.x-index c.args.points.now c.loop-x-test.true in
    record {
      listed = c.in_ok-push_multiple.ensures.ok ∙ ap (λ B. B ++ entries ∷ []) c.loop-x.invariant.listed ∙ append_assoc c.args.rows.now so_far (entries ∷ []) ∙ ap (λ B. c.args.rows.now ++ B) (sym next);
      size = omega (arith, c.in_ok-push_multiple.ensures.size, c.loop-x.invariant.size);
    }
