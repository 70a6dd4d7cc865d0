use Rattle.std.proofs.Common.{[], arith, ◌%◌, ◌*◌, ◌+◌, ◌∷◌, ℕ, List}
use Rattle.std.proofs.lemmas.List.{length-take-le}
use Rattle.transversal.proofs.CyclicArray.{block_of_sums}
use Rattle.transversal.proofs.Steps.{steps}
use Rattle.transversal.proofs.modular.push_sums.Goals as goal

pub loop-y-preserved : goal.loop-y-preserved
loop-y-preserved c =
    let x = c.args.x in
    let y = c.loop-y.y in
    let n = c.args.n in
    let points : List ℕ = x ∷ (n + y) ∷ (2 * n + (x + y) % n) ∷ [] in
    let block = block_of_sums c.args.k n x y c.requires.columns in
    record {
      rows = grind (arith, steps, block);
      size = omega (arith, c.loop-y.invariant.size, c.in_ok-push_row.ensures.size, length-take-le c.args.k points c.requires.columns, c.requires.columns);
    }
