use Rattle.std.proofs.Common.{arith, subst, sym, ◌+◌, ◌-◌, ◌≡◌, ◌↔◌, ◌∙◌, ap}
use Rattle.std.specs.Prelude.{All}
use Rattle.design_base.specs.Arrays.{IsRow, blocks_of_rows}
use Rattle.design_base.specs.Blocks.{IsTd}
use Rattle.design_base.specs.Canonical.{canonical}
use Rattle.design_base.specs.Squares.{IsMols}
use Rattle.arrays.proofs.Bounds.{td_bounds}
use Rattle.arrays.proofs.Shapes.{squares_from_none}
use Rattle.arrays.proofs.Squares.{rows_are, td_iff_mols}
use Rattle.arrays.proofs.blocks.td_of_squares.Goals as goal

pub overflow_sub-k : goal.overflow_sub-k
overflow_sub-k c = (td_bounds c.args.k c.args.n c.requires).two

pub overflow_sub-k-2 : goal.overflow_sub-k-2
overflow_sub-k-2 c = (td_bounds c.args.k c.args.n c.requires).two

pub rows_of_squares-requires-clause-small : goal.rows_of_squares-requires-clause-small
rows_of_squares-requires-clause-small c = let b = td_bounds c.args.k c.args.n c.requires in (omega (arith, b.few), b.small)

pub rows_of_squares-requires-clause-count : goal.rows_of_squares-requires-clause-count
rows_of_squares-requires-clause-count c = (squares_from_none (c.args.k - 2) c.args.n c.args.squares.now (sym c.in_default.ensures)).0

pub rows_of_squares-requires-clause-shape : goal.rows_of_squares-requires-clause-shape
rows_of_squares-requires-clause-shape c = (squares_from_none (c.args.k - 2) c.args.n c.args.squares.now (sym c.in_default.ensures)).1

pub canonical_blocks-requires-clause-rows : goal.canonical_blocks-requires-clause-rows
canonical_blocks-requires-clause-rows c =
    let b = td_bounds c.args.k c.args.n c.requires in
    let columns : c.args.k ≡ c.args.k - 2 + 2 = omega (arith, b.two) in
    let shape = squares_from_none (c.args.k - 2) c.args.n c.args.squares.now (sym c.in_default.ensures) in
    subst (All (IsRow c.args.k c.args.n)) (sym c.in_ok-rows.ensures) (rows_are c.args.k (c.args.k - 2) c.args.n c.args.squares.now columns shape.0 shape.1)

pub returns-clause-design : goal.returns-clause-design
returns-clause-design c =
    let b = td_bounds c.args.k c.args.n c.requires in
    let columns : c.args.k ≡ c.args.k - 2 + 2 = omega (arith, b.two) in
    let shape = squares_from_none (c.args.k - 2) c.args.n c.args.squares.now (sym c.in_default.ensures) in
    subst (λ td. IsTd td c.args.k c.args.n ↔ IsMols c.args.squares.now c.args.n (c.args.k - 2))
    (sym (c.in_ok-td.ensures ∙ ap (λ R. canonical (blocks_of_rows c.args.k c.args.n R)) c.in_ok-rows.ensures))
    (td_iff_mols c.args.k (c.args.k - 2) c.args.n c.args.squares.now columns shape.0 shape.1 b.positive)
