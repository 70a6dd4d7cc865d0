use Rattle.std.proofs.Common.{ap, ap₂, arith, subst, sym, ◌+◌, ◌++◌, ◌-◌, ◌≡◌, ◌∙◌}
use Rattle.counting.proofs.Counts.{join_below_more, join_below_none}
use Rattle.counting.specs.Sums.{join_below}
use Rattle.design_base.specs.Squares.{IsMols}
use Rattle.incidence.specs.Packed.{size_of}
use Rattle.arrays.specs.Arrays.{rows_of_td, square_of_column}
use Rattle.arrays.proofs.Bounds.{parts_fit, td_bounds}
use Rattle.arrays.proofs.TdRows.{mols, squares}
use Rattle.arrays.proofs.rows.squares_of_td.Goals as goal

pub overflow_sub-k : goal.overflow_sub-k
overflow_sub-k c = (td_bounds c.args.k c.args.n c.requires.bounds).two

pub overflow_sub-s-end : goal.overflow_sub-s-end
overflow_sub-s-end c = (td_bounds c.args.k c.args.n c.requires.bounds).two

pub loop-s-init : goal.loop-s-init
loop-s-init c = record { squares = c.reserve.ensures ∙ c.new-squares.ensures ∙ sym (join_below_none (λ s. square_of_column c.args.n (rows_of_td c.args.n c.args.td.now) (s + 2))); size = omega (arith, ap size_of c.reserve.ensures, ap size_of c.new-squares.ensures) }

pub push_square-requires-clause-room : goal.push_square-requires-clause-room
push_square-requires-clause-room c =
    let b = td_bounds c.args.k c.args.n c.requires.bounds in
    omega (arith, c.loop-s.invariant.size, parts_fit c.args.n (c.args.k - 2) (c.args.n + 1) c.loop-s.s b.small (omega (arith, b.few)) (omega (arith, b.small)) c.loop-s-test.true)

pub loop-s-preserved : goal.loop-s-preserved
loop-s-preserved c = record {
  squares = c.in_ok-push_square.ensures.ok
      ∙ ap₂ (λ squares R. squares ++ square_of_column c.args.n R (c.loop-s.s + 2)) c.loop-s.invariant.squares c.in_ok-rows.ensures.rows
      ∙ sym (join_below_more c.loop-s.s (λ s. square_of_column c.args.n (rows_of_td c.args.n c.args.td.now) (s + 2)));
  size = omega (arith, c.in_ok-push_square.ensures.size, c.loop-s.invariant.size);
}

pub returns-clause-squares : goal.returns-clause-squares
returns-clause-squares c =
    let all : c.loop-s.s ≡ c.args.k - 2 = omega arith in
    c.loop-s.invariant.squares
    ∙ ap (λ m. join_below m (λ s. square_of_column c.args.n (rows_of_td c.args.n c.args.td.now) (s + 2))) all
    ∙ squares c.args.k c.args.n c.args.td.now (td_bounds c.args.k c.args.n c.requires.bounds) c.requires.td

pub returns-clause-mols : goal.returns-clause-mols
returns-clause-mols c = subst (λ squares. IsMols squares c.args.n (c.args.k - 2)) (sym (returns-clause-squares c)) (mols c.args.k c.args.n c.args.td.now (td_bounds c.args.k c.args.n c.requires.bounds) c.requires.td)
