-- What is there and what the master rows that are left will give is what all master rows give.
use Rattle.std.proofs.Common.{◌*◌, ◌++◌, ◌+◌, ◌≡◌}
use Rattle.std.specs.List.{flat_map}
use Rattle.std.specs.Prelude.{All}
use Rattle.design_base.specs.Arrays.{IsRow, blocks_of_rows}
use Rattle.wilson.proofs.filling.push_fills_two.Given as goal
use Rattle.wilson.specs.Truncations.{fill_two}

abbrev pub invariant-loop-row : goal.invariant-loop-row
invariant-loop-row l = record {
  blocks : l.rows ++ blocks_of_rows l.k (l.cut.m * l.cut.t + l.cut.u + l.cut.w) (flat_map (fill_two l.k l.cut.m l.cut.t l.cut.u l.cut.w l.small l.large l.larger) l.row-iterator)
      ≡ l.fn.rows ++ blocks_of_rows l.k (l.cut.m * l.cut.t + l.cut.u + l.cut.w) (flat_map (fill_two l.k l.cut.m l.cut.t l.cut.u l.cut.w l.small l.large l.larger) l.master);
  left : All (IsRow (l.k + 2) l.cut.t) l.row-iterator;
}
