-- What is there and the rows that are left are what is there in the end; the rows that were there stand in front.
use Rattle.std.proofs.Common.{length, take, ◌++◌, ◌+◌, ◌≡◌, ◌≤◌}
use Rattle.incidence.specs.Packed.{size_of}
use Rattle.incidence.proofs.packed.Rows.push_all.Given as goal

abbrev pub invariant-loop-row : goal.invariant-loop-row
invariant-loop-row l = record {
  rows : l.self ++ l.row-iterator ≡ l.fn.self ++ l.other;
  size : size_of l.self + size_of l.row-iterator ≡ size_of l.fn.self + size_of l.other;
  within : l.count ≤ length l.self;
  front : take l.count l.self ≡ l.fn.self;
}
