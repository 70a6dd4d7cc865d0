use Rattle.std.proofs.Common.{arith}
use Rattle.field_tables.proofs.Fill.{small}
use Rattle.field_tables.proofs.ring.shift_table.Goals as goal

pub overflow_cast-next_shift : goal.overflow_cast-next_shift
overflow_cast-next_shift c = omega (arith, small c.args.polynomial.now c.requires.listed)
