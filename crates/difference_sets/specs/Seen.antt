-- The families of the code's table, as those that are listed.
use Rattle.std.specs.Prelude.{map}
use Rattle.difference_sets.specs.Listed.{Family, family}
use Rattle.difference_sets.specs.declared.entries.Entry.{Entry}

abbrev pub seen : Entry → Family
seen e = family e.group e.v e.k e.l (map (λ block. block.now) e.blocks.now)
