use Rattle.std.proofs.Common.{[], ◌∷◌, length, arith, refl}
use Rattle.field_tables.specs.Laws.{RingLaw}
use Rattle.field_tables.proofs.Digits.{ring}
use Rattle.field_tables.proofs.Listed.{FieldAt-listed, listed-FieldAt, listed_field}
use Rattle.field_tables.proofs.GroupSums.{group_sums}
use Rattle.field_tables.proofs.laws.field_laws.Goals as goal

rings : RingLaw
rings p [] two degree = absurd (omega arith)
rings p (c ∷ cs) two degree = ring p (length cs) (c ∷ cs) two refl

pub returns : goal.returns
returns c = record {
  rings = rings;
  listed = λ q. (listed-FieldAt q, FieldAt-listed q);
  fields = listed_field;
  groups = group_sums;
}
