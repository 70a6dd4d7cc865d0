use Rattle.design_base.specs.Fields.{field_product}
use Rattle.spaces.specs.Points.{ArePlaces}
use Rattle.spaces.proofs.points.places.Given as goal

abbrev pub invariant-loop-x : goal.invariant-loop-x
invariant-loop-x l = ArePlaces (field_product l.field) l.field l.n l.x l.places.items
