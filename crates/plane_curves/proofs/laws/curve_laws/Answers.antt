use Rattle.plane_curves.proofs.CurveDesigns.{arcs, unitals}
use Rattle.plane_curves.proofs.laws.curve_laws.Goals as goal

pub returns : goal.returns
returns c = record { unital = unitals; arc = arcs }
