-- Small values of the definitions, computed.
use Rattle.std.proofs.Common.{◌≡◌, [], ◌∷◌, refl}
use Rattle.counting.specs.Sums.{join_below, list_below}
use Rattle.design_base.specs.Cells.{cell_of}
use Rattle.design_base.specs.Fields.{moduli, modulus_of}
use Rattle.counting.specs.Search.{first_in}
use Rattle.design_base.specs.Limits.{in_bounds}
use Rattle.design_base.specs.Questions.{query_of}
use Rattle.design_base.specs.declared.query.Query.TheVariants.{Bibd, Df, Gdd}
use Rattle.design_base.specs.declared.query.Group.TheVariants.{Field}
use Rattle.design_answers.specs.Draws.{draw, first_behind, first_from}

first_draws : list_below 3 draw ≡ Bibd 9 3 1 ∷ Bibd 95 3 6 ∷ Gdd 6 58 2 ∷ []
unfolding draw first_from first_behind query_of in_bounds cell_of join_below
first_draws = refl

draw_of_five : draw 5 ≡ Df Field 7 2 1
unfolding draw first_from first_behind query_of in_bounds cell_of modulus_of moduli first_in
draw_of_five = refl
