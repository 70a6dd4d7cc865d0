-- Block lists that meet questions.
use Rattle.std.specs.Prelude.{ℕ, List, [], ◌∷◌}
use Rattle.design_base.specs.Meets.{Meets}
use Rattle.design_base.specs.declared.query.Query.{Query}

-- the block lists meet the questions, one each
abbrev pub AllMeet : List Query → List (List (List ℕ)) → Type 0
AllMeet [] [] = Unit {0}
AllMeet [] (B ∷ Bs) = ⊥
AllMeet (p ∷ ps) [] = ⊥
AllMeet (p ∷ ps) (B ∷ Bs) = Meets p B × AllMeet ps Bs
