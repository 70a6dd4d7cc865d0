-- Block lists that meet questions, taken one by one.
use Rattle.std.proofs.Common.{◌≡◌, ℕ, List, [], ◌∷◌, arith, get_or, length, map}
use Rattle.design_base.specs.Meets.{Meets}
use Rattle.design_base.specs.declared.query.Query.{Query}
use Rattle.derivations.specs.AllMeet.{AllMeet}

-- P holds of any block lists that meet the questions
abbrev pub OfAll : List Query → (List (List (List ℕ)) → Type 0) → Type 0
OfAll [] P = P []
OfAll (p ∷ ps) P = (B : List (List ℕ)) → Meets p B → OfAll ps (λ Bs. P (B ∷ Bs))

pub taken : (ps : List Query) (P : List (List (List ℕ)) → Type 0) (I : List (List (List ℕ))) → AllMeet ps I → OfAll ps P → P I
taken [] P [] m all = all
taken [] P (B ∷ Bs) m all = absurd m
taken (p ∷ ps) P [] m all = absurd m
taken (p ∷ ps) P (B ∷ Bs) m all = taken ps (λ Is. P (B ∷ Is)) Bs m.1 (all B m.0)

-- six lists that are lent, by the places where they are taken
pub six : {X : Type 0} → (f : X → List (List ℕ)) (xs : List X) (a b c d e g : X) → length xs ≡ 6 → a ≡ get_or xs 0 a → b ≡ get_or xs 1 b → c ≡ get_or xs 2 c → d ≡ get_or xs 3 d
    → e ≡ get_or xs 4 e → g ≡ get_or xs 5 g → map f xs ≡ f a ∷ f b ∷ f c ∷ f d ∷ f e ∷ f g ∷ []
six f (x0 ∷ x1 ∷ x2 ∷ x3 ∷ x4 ∷ x5 ∷ []) a b c d e g n h0 h1 h2 h3 h4 h5 = cc
six f xs a b c d e g n h0 h1 h2 h3 h4 h5 = absurd (omega (arith, n))
