-- Quadruple systems on few points, computed.
use Rattle.std.proofs.Common.{Bool, List, [], ap, arith, inl, inr, length, not, suc, sym, true, zero, refl, ℕ, ◌&&◌, ◌<◌, ◌==◌, ◌∙◌, ◌∷◌, ◌≡◌, ◌≢◌}
use Rattle.std.proofs.lemmas.List.Elements.{All-from_recursion}
use Rattle.std.specs.List.{AllByRecursion}
use Rattle.std.specs.Prelude.{nat_lt}
use Rattle.counting.proofs.Booleans.{both, cases_eq, eq-eqb, eqb-true, false≢true, ltb-true}
use Rattle.counting.specs.Sums.{join_below}
use Rattle.design_base.proofs.Canonical.{Differs}
use Rattle.design_base.specs.Blocks.{holds}
use Rattle.design_base.specs.Canonical.{canonical}
use Rattle.three_designs.specs.Quadruples.{four_blocks, ten_blocks}
use Rattle.three_designs.specs.StrengthThree.{IsSqs, cover_three}
use Rattle.three_designs.proofs.Triples.{IsSet, sqs_from_loose}

-- whether each number below n passes
each_below_passes : ℕ → (ℕ → Bool) → Bool
each_below_passes zero p = true
each_below_passes (suc n) p = each_below_passes n p && p n

below_passes : (n : ℕ) (p : ℕ → Bool) → each_below_passes n p ≡ true → (i : ℕ) → i < n → p i ≡ true
unfolding each_below_passes
below_passes zero p h i l = absurd (omega arith)
below_passes (suc n) p h i l = let g = both (each_below_passes n p) (p n) h in elim (cases_eq i n) [
  | inl e ↦ ap p e ∙ g.1
  | inr ne ↦ below_passes n p g.0 i (omega arith)
]

-- whether x is none of the points
is_fresh : ℕ → List ℕ → Bool
is_fresh x [] = true
is_fresh x (y ∷ b) = not (x == y) && is_fresh x b

fresh : (x : ℕ) (b : List ℕ) → is_fresh x b ≡ true → AllByRecursion (λ y. x ≢ y) b
unfolding is_fresh
fresh x [] h = tt
fresh x (y ∷ b) h = let g = both (not (x == y)) (is_fresh x b) h in ((λ e. absurd (false≢true (sym (ap not (eq-eqb x y e)) ∙ g.0))), fresh x b g.1)

-- whether all points are below v, and none stands twice
are_points : ℕ → List ℕ → Bool
are_points v [] = true
are_points v (x ∷ b) = (nat_lt x v && is_fresh x b) && are_points v b

differ : (v : ℕ) (b : List ℕ) → are_points v b ≡ true → Differs b
unfolding are_points
differ v [] h = tt
differ v (x ∷ b) h = let g = both (nat_lt x v && is_fresh x b) (are_points v b) h in (fresh x b (both (nat_lt x v) (is_fresh x b) g.0).1, differ v b g.1)

points_below : (v : ℕ) (b : List ℕ) → are_points v b ≡ true → AllByRecursion (λ x. x < v) b
unfolding are_points
points_below v [] h = tt
points_below v (x ∷ b) h = let g = both (nat_lt x v && is_fresh x b) (are_points v b) h in (ltb-true x v (both (nat_lt x v) (is_fresh x b) g.0).0, points_below v b g.1)

-- whether all blocks are sets of four points
are_fours : ℕ → List (List ℕ) → Bool
are_fours v [] = true
are_fours v (b ∷ B) = ((length b == 4) && are_points v b) && are_fours v B

fours : (v : ℕ) (B : List (List ℕ)) → are_fours v B ≡ true → AllByRecursion (IsSet v 4) B
unfolding are_fours
fours v [] h = tt
fours v (b ∷ B) h =
    let g = both ((length b == 4) && are_points v b) (are_fours v B) h in
    let s = both (length b == 4) (are_points v b) g.0 in
    (record { differs = differ v b s.1; below = points_below v b s.1; size = eqb-true (length b) 4 s.0 }, fours v B g.1)

-- whether each three points below v stand in one block
covers_once : ℕ → List (List ℕ) → Bool
covers_once v B = each_below_passes v (λ z. each_below_passes z (λ y. each_below_passes y (λ x. cover_three B x y z == 1)))

triples_once : (v : ℕ) (B : List (List ℕ)) → covers_once v B ≡ true → (x y z : ℕ) → x < y → y < z → z < v → cover_three B x y z ≡ 1
unfolding covers_once
triples_once v B h x y z l m n = eqb-true (cover_three B x y z) 1
    (below_passes y (λ x. cover_three B x y z == 1) (below_passes z (λ y. each_below_passes y (λ x. cover_three B x y z == 1)) (below_passes v (λ z. each_below_passes z (λ y. each_below_passes y (λ x. cover_three B x y z == 1))) h z n) y m) x l)

sqs_by_tests : (v : ℕ) (B : List (List ℕ)) → are_fours v B ≡ true → covers_once v B ≡ true → IsSqs (canonical B) v
sqs_by_tests v B f c = sqs_from_loose v B (record { blocks = All-from_recursion (IsSet v 4) B (fours v B f); triples = triples_once v B c })

four_sets : are_fours 4 four_blocks ≡ true
unfolding are_fours are_points is_fresh
four_sets = refl

four_covers : covers_once 4 four_blocks ≡ true
unfolding covers_once each_below_passes cover_three holds
four_covers = refl

ten_sets : are_fours 10 ten_blocks ≡ true
unfolding are_fours are_points is_fresh ten_blocks join_below
ten_sets = refl

ten_covers : covers_once 10 ten_blocks ≡ true
unfolding covers_once each_below_passes cover_three holds ten_blocks join_below
ten_covers = refl

pub four_is_sqs : IsSqs (canonical four_blocks) 4
four_is_sqs = sqs_by_tests 4 four_blocks four_sets four_covers

pub ten_is_sqs : IsSqs (canonical ten_blocks) 10
ten_is_sqs = sqs_by_tests 10 ten_blocks ten_sets ten_covers
