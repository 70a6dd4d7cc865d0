-- Steiner quadruple systems: which are known, and the blocks that are made.
use Rattle.std.specs.Prelude.{Bool, List, [], ℕ, ◌+◌, ◌-◌, ◌/◌, ◌%◌, ◌==◌, ◌&&◌, ◌||◌, ◌++◌, ◌∷◌, flat_map, if◌then◌else◌, map}
use Rattle.std.proofs.Common.{false, suc, zero}
use Rattle.counting.specs.Search.{◌<=◌}
use Rattle.counting.specs.Sums.{join_below, list_below}
use Rattle.design_base.specs.Canonical.{canonical}
use Rattle.three_designs.specs.Verdicts.{is_yes}
use Rattle.three_designs.specs.declared.verdict.ThreeRule.TheVariants.{Double, Four, Ten}
use Rattle.three_designs.specs.declared.verdict.ThreeVerdict.{ThreeVerdict}
use Rattle.three_designs.specs.declared.verdict.ThreeVerdict.TheVariants.{No, Unknown, Yes}

-- what is known of v points, where a system on half as many points may be known
abbrev pub sqs_judged : ℕ → Bool → ThreeVerdict
sqs_judged v half =
    if v % 6 == 2 || v % 6 == 4 then (
    if v == 4 then Yes Four else (
    if v == 10 then Yes Ten else (
    if half then Yes Double else Unknown))) else No

-- with so many halvings
abbrev pub sqs_within : ℕ → ℕ → ThreeVerdict
sqs_within zero v = sqs_judged v false
sqs_within (suc halvings) v = sqs_judged v (8 <= v && is_yes (sqs_within halvings (v / 2)))

-- there are never more than v
unfoldable pub sqs_verdict_of : ℕ → ThreeVerdict
sqs_verdict_of v = sqs_within v v

-- the one block of four points
abbrev pub four_blocks : List (List ℕ)
four_blocks = (0 ∷ 1 ∷ 2 ∷ 3 ∷ []) ∷ []

-- each point plus c modulo 10
abbrev pub turned : ℕ → List ℕ → List ℕ
turned c block = map (λ x. (x + c) % 10) block

-- three blocks on ten points, turned
abbrev pub turned_blocks : ℕ → List (List ℕ)
turned_blocks c = turned c (0 ∷ 1 ∷ 3 ∷ 4 ∷ []) ∷ turned c (0 ∷ 1 ∷ 2 ∷ 6 ∷ []) ∷ turned c (0 ∷ 2 ∷ 4 ∷ 7 ∷ []) ∷ []

unfoldable pub ten_blocks : List (List ℕ)
ten_blocks = join_below 10 turned_blocks

-- the points of pair s of factor i, on the numbers below u and u itself: u and i where s is 0, and else i + s and i - s
-- modulo u
unfoldable pub first_point : ℕ → ℕ → ℕ → ℕ
first_point u i s = if s == 0 then u else (i + s) % u

unfoldable pub second_point : ℕ → ℕ → ℕ → ℕ
second_point u i s = (i + (u - s)) % u

abbrev pub factor_pair : ℕ → ℕ → ℕ → List ℕ
factor_pair u i s = first_point u i s ∷ second_point u i s ∷ []

-- factor i of w points: w / 2 pairs in which each point stands once
unfoldable pub factor : ℕ → ℕ → List (List ℕ)
factor w i = list_below (w / 2) (factor_pair (w - 1) i)

-- each point plus w
unfoldable pub moved : ℕ → List ℕ → List ℕ
moved w block = map (λ x. x + w) block

-- each two pairs of a factor, equal or not, in both orders: the first on the points below w, the second on those above
unfoldable pub crossed : ℕ → List (List ℕ) → List (List ℕ)
crossed w F = flat_map (λ p. map (λ q. p ++ moved w q) F) F

-- a system on the points below w, the same on those above, and the crossed pairs of each of f factors
unfoldable pub doubled : ℕ → ℕ → (ℕ → List (List ℕ)) → List (List ℕ) → List (List ℕ)
doubled w f factors S = S ++ map (moved w) S ++ join_below f (λ i. crossed w (factors i))

unfoldable pub double_blocks : ℕ → List (List ℕ) → List (List ℕ)
double_blocks w S = doubled w (w - 1) (factor w) S

-- the system on four points, that on ten points, or another
abbrev pub small_or : ℕ → List (List ℕ) → List (List ℕ)
small_or v other =
    if v == 4 then canonical four_blocks else (
    if v == 10 then canonical ten_blocks else other)

-- the system where the verdict is Yes
abbrev pub sqs_list_within : ℕ → ℕ → List (List ℕ)
sqs_list_within zero v = small_or v []
sqs_list_within (suc halvings) v = small_or v (canonical (double_blocks (v / 2) (sqs_list_within halvings (v / 2))))

unfoldable pub sqs_list : ℕ → List (List ℕ)
sqs_list v = sqs_list_within v v
