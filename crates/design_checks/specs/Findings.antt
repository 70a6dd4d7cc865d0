-- What a check of a block list finds: the first bad block, or else the first bad pair of points.
use Rattle.std.specs.Prelude.{ℕ, ◌+◌, ◌-◌, ◌*◌, ◌==◌, nat_lt, not, position, Bool, true, false, ◌&&◌, List, [], ◌∷◌, length, Some, None}
use Rattle.std.specs.List.{list_all}
use Rattle.counting.specs.Search.{first_in}
use Rattle.counting.specs.Sums.{join_below, list_below}
use Rattle.design_base.specs.Blocks.{cover, across, differences}
use Rattle.design_base.specs.Canonical.{canonical}
use Rattle.design_base.specs.Limits.{is_listed, within}
use Rattle.design_base.specs.Meets.{group_add}
use Rattle.design_base.specs.declared.query.Query.{Query}
use Rattle.design_base.specs.declared.query.Query.TheVariants.{Td, Df, Bibd, Gdd, Pbd}
use Rattle.design_checks.specs.declared.finding.Finding.{Finding}
use Rattle.design_checks.specs.declared.finding.Finding.TheVariants.{Valid, BadBlock, BadPair}

-- each number is below the next
unfoldable pub rises : List ℕ → Bool
rises [] = true
rises (x ∷ []) = true
rises (x ∷ y ∷ ys) = nat_lt x y && rises (y ∷ ys)

-- from `least` to `most` points below v, in increasing order
abbrev pub is_block : ℕ → ℕ → ℕ → List ℕ → Bool
is_block v least most block = rises block && list_all (λ x. nat_lt x v) block && within least most (length block)

-- the first bad block by its place, from 1; where there is none, what else is found
abbrev pub block_finding : (List ℕ → Bool) → List (List ℕ) → Finding → Finding
block_finding is_good B else_found =
    elim (position (λ block. not (is_good block)) B) [ Some i ↦ BadBlock (i + 1) | None ↦ else_found ]

-- the pairs x < y < v, by y
abbrev pub pairs_of : ℕ → ℕ → List (ℕ × ℕ)
pairs_of v x = list_below (v - (x + 1)) (λ i. (x, x + 1 + i))

-- the pairs x < y < v, in lexicographic order
abbrev pub pairs : ℕ → List (ℕ × ℕ)
pairs v = join_below v (pairs_of v)

-- the first pair whose count is not the one wanted, with its count; where there is none, the list is valid
abbrev pub pair_finding : (ℕ → ℕ → ℕ) → (ℕ → ℕ → ℕ) → List (ℕ × ℕ) → Finding
pair_finding count want ps =
    elim (first_in (λ p. not (count p.0 p.1 == want p.0 p.1)) ps) [ Some p ↦ BadPair p.0 p.1 (count p.0 p.1) | None ↦ Valid ]

-- of blocks of `least` to `most` points on v points, where x < y are to stand together in `want x y` of them
abbrev pub design_finding : List (List ℕ) → ℕ → ℕ → ℕ → (ℕ → ℕ → ℕ) → Finding
design_finding B v least most want = block_finding (is_block v least most) B (pair_finding (cover B) want (pairs v))

-- of base blocks of k elements of a group of v, where each element but 0 is to be l differences
abbrev pub family_finding : List (List ℕ) → (ℕ → ℕ → ℕ) → ℕ → ℕ → ℕ → Finding
family_finding B add v k l =
    block_finding (is_block v k k) B (pair_finding (λ x d. differences add B d) (λ x d. l) (pairs_of v 0))

-- of a block list against the definition of the design that is asked for; a group that is not listed has no family
unfoldable pub finding : Query → List (List ℕ) → Finding
finding (Td k n) B = design_finding B (n * k) k k (across n)
finding (Df group v k l) B =
    elim (is_listed group v) [ true ↦ family_finding B (group_add group v) v k l | false ↦ BadPair 0 1 0 ]
finding (Bibd v k l) B = design_finding B v k k (λ x y. l)
finding (Gdd k g u) B = design_finding B (g * u) k k (across g)
finding (Pbd v s) B = design_finding B v s (s + 1) (λ x y. 1)

-- nothing is found
abbrev pub is_valid : Finding → Bool
is_valid Valid = true
is_valid (BadBlock i) = false
is_valid (BadPair x y c) = false

-- the block list, put in canonical form, meets the question: a test of it finds nothing
abbrev pub passes_check : Query → List (List ℕ) → Bool
passes_check q B = is_valid (finding q (canonical B))
