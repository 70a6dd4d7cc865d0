-- Triples of points in groups of n points, where `place n i x` is point x of group i. Each list takes the bound m of what it goes through.
use Rattle.std.specs.Prelude.{List, [], ℕ, ◌%◌, ◌+◌, ◌∷◌, ◌==◌}
use Rattle.std.proofs.Common.{cond}
use Rattle.counting.specs.Sums.{join_below, list_below}
use Rattle.design_base.specs.Arrays.{place}
use Rattle.triple_systems.specs.declared.triples.Pairs.{Pairs}
use Rattle.triple_systems.specs.declared.triples.Pairs.TheVariants.{Ordered, Unordered}

-- the point x of each of the groups 0, 1 and 2
abbrev pub column : ℕ → ℕ → List ℕ
column n x = place n 0 x ∷ place n 1 x ∷ place n 2 x ∷ []

-- the columns of the numbers x below m
unfoldable pub columns : ℕ → ℕ → List (List ℕ)
columns n m = list_below m (λ x. column n x)

-- the points x and y of group i, and point z of group j
abbrev pub triple : ℕ → ℕ → ℕ → ℕ → ℕ → ℕ → List ℕ
triple n i j x y z = place n i x ∷ place n i y ∷ place n j z ∷ []

-- ---- above pairs of different numbers

-- the numbers x beside y are those below this: those below y, so that each pair comes once, or all below n, so that it comes in both orders
abbrev pub partners : Pairs → ℕ → ℕ → ℕ
partners Unordered n y = y
partners Ordered n y = n

-- the triples above the pairs of y and each other x below m: the pair is in group i, its product in group j
unfoldable pub triples_with : ℕ → (ℕ → ℕ → ℕ) → ℕ → ℕ → ℕ → ℕ → List (List ℕ)
triples_with n op i j y m = join_below m (λ x. cond (x == y) [] (triple n i j x y (op x y) ∷ []))

-- the triples above the pairs of each y below m
unfoldable pub triples_above : Pairs → ℕ → (ℕ → ℕ → ℕ) → ℕ → ℕ → ℕ → List (List ℕ)
triples_above pairs n op i j m = join_below m (λ y. triples_with n op i j y (partners pairs n y))

-- the triples above all pairs of each group i below m, with the products in the next of the groups 0, 1 and 2
unfoldable pub levels : Pairs → ℕ → (ℕ → ℕ → ℕ) → ℕ → List (List ℕ)
levels pairs n op m = join_below m (λ i. triples_above pairs n op i ((i + 1) % 3) n)

-- ---- with the infinite point, which comes after three groups

-- the infinite point, the point x + s of group i, and x of the next group
abbrev pub infinite_triple : ℕ → ℕ → ℕ → ℕ → List ℕ
infinite_triple n s i x = place n 3 0 ∷ place n i (x + s) ∷ place n ((i + 1) % 3) x ∷ []

-- those of group i and of the numbers x below m
unfoldable pub infinite_triples_of : ℕ → ℕ → ℕ → ℕ → List (List ℕ)
infinite_triples_of n s i m = list_below m (λ x. infinite_triple n s i x)

-- those of the groups below h and of the numbers x below m
unfoldable pub infinite_triples : ℕ → ℕ → ℕ → ℕ → List (List ℕ)
infinite_triples n s m h = join_below h (λ i. infinite_triples_of n s i m)
