-- Vectors of n entries over a field of q elements. A vector is a number below q ^ n: its entries are the digits to the
-- base q, the first entry lowest.
use Rattle.std.specs.Prelude.{ℕ, List, [], ◌∷◌, map}
use Rattle.counting.specs.Sums.{join_below}
use Rattle.design_base.specs.Digits.{digits, number}

-- f of the entries at each place
abbrev pub entrywise : (ℕ → ℕ → ℕ) → List ℕ → List ℕ → List ℕ
entrywise f [] ys = []
entrywise f (x ∷ xs) [] = []
entrywise f (x ∷ xs) (y ∷ ys) = f x y ∷ entrywise f xs ys

abbrev pub vector_sum : (ℕ → ℕ → ℕ) → ℕ → ℕ → ℕ → ℕ → ℕ
vector_sum add q n x y = number q (entrywise add (digits q n x) (digits q n y))

-- t * x
abbrev pub multiple : (ℕ → ℕ → ℕ) → ℕ → ℕ → ℕ → ℕ → ℕ
multiple mul q n t x = number q (map (mul t) (digits q n x))

-- a * x + b * y
unfoldable pub combination : (ℕ → ℕ → ℕ) → (ℕ → ℕ → ℕ) → ℕ → ℕ → ℕ → ℕ → ℕ → ℕ → ℕ
combination add mul q n a x b y = vector_sum add q n (multiple mul q n a x) (multiple mul q n b y)

-- the entries of t * x for each t below m and each x of P
unfoldable pub multiples_below : (ℕ → ℕ → ℕ) → ℕ → ℕ → List ℕ → ℕ → List (List ℕ)
multiples_below mul q n P m = join_below m (λ t. map (λ x. digits q n (multiple mul q n t x)) P)
