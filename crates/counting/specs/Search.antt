-- Words that try one thing after another, and go no further than they need to.
use Rattle.std.proofs.Common.{[], false, true, ◌∷◌}
use Rattle.std.specs.Prelude.{Bool, List, None, Option, Some, nat_eq, nat_le, ℕ, ◌+◌, ◌-◌}
use Rattle.counting.specs.Sums.{list_below}

-- a ≤ b, as a test
infix 40 ◌<=◌
abbrev pub ◌<=◌ : ℕ → ℕ → Bool
◌<=◌ = nat_le

-- the numbers from low to high
abbrev pub upward : ℕ → ℕ → List ℕ
upward low high = list_below (high + 1 - low) (λ i. low + i)

-- both; the second is not tried where the first fails
abbrev pub and_then : Bool → (Unit {0} → Bool) → Bool
and_then a b = elim a [ true ↦ b tt | false ↦ false ]

-- the first element that passes the test; those after it are not tried
unfoldable pub first_in : {X : Type 0} → (X → Bool) → List X → Option X
first_in test [] = None
first_in test (x ∷ xs) = elim (test x) [ true ↦ Some x | false ↦ first_in test xs ]

-- whether each element passes the test; those after one that fails are not tried
unfoldable pub each_passes : {X : Type 0} → (X → Bool) → List X → Bool
each_passes test [] = true
each_passes test (x ∷ xs) = elim (test x) [ true ↦ each_passes test xs | false ↦ false ]

-- x is one of the numbers
unfoldable pub is_among : ℕ → List ℕ → Bool
is_among x [] = false
is_among x (y ∷ ys) = elim (nat_eq x y) [ true ↦ true | false ↦ is_among x ys ]
