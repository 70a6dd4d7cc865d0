-- Sums over the numbers below a bound, and lists that are joined over them.
use Rattle.std.proofs.Common.{[], cond, suc, zero, ◌++◌, ◌∷◌}
use Rattle.std.specs.Prelude.{Bool, List, ℕ, ◌+◌}

-- 1 for a test that passes, and else 0
unfoldable pub one : Bool → ℕ
one b = cond b 1 0

-- f 0 + f 1 + .. + f (n - 1)
unfoldable pub sum_below : ℕ → (ℕ → ℕ) → ℕ
sum_below zero f = 0
sum_below (suc n) f = sum_below n f + f n

-- the lists f 0, f 1, .., f (n - 1), joined end to end
unfoldable pub join_below : {X : Type 0} → ℕ → (ℕ → List X) → List X
join_below zero f = []
join_below (suc n) f = join_below n f ++ f n

-- the list f 0, f 1, .., f (n - 1)
abbrev pub list_below : {X : Type 0} → ℕ → (ℕ → X) → List X
list_below n f = join_below n (λ i. f i ∷ [])
