-- Steps of the functions that answer the table.
use Rattle.std.proofs.Common.{Bool, List, ap, arith, cond, drop, drop-cons, false, get_or, length, suc, sym, true, ℕ, ◌*◌, ◌+◌, ◌-◌, ◌<◌, ◌≤◌, ◌∙◌, ◌≡◌, Some, Fits, w32, add-one}
use Rattle.std.proofs.Math.Nat.{mul-le-mul_left, mul-le-mul_right}
use Rattle.std.specs.Prelude.{find}
use Rattle.design_base.specs.declared.limits.TheConstants.{POINTS_MAX}

-- the next element passes
pub find_passes : {X : Type 0} (p : X → Bool) (xs : List X) (i : ℕ) (d : X) → i < length xs → p (get_or xs i d) ≡ true → find p (drop i xs) ≡ Some (get_or xs i d)
find_passes p xs i d l e = ap (find p) (drop-cons xs i d l) ∙ ap (λ t. cond t (Some (get_or xs i d)) (find p (drop (suc i) xs))) e

-- it does not, so it may go
pub find_skips : {X : Type 0} (p : X → Bool) (xs : List X) (i : ℕ) (d : X) → i < length xs → p (get_or xs i d) ≡ false → find p (drop i xs) ≡ find p (drop (i + 1) xs)
find_skips p xs i d l e = ap (find p) (drop-cons xs i d l) ∙ ap (λ t. cond t (Some (get_or xs i d)) (find p (drop (suc i) xs))) e ∙ ap (λ n. find p (drop n xs)) (sym (add-one i))

-- the ordered pairs of points of different groups are at most the pairs of points
pub pairs_fit : (g u : ℕ) → g * u ≤ POINTS_MAX → Fits w32 (g * g * u * (u - 1))
pairs_fit g u most =
    let less : g * (u - 1) ≤ g * u = mul-le-mul_left g (let h : u - 1 ≤ u = omega arith in h) in
    omega (arith, mul-le-mul_right (g * (u - 1)) most, less, most)
