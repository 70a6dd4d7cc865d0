-- Powers of an element.
use Rattle.std.proofs.Common.{suc, zero}
use Rattle.std.specs.Prelude.{ℕ}

-- g ^ n, where mul is the product
unfoldable pub power : (ℕ → ℕ → ℕ) → ℕ → ℕ → ℕ
power mul g zero = 1
power mul g (suc n) = mul (power mul g n) g
