-- The first nonzero entry, entry by entry.
use Rattle.std.proofs.Common.{ap, arith, refl, suc, zero, ℕ, ◌%◌, ◌-◌, ◌/◌, ◌∙◌, ◌≡◌, ◌≢◌, cond}
use Rattle.counting.proofs.Booleans.{eq-eqb, ne_eqb}
use Rattle.spaces.specs.Points.{lead}

pub lead-none : (q n x : ℕ) → n ≡ 0 → lead q n x ≡ 0
unfolding lead
lead-none q zero x e = refl
lead-none q (suc n) x e = absurd (omega arith)

pub lead-first : (q n x : ℕ) → n ≢ 0 → x % q ≢ 0 → lead q n x ≡ x % q
unfolding lead
lead-first q zero x ne h = absurd (ne refl)
lead-first q (suc n) x ne h = ap (λ t. cond t (lead q n (x / q)) (x % q)) (ne_eqb (x % q) 0 h)

pub lead-rest : (q n x : ℕ) → n ≢ 0 → x % q ≡ 0 → lead q n x ≡ lead q (n - 1) (x / q)
unfolding lead
lead-rest q zero x ne h = absurd (ne refl)
lead-rest q (suc n) x ne h = ap (λ t. cond t (lead q n (x / q)) (x % q)) (eq-eqb (x % q) 0 h) ∙ ap (λ m. lead q m (x / q)) (let e : n ≡ suc n - 1 = omega arith in e)

pub ruleset lead_steps = (lead-none, lead-first, lead-rest)
