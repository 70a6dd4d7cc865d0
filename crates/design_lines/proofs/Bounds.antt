-- A question with a number above 65,535 is out of bounds.
use Rattle.std.proofs.Common.{◌≡◌, ℕ, ◌*◌, ◌≤◌, Bool, true, false, ◌&&◌, arith, mul-le-mul_left, mul-le-mul_right, refl, ap, sym}
use Rattle.std.specs.Prelude.{Some, None, option_and_then, if◌then◌else◌}
use Rattle.std.proofs.lemmas.Bool.Decides.{nat_tests}
use Rattle.counting.specs.Search.{◌<=◌}
use Rattle.design_base.specs.declared.limits.TheConstants.{GDD_K_MAX, POINTS_MAX}
use Rattle.design_base.specs.declared.query.Group.{Group}
use Rattle.design_base.specs.declared.query.Query.{Query}
use Rattle.design_base.specs.declared.query.Query.TheVariants.{Td, Df, Bibd, Gdd, Pbd}
use Rattle.design_base.specs.Limits.{in_bounds, is_listed, within}
use Rattle.design_lines.specs.declared.command.Shape.{Shape}
use Rattle.design_lines.specs.Grammar.{asked, is_narrow, narrowed}

td_out : (k n : ℕ) → is_narrow (Td k n) ≡ false → in_bounds (Td k n) ≡ false
unfolding in_bounds
td_out k n h = grind (arith, nat_tests)

bibd_out : (v k l : ℕ) → is_narrow (Bibd v k l) ≡ false → in_bounds (Bibd v k l) ≡ false
unfolding in_bounds
bibd_out v k l h = grind (arith, nat_tests)

df_out : (group : Group) (v k l : ℕ) → is_narrow (Df group v k l) ≡ false → in_bounds (Df group v k l) ≡ false
unfolding in_bounds
df_out group v k l h = ap (λ b. b && is_listed group v) (bibd_out v k l h)

gdd_out : (k g u : ℕ) → is_narrow (Gdd k g u) ≡ false → in_bounds (Gdd k g u) ≡ false
unfolding in_bounds
gdd_out k g u h = split (1 <= g) refl (2 <= u) refl
  where
    split : (a : Bool) → (1 <= g) ≡ a → (b : Bool) → (2 <= u) ≡ b → (within 2 GDD_K_MAX k && (1 <= g) && (2 <= u) && (g * u <= POINTS_MAX)) ≡ false
    split false e b f = grind (arith, nat_tests)
    split true e false f = grind (arith, nat_tests)
    split true e true f =
        let some : 1 ≤ g = grind (arith, nat_tests) in
        let more : 2 ≤ u = grind (arith, nat_tests) in
        let first : 1 * u ≤ g * u = mul-le-mul_right u some in
        let second : g * 1 ≤ g * u = mul-le-mul_left g (omega arith) in
        let third : u ≤ g * u = omega (arith, first) in
        let fourth : g ≤ g * u = omega (arith, second) in
        grind (arith, nat_tests)

pbd_out : (v s : ℕ) → is_narrow (Pbd v s) ≡ false → in_bounds (Pbd v s) ≡ false
unfolding in_bounds
pbd_out v s h = grind (arith, nat_tests)

wide_out : (q : Query) → is_narrow q ≡ false → in_bounds q ≡ false
wide_out (Td k n) h = td_out k n h
wide_out (Df group v k l) h = df_out group v k l h
wide_out (Bibd v k l) h = bibd_out v k l h
wide_out (Gdd k g u) h = gdd_out k g u h
wide_out (Pbd v s) h = pbd_out v s h

-- so only such numbers as fit need to be judged
pub asked_narrowed : (shape : Shape) (q : Query) → option_and_then (asked shape) (narrowed q) ≡ asked shape q
unfolding narrowed
asked_narrowed shape q = split (is_narrow q) refl
  where
    split : (b : Bool) → is_narrow q ≡ b → option_and_then (asked shape) (if b then Some q else None) ≡ asked shape q
    split true h = refl
    split false h = sym (ap (λ b. if b then Some (record { query = q; shape = shape }) else None) (wide_out q h))
