-- What it says of numbers that a question is in bounds.
use Rattle.std.proofs.Common.{◌≡◌, ℕ, ◌*◌, ◌≤◌, true, arith}
use Rattle.std.proofs.lemmas.Bool.Decides.{nat_tests}
use Rattle.design_base.specs.declared.limits.TheConstants.{COVER_MAX, GDD_K_MAX, PBD_S_MAX, POINTS_MAX, TD_K_MAX, TD_N_MAX}
use Rattle.design_base.specs.declared.query.Query.TheVariants.{Bibd, Gdd, Pbd, Td}
use Rattle.design_base.specs.Limits.{in_bounds}
use Rattle.rule_terms.proofs.Products.{factors_within}

pub record IsTdInBounds (k n : ℕ) : Type 0 where
  pub groups : 2 ≤ k
  pub narrow : k ≤ TD_K_MAX
  pub points : 1 ≤ n
  pub few : n ≤ TD_N_MAX

pub td_bounds : (k n : ℕ) → in_bounds (Td k n) ≡ true → IsTdInBounds k n
unfolding in_bounds
td_bounds k n e = record {
  groups = grind (arith, nat_tests);
  narrow = grind (arith, nat_tests);
  points = grind (arith, nat_tests);
  few = grind (arith, nat_tests);
}

pub record IsBibdInBounds (v k l : ℕ) : Type 0 where
  pub least : 2 ≤ k
  pub block : k ≤ v
  pub points : v ≤ POINTS_MAX
  pub some : 1 ≤ l
  pub cover : l ≤ COVER_MAX

pub bibd_bounds : (v k l : ℕ) → in_bounds (Bibd v k l) ≡ true → IsBibdInBounds v k l
unfolding in_bounds
bibd_bounds v k l e = record {
  least = grind (arith, nat_tests);
  block = grind (arith, nat_tests);
  points = grind (arith, nat_tests);
  some = grind (arith, nat_tests);
  cover = grind (arith, nat_tests);
}

pub record IsGddInBounds (k g u : ℕ) : Type 0 where
  pub least : 2 ≤ k
  pub narrow : k ≤ GDD_K_MAX
  pub some : 1 ≤ g
  pub groups : 2 ≤ u
  pub points : g * u ≤ POINTS_MAX
  pub small : g ≤ POINTS_MAX
  pub few : u ≤ POINTS_MAX

pub gdd_bounds : (k g u : ℕ) → in_bounds (Gdd k g u) ≡ true → IsGddInBounds k g u
unfolding in_bounds
gdd_bounds k g u e =
    let some : 1 ≤ g = grind (arith, nat_tests) in
    let groups : 2 ≤ u = grind (arith, nat_tests) in
    let points : g * u ≤ POINTS_MAX = grind (arith, nat_tests) in
    let parts = factors_within g u POINTS_MAX some (omega arith) points in
    record {
      least = grind (arith, nat_tests);
      narrow = grind (arith, nat_tests);
      some = some;
      groups = groups;
      points = points;
      small = parts.0;
      few = parts.1;
    }

pub record IsPbdInBounds (v s : ℕ) : Type 0 where
  pub points : 2 ≤ v
  pub few : v ≤ POINTS_MAX
  pub least : 2 ≤ s
  pub narrow : s ≤ PBD_S_MAX

pub pbd_bounds : (v s : ℕ) → in_bounds (Pbd v s) ≡ true → IsPbdInBounds v s
unfolding in_bounds
pbd_bounds v s e = record {
  points = grind (arith, nat_tests);
  few = grind (arith, nat_tests);
  least = grind (arith, nat_tests);
  narrow = grind (arith, nat_tests);
}
