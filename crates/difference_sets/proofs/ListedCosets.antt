-- The stated cosets over each listed field are difference families.
use Rattle.std.proofs.Common.{arith, subst, sym, true, ℕ, ◌%◌, ◌*◌, ◌+◌, ◌-◌, ◌/◌, ◌<◌, ◌≡◌, ◌≤◌}
use Rattle.std.proofs.Math.Nat.{div-add-mod', mod-lt}
use Rattle.std.proofs.lemmas.Nat.{same_from_place}
use Rattle.counting.proofs.Division.{whole_times}
use Rattle.design_base.specs.Blocks.{IsDf}
use Rattle.design_base.specs.Canonical.{canonical}
use Rattle.design_base.specs.Fields.{field_product, field_sum, gen, has_field}
use Rattle.difference_sets.proofs.Rows.{IsLooseDf, df_from_loose}
use Rattle.difference_sets.proofs.Subgroups.{cosets0_are_family, cosets_are_family, half_cosets_are_family}
use Rattle.difference_sets.specs.Families.{coset0_blocks, coset_blocks, field_cosets, halfcoset_blocks}
use Rattle.field_tables.proofs.Generators.{listed_generator}
use Rattle.field_tables.proofs.Listed.{listed_field}

-- twice k divides n: n is an even number of times k
pub record IsTwice (n k : ℕ) : Type 0 where
  pub whole : n / k * k ≡ n
  pub halves : n / k ≡ n / k / 2 + n / k / 2

pub twice_times : (n k : ℕ) → 0 < k → n % (2 * k) ≡ 0 → IsTwice n k
twice_times n k some e =
    let places = same_from_place (n / k) (n % k) (2 * (n / (2 * k))) 0 k (mod-lt n some) some (omega (arith, div-add-mod' n k, div-add-mod' n (2 * k), e)) in
    record {
      whole = omega (arith, div-add-mod' n k, places.1);
      halves = omega (arith, places.0, div-add-mod' (n / k) 2, mod-lt (n / k) (let two : 0 < 2 = omega arith in two));
    }

module _ (q : ℕ) (listed : has_field q ≡ true) (k l : ℕ) where
  pub cosets_family : (q - 1) % k ≡ 0 → l ≡ k - 1 → IsDf (canonical (coset_blocks q k)) (field_sum q) q k l
  unfolding field_cosets
  cosets_family e size =
      let m : ℕ = (q - 1) / k in
      df_from_loose _ (field_sum q) q k l
      (subst (IsLooseDf (field_cosets q 0 m k m) (field_sum q) q k) (sym size)
      (cosets_are_family q (field_sum q) (field_product q) (listed_field q listed) (gen q) (listed_generator q listed) m k (whole_times (q - 1) k e)))

  pub cosets0_family : 1 ≤ k → (q - 1) % (k - 1) ≡ 0 → l ≡ k → IsDf (canonical (coset0_blocks q k)) (field_sum q) q k l
  unfolding field_cosets
  cosets0_family some e size =
      let m : ℕ = (q - 1) / (k - 1) in
      let next : k - 1 + 1 ≡ k = omega arith in
      df_from_loose _ (field_sum q) q k l
      (subst (IsLooseDf (field_cosets q 1 m (k - 1) m) (field_sum q) q k) (sym size)
      (subst (λ n. IsLooseDf (field_cosets q 1 m (k - 1) m) (field_sum q) q n n) next
      (cosets0_are_family q (field_sum q) (field_product q) (listed_field q listed) (gen q) (listed_generator q listed) m (k - 1) (whole_times (q - 1) (k - 1) e))))

  pub halfcosets_family : (q - 1) % (2 * k) ≡ 0 → 2 * l + 1 ≡ k → IsDf (canonical (halfcoset_blocks q k)) (field_sum q) q k l
  unfolding field_cosets
  halfcosets_family e size =
      let m : ℕ = (q - 1) / k in
      let twice = twice_times (q - 1) k (omega (arith, size)) e in
      df_from_loose _ (field_sum q) q k l
      (half_cosets_are_family q (field_sum q) (field_product q) (listed_field q listed) (gen q) (listed_generator q listed) m k twice.whole (m / 2) l twice.halves (omega (arith, size)))
