-- Where the rules of difference families apply: by their lists, and in closed form.
use Rattle.std.specs.Prelude.{ℕ, Bool, true, false, [], ◌∷◌, length, ◌+◌, ◌-◌, ◌*◌, ◌/◌, ◌%◌, ◌==◌, ◌&&◌, ◌≡◌}
use Rattle.std.specs.List.{list_any}
use Rattle.counting.specs.Division.{divides}
use Rattle.counting.specs.Search.{is_among, ◌<=◌}
use Rattle.design_base.specs.Canonical.{canonical}
use Rattle.design_base.specs.Fields.{has_field}
use Rattle.design_base.specs.Meets.{Meets}
use Rattle.design_base.specs.Same.{same_group}
use Rattle.design_base.specs.Steps.{Step}
use Rattle.design_base.specs.declared.query.Group.{Group}
use Rattle.design_base.specs.declared.query.Group.TheVariants.{Field}
use Rattle.design_base.specs.declared.query.Query.{Query}
use Rattle.design_base.specs.declared.query.Query.TheVariants.{Df}
use Rattle.design_base.specs.declared.rule.Rule.{Rule}
use Rattle.design_base.specs.declared.rule.Rule.TheVariants.{Table, Powers, Cosets, Cosets0, Halfcosets}
use Rattle.design_checks.specs.Findings.{passes_check}
use Rattle.difference_sets.specs.Families.{step_blocks}
use Rattle.difference_sets.specs.Listed.{Family, families, family_at}
use Rattle.difference_sets.specs.declared.powers.PowerRow.{PowerRow}
use Rattle.difference_sets.specs.declared.powers.TheConstants.{POWER_ROWS}

-- the family is over this group, and has these numbers
abbrev pub is_family_over : Family → Group → ℕ → ℕ → ℕ → Bool
is_family_over f group v k l = same_group f.group group && (f.v == v && (f.k == k && f.l == l))

-- the n-th listed family is
unfoldable pub is_listed_family : ℕ → Group → ℕ → ℕ → ℕ → Bool
is_listed_family n group v k l = (1 <= n && n <= length families) && is_family_over (family_at n) group v k l

-- the powers of g ^ e, and 0 too where z is 1, are k elements
unfoldable pub are_powers : ℕ → ℕ → ℕ → ℕ → Bool
are_powers e z v k = has_field v && is_among e (2 ∷ 4 ∷ 8 ∷ []) && divides e (v - 1) && is_among z (0 ∷ 1 ∷ []) && k == (v - 1) / e + z

abbrev pub is_row : ℕ → ℕ → ℕ → ℕ → PowerRow → Bool
is_row q e z l r = (r.q == q && r.e == e) && (r.z == z && r.l == l)

-- such a row is in the table of the powers that are difference families
unfoldable pub is_power_row : ℕ → ℕ → ℕ → ℕ → Bool
is_power_row q e z l = list_any (is_row q e z l) POWER_ROWS

-- the nonzero elements are cosets of k elements
unfoldable pub are_cosets : ℕ → ℕ → ℕ → Bool
are_cosets v k l = has_field v && divides k (v - 1) && l + 1 == k

-- and of k - 1 elements
unfoldable pub are_cosets0 : ℕ → ℕ → ℕ → Bool
are_cosets0 v k l = has_field v && divides (k - 1) (v - 1) && l == k

-- the nonzero elements are an even number of cosets of k elements, and k is odd
unfoldable pub are_halfcosets : ℕ → ℕ → ℕ → Bool
are_halfcosets v k l = has_field v && v % 2 == 1 && k % 2 == 1 && divides (2 * k) (v - 1) && 2 * l + 1 == k

-- what a rule with its parameters a and b asks of a question before its list is tested
unfoldable pub is_stated : Group → ℕ → ℕ → ℕ → Rule → ℕ → ℕ → Bool
is_stated group v k l Table a b = is_listed_family a group v k l
is_stated Field v k l Powers a b = are_powers a b v k
is_stated Field v k l Cosets a b = are_cosets v k l
is_stated Field v k l Cosets0 a b = are_cosets0 v k l
is_stated Field v k l Halfcosets a b = are_halfcosets v k l
is_stated group v k l r a b = false

unfoldable pub is_stated_step : Query → Step → Bool
is_stated_step (Df group v k l) s = is_stated group v k l s.rule s.a s.b
is_stated_step q s = false

-- a step of a rule of difference families: what the rule asks holds, and its list meets the question
pub record IsFamilyStep (q : Query) (s : Step) : Type 0 where
  pub stated : is_stated_step q s ≡ true
  pub meets : Meets q (canonical (step_blocks q s))

-- the same as a test
unfoldable pub is_tested_step : Query → Step → Bool
is_tested_step q s = is_stated_step q s && passes_check q (step_blocks q s)

-- the same in closed form: but for powers, each list that is stated meets its question
unfoldable pub family_applies : Group → ℕ → ℕ → ℕ → Rule → ℕ → ℕ → Bool
family_applies Field v k l Powers a b = is_power_row v a b l && k == (v - 1) / a + b
family_applies group v k l r a b = is_stated group v k l r a b

unfoldable pub is_family_step : Query → Step → Bool
is_family_step (Df group v k l) s = family_applies group v k l s.rule s.a s.b
is_family_step q s = false
