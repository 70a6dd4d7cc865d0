-- The orders of the listed fields.
use Rattle.std.proofs.Common.{◌≡◌, ℕ, Bool, true, false, List, [], ◌∷◌, ◌||◌, ◌==◌, Some, refl, sym}
use Rattle.std.specs.Prelude.{is_some}
use Rattle.std.specs.List.{list_any}
use Rattle.counting.specs.Search.{first_in}
use Rattle.design_base.specs.Fields.{moduli, modulus_of, order, has_field}
use Rattle.design_base.specs.declared.query.TheConstants.{FIELD_ORDERS}

-- a search finds something where some element passes
some-first_in : {X : Type 0} (test : X → Bool) (xs : List X) → is_some (first_in test xs) ≡ list_any test xs
unfolding first_in
some-first_in test [] = refl
some-first_in {X} test (x ∷ xs) = by_test (test x) (some-first_in test xs)
  where
    by_test : (b : Bool) → is_some (first_in test xs) ≡ list_any test xs → is_some (elim b [ true ↦ Some x | false ↦ first_in test xs ]) ≡ (b || list_any test xs)
    by_test true e = refl
    by_test false e = e

-- the orders are those of the listed polynomials
pub order_listed : (q : ℕ) → list_any (λ order. order == q) FIELD_ORDERS.now ≡ has_field q
unfolding moduli modulus_of
order_listed q = sym (some-first_in (λ s. order s == q) moduli)
