-- Facts on truth values: those of the standard library under one roof, and the few that it has not.
use Rattle.std.proofs.Common.{Bool, false, refl, sym, true, ℕ, ◌&&◌, ◌==◌, ◌||◌, ◌≡◌, arith}
use Rattle.std.proofs.lemmas.Bool.Decides.{nat_tests}
pub use Rattle.std.proofs.lemmas.Bool.{and_from, and_parts as both, and_right, cases_Bool, cases_eq, cases_lt, cases_order, cond-false, cond-true, cond_above, cond_below, cond_both, eq-eqb, eqb-false, eqb-true, false_from_ne_true, false≢true, le-leb, le-ltb, leb-false, leb-true, lt-leb, lt-ltb, ltb-false, ltb-true, ne_eqb, not-false, not-true, not_from_false, not_from_true, or_cases, or_from, or_left, or_parts, or_right}

pub or_true : (p : Bool) → (p || true) ≡ true
or_true true = refl
or_true false = refl

pub or_false : (p : Bool) → (p || false) ≡ p
or_false true = refl
or_false false = refl

pub and_true : (p : Bool) → (p && true) ≡ p
and_true true = refl
and_true false = refl

pub and_turn : (p q : Bool) → (p && q) ≡ (q && p)
and_turn true true = refl
and_turn true false = refl
and_turn false true = refl
and_turn false false = refl

pub and_swap : (p q r s : Bool) → ((p && q) && (r && s)) ≡ ((p && r) && (q && s))
and_swap true true r s = refl
and_swap true false true s = refl
and_swap true false false s = refl
and_swap false q r s = refl

pub or_turn : (p q r : Bool) → (p || (q || r)) ≡ (q || (p || r))
or_turn true true r = refl
or_turn true false r = refl
or_turn false true r = refl
or_turn false false r = refl

-- truth values that imply each other are one
pub bool_same : (p q : Bool) → (p ≡ true → q ≡ true) → (q ≡ true → p ≡ true) → p ≡ q
bool_same true q f g = sym (f refl)
bool_same false true f g = g refl
bool_same false false f g = refl

-- two tests of equal numbers at once
pub both_equal : (x y a b : ℕ) → ((x == a) && (y == b)) ≡ true → (x ≡ a) × (y ≡ b)
both_equal x y a b h = grind (arith, nat_tests)

pub both_equal-from : (x y a b : ℕ) → x ≡ a → y ≡ b → ((x == a) && (y == b)) ≡ true
both_equal-from x y a b e f = grind (arith, nat_tests)

pub eqb-turn : (x y : ℕ) → (x == y) ≡ (y == x)
eqb-turn x y = bool_same _ _ (λ e. eq-eqb y x (sym (eqb-true x y e))) (λ e. eq-eqb x y (sym (eqb-true y x e)))
