-- Lists over the numbers below a bound.
use Rattle.std.proofs.Common.{List, [], ap, ap₂, arith, get_or, inl, inr, length, refl, suc, sym, zero, ℕ, ◌++◌, ◌<◌, ◌∙◌, ◌∷◌, ◌≡◌}
use Rattle.counting.proofs.Booleans.{cases_eq}
use Rattle.std.proofs.lemmas.List.{get_or_append_left, get_or_push, length_push}
use Rattle.std.proofs.lemmas.List.Elements.{All-append, All-nil}
use Rattle.std.specs.List.{AllByRecursion}
use Rattle.std.specs.Prelude.{All}
use Rattle.counting.proofs.Lists.{each-push}
use Rattle.counting.specs.Sums.{join_below, list_below}

pub All-join_below : {X : Type 0} (P : X → Type 0) (n : ℕ) (f : ℕ → List X) → ((i : ℕ) → i < n → All P (f i)) → All P (join_below n f)
unfolding join_below
All-join_below P zero f h = All-nil P
All-join_below P (suc n) f h = All-append P (join_below n f) (f n) (All-join_below P n f (λ i l. h i (omega arith))) (h n (omega arith))

pub each_below : {X : Type 0} (P : X → Type 0) (n : ℕ) (f : ℕ → X) → ((i : ℕ) → i < n → P (f i)) → AllByRecursion P (list_below n f)
unfolding join_below
each_below P zero f h = tt
each_below P (suc n) f h = each-push P (list_below n f) (f n) (each_below P n f (λ i l. h i (omega arith))) (h n (omega arith))

pub length-list_below : {X : Type 0} (n : ℕ) (f : ℕ → X) → length (list_below n f) ≡ n
unfolding join_below
length-list_below zero f = refl
length-list_below (suc n) f = omega (arith, length_push (list_below n f) (f n), length-list_below n f)

pub get_or-list_below : {X : Type 0} (n : ℕ) (f : ℕ → X) (i : ℕ) (d : X) → i < n → get_or (list_below n f) i d ≡ f i
unfolding join_below
get_or-list_below zero f i d l = absurd (omega arith)
get_or-list_below (suc n) f i d l = elim (cases_eq i n) [
  | inl e ↦ get_or_push (list_below n f) (f n) d i (length-list_below n f ∙ sym e) ∙ ap f (sym e)
  | inr ne ↦ get_or_append_left (list_below n f) (f n ∷ []) d i (omega (arith, length-list_below n f)) ∙ get_or-list_below n f i d (omega arith)
]

-- lists that agree piece by piece
pub join_below-same : {X : Type 0} (n : ℕ) (f g : ℕ → List X) → ((i : ℕ) → i < n → f i ≡ g i) → join_below n f ≡ join_below n g
unfolding join_below
join_below-same zero f g h = refl
join_below-same (suc n) f g h = ap₂ (λ xs ys. xs ++ ys) (join_below-same n f g (λ i l. h i (omega arith))) (h n (omega arith))
