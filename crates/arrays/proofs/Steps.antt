-- What the loops step by.
use Rattle.std.proofs.Common.{List, [], ap, ap₂, arith, sym, ℕ, ◌*◌, ◌++◌, ◌+◌, ◌∙◌, ◌∷◌, ◌≡◌}
use Rattle.std.proofs.lemmas.List.{append-nil, append_assoc}
use Rattle.std.proofs.lemmas.Nat.{mul-add-lt}
use Rattle.std.proofs.lemmas.Option.{get_or_from_slice_get}
use Rattle.counting.proofs.Counts.{join_below_more, join_below_none}
use Rattle.counting.proofs.Ranges.{length-list_below}
use Rattle.counting.specs.Sums.{list_below}

module _ {X : Type 0} (old : List X) where
  -- a list to which f 0, f 1, .. are pushed
  pub pushed_none : (f : ℕ → X) → old ≡ old ++ list_below 0 f
  pushed_none f = sym (append-nil old) ∙ ap (λ xs. old ++ xs) (sym (join_below_none (λ i. f i ∷ [])))

  pub pushed_more : (f : ℕ → X) (n : ℕ) (before now : List X) (x : X) → now ≡ before ++ x ∷ [] → before ≡ old ++ list_below n f → x ≡ f n → now ≡ old ++ list_below (n + 1) f
  pushed_more f n before now x e g h = e ∙ ap₂ (λ xs y. xs ++ y ∷ []) g h ∙ append_assoc old (list_below n f) (f n ∷ []) ∙ ap (λ xs. old ++ xs) (sym (join_below_more n (λ i. f i ∷ [])))

-- the size that goes with it
pub size_none : (old w : ℕ) → old ≡ old + 0 * w
size_none old w = omega arith

pub ruleset steps = (join_below_more, join_below_none, length-list_below, get_or_from_slice_get, mul-add-lt)
