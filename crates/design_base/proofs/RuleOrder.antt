-- Walks through the rules in the order of their numbers.
use Rattle.std.proofs.Common.{◌≡◌, ◌<◌, ◌+◌, ◌∙◌, ℕ, Bool, true, false, List, ◌∷◌, Some, drop, length, map, find, get_or, ap, sym, subst, arith}
use Rattle.std.proofs.lemmas.List.{drop_more, get_or-map, length-map}

-- place i of a list whose elements are seen by f
pub drop_mapped : {X Y : Type 0} (f : X → Y) (xs : List X) (i : ℕ) (x : X) (y : Y) → i < length xs → drop i (map f xs) ≡ f (get_or xs i x) ∷ drop (i + 1) (map f xs)
drop_mapped f xs i x y h = drop_more (map f xs) i y (subst (λ n. i < n) (sym (length-map xs f)) h) ∙ ap (λ z. z ∷ drop (i + 1) (map f xs)) (get_or-map f xs i x y h)

module _ {X : Type 0} (test : X → Bool) (whole xs rest : List X) (x : X) (reached : find test whole ≡ find test xs) (next : xs ≡ x ∷ rest) where
  -- one step of a search
  pub find_more : test x ≡ false → find test whole ≡ find test rest
  find_more e = grind (arith, e, reached, next)

  pub find_found : test x ≡ true → find test whole ≡ Some x
  find_found e = grind (arith, e, reached, next)
