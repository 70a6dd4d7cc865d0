-- A list without the element at a place.
use Rattle.std.proofs.Common.{List, [], ap, ap₂, append-nil, arith, drop, get_or, inl, inr, length, refl, subst, suc, sym, take, ℕ, ◌++◌, ◌+◌, ◌-◌, ◌<◌, ◌∙◌, ◌∷◌, ◌≡◌, ◌≢◌, ◌≤◌}
use Rattle.std.proofs.lemmas.List.{drop_all, take_all}
use Rattle.std.proofs.lemmas.List.Edits.{get_or-remove_above, get_or-remove_below, length-remove, remove-append_left, remove-append_right}
use Rattle.std.proofs.lemmas.List.Elements.{All-append, All-drop, All-take}
use Rattle.std.specs.Prelude.{All, remove}
use Rattle.counting.proofs.Booleans.{cases_lt}

-- an element at another place is one of those that are left
pub left_elsewhere : {X : Type 0} (P : X → Type 0) (xs : List X) (i j : ℕ) (d : X) → i < length xs → j < length xs → j ≢ i → All P (remove xs i) → P (get_or xs j d)
left_elsewhere P xs i j d l m ne all = elim (cases_lt j i) [
  | inl below ↦ subst P (get_or-remove_below xs i d j below l) (all j d (omega (arith, length-remove xs i l)))
  | inr behind ↦
      let e : j - 1 + 1 ≡ j = omega arith in
      subst P (get_or-remove_above xs i d (j - 1) (omega arith) l ∙ ap (λ n. get_or xs n d) e) (all (j - 1) d (omega (arith, length-remove xs i l)))
]

pub All-remove : {X : Type 0} (P : X → Type 0) (xs : List X) (i : ℕ) → All P xs → All P (remove xs i)
All-remove P xs i all = All-append P (take i xs) (drop (suc i) xs) (All-take P i xs all) (All-drop P (suc i) xs all)

-- no element is at the place
pub remove_past : {X : Type 0} (xs : List X) (i : ℕ) → length xs ≤ i → remove xs i ≡ xs
remove_past xs i h = ap₂ (λ ys zs. ys ++ zs) (take_all i xs h) (drop_all (suc i) xs (omega arith)) ∙ append-nil xs

-- an element appended at the place that is left out, and behind it
pub remove_here : {X : Type 0} (xs : List X) (x : X) → remove (xs ++ x ∷ []) (length xs) ≡ xs
remove_here xs x = remove-append_right xs (x ∷ []) (length xs) (length xs) refl (omega arith)
    ∙ ap (λ n. xs ++ remove (x ∷ []) n) (let e : length xs - length xs ≡ 0 = omega arith in e) ∙ append-nil xs

pub remove_elsewhere : {X : Type 0} (xs : List X) (x : X) (i : ℕ) → length xs ≢ i → remove (xs ++ x ∷ []) i ≡ remove xs i ++ x ∷ []
remove_elsewhere xs x i ne = elim (cases_lt i (length xs)) [
  | inl l ↦ remove-append_left xs (x ∷ []) i l
  | inr l ↦ remove-append_right xs (x ∷ []) (length xs) i refl l ∙ ap₂ (λ ys zs. ys ++ zs) (sym (remove_past xs i l)) (remove_past (x ∷ []) (i - length xs) (omega arith))
]
