-- Kept lists.
use Rattle.std.proofs.Common.{◌≡◌, ◌≢◌, ℕ, zero, suc, ◌+◌, ◌-◌, ◌<◌, ◌≤◌, Bool, true, false, ◌||◌, List, [], ◌∷◌, ◌++◌, arith, refl, ap, sym, ◌∙◌, length, get_or}
use Rattle.std.specs.Prelude.{slice_index_or, nat_eq, Option, Some, None, All}
use Rattle.counting.specs.Search.{is_among}
use Rattle.derivations.specs.Derivations.{used_twice, lists_named}
use Rattle.derivations.specs.Kept.{IsKept, kept_list, kept_lists}
use Rattle.std.proofs.lemmas.Bool.Decides.{nat_tests}
use Rattle.derivations.proofs.Marking.{among_cons}

-- of the lists of the first lines, those are kept that no number among `named` names
pub record Kept (lists : List (List (List ℕ))) (named : List ℕ) (kept : List (Option (List (List ℕ)))) : Type 0 where
  pub size : length kept ≡ length lists
  pub held : (j : ℕ) → j < length lists → is_among (j + 1) named ≡ false → slice_index_or kept j None ≡ Some (slice_index_or lists j [])

either : (a b : Bool) → (a || b) ≡ false → (a ≡ false) × (b ≡ false)
either true b e = cc
either false b e = (refl, e)

not_used : (x : ℕ) (named xs : List ℕ) → used_twice named (x ∷ xs) ≡ false → (is_among x named ≡ false) × (used_twice (x ∷ named) xs ≡ false)
unfolding used_twice
not_used x named xs e = either (is_among x named) (used_twice (x ∷ named) xs) e

not_among : (x j : ℕ) (xs : List ℕ) → is_among j (x ∷ xs) ≡ false → (nat_eq j x ≡ false) × (is_among j xs ≡ false)
not_among x j xs e = either (nat_eq j x) (is_among j xs) (sym (among_cons j x xs) ∙ e)

-- numbers that are used once were not named before
once_new : (named xs : List ℕ) → used_twice named xs ≡ false → All (λ i. is_among i named ≡ false) xs
once_new named [] e zero d h = absurd (omega arith)
once_new named [] e (suc k) d h = absurd (omega arith)
once_new named (x ∷ xs) e zero d h = (not_used x named xs e).0
once_new named (x ∷ xs) e (suc k) d h = (not_among x (get_or xs k d) named (once_new (x ∷ named) xs (not_used x named xs e).1 k d (omega arith))).1

unequal : {x j : ℕ} → j ≡ x → nat_eq j x ≡ false → ⊥
unequal e f = grind (arith, nat_tests)

-- a number that is in neither list
in_neither : (j : ℕ) (xs named : List ℕ) → is_among j (xs ++ named) ≡ false → All (λ i. i ≢ j) xs × (is_among j named ≡ false)
in_neither j [] named e = (λ k d h. absurd (omega arith), e)
in_neither j (x ∷ xs) named e =
    let t = not_among x j (xs ++ named) e in
    let rest = in_neither j xs named t.1 in
    (other t.0 rest.0, rest.1)
  where
    other : nat_eq j x ≡ false → All (λ i. i ≢ j) xs → All (λ i. i ≢ j) (x ∷ xs)
    other e all zero d h = λ same. unequal (sym same) e
    other e all (suc k) d h = all k d (omega arith)

list_in : Option (List (List ℕ)) → List (List ℕ)
list_in o = elim o [ Some B ↦ B | None ↦ [] ]

module _ (lists : List (List (List ℕ))) (named from : List ℕ) (kept : List (Option (List (List ℕ)))) (k : Kept lists named kept) (once : used_twice named from ≡ false)
    (each : All (λ j. (0 < j) × (j ≤ length kept)) from) where
  found : (i : ℕ) → (0 < i) × (i ≤ length kept) → is_among i named ≡ false → slice_index_or kept (i - 1) None ≡ Some (slice_index_or lists (i - 1) [])
  found i w n = let e : i - 1 + 1 ≡ i = omega (arith, w.0) in k.held (i - 1) (omega (arith, w.0, w.1, k.size)) (ap (λ x. is_among x named) e ∙ n)

  -- the lists that numbers name which were not named before
  pub are_kept : All (IsKept kept) from
  are_kept i d h =
      let w = each i d h in
      record { number = w.0; within = w.1; list = slice_index_or lists (get_or from i d - 1) []; there = found (get_or from i d) w (once_new named from once i d h) }

  pub kept_are : kept_lists kept from ≡ lists_named lists from
  unfolding list_in
  kept_are = same from each (once_new named from once)
    where
      same : (xs : List ℕ) → All (λ j. (0 < j) × (j ≤ length kept)) xs → All (λ i. is_among i named ≡ false) xs → kept_lists kept xs ≡ lists_named lists xs
      same [] a n = refl
      same (x ∷ xs) a n =
          let e : kept_list kept x ≡ slice_index_or lists (x - 1) [] = ap list_in (found x (a 0 0 (omega arith)) (n 0 0 (omega arith))) in
          cc (e, same xs (λ k d h. a (suc k) d (omega arith)) (λ k d h. n (suc k) d (omega arith)))

-- and they are let go
pub others_kept : (lists : List (List (List ℕ))) (named from : List ℕ) (kept kept' : List (Option (List (List ℕ)))) → Kept lists named kept → length kept' ≡ length kept
    → ((j : ℕ) → All (λ i. i ≢ j + 1) from → slice_index_or kept' j None ≡ slice_index_or kept j None) → Kept lists (from ++ named) kept'
others_kept lists named from kept kept' k n same = record {
  size = n ∙ k.size;
  held = λ j h e. let t = in_neither (j + 1) from named e in same j t.0 ∙ k.held j h t.1;
}
