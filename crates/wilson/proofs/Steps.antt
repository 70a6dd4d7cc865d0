-- The steps of the loops that write rows: what there is before the first, and what one more adds.
use Rattle.std.proofs.Common.{List, Some, [], ap, ap₂, arith, drop, get_or, inl, inr, length, map, refl, slice_set, suc, zero, subst, sym, take, ℕ, ◌*◌, ◌++◌, ◌+◌, ◌-◌, ◌<◌, ◌∙◌, ◌∷◌, ◌≡◌, ◌≢◌, ◌≤◌}
use Rattle.std.proofs.lemmas.List.{append-nil, append_assoc, length-map, length-take-le, map-append, take_all, take_more}
use Rattle.std.proofs.lemmas.List.Edits.{length-remove, remove-append_left}
use Rattle.counting.proofs.Booleans.{cases_lt, cond_above, cond_below}
use Rattle.std.specs.List.{flat_map, remove}
use Rattle.std.proofs.lemmas.Option.{get_or_from_slice_get}
use Rattle.std.specs.Prelude.{slice_get}
use Rattle.counting.specs.Sums.{join_below}
use Rattle.design_base.specs.Arrays.{IsRow, blocks_of_rows}
use Rattle.incidence.proofs.RowsAndBlocks.{blocks_of_no_rows, blocks_of_rows_append, blocks_of_rows_next, front_next}
use Rattle.transversal.specs.Constructions.{raised}
use Rattle.wilson.specs.Holes.{holed, renumbered, renumbered_row, renumbered_row_twice, renumbered_twice}
use Rattle.wilson.specs.Truncations.{fill_one, fill_two, filled, filled_row, filled_rows, one_truncated_rows, two_truncated_rows}

-- ---- entries written one after another

-- renumbered rows and filled rows
pub renumbered_row_none : (m : ℕ) (f r : List ℕ) → renumbered_row 0 m f r ≡ []
unfolding renumbered_row join_below
renumbered_row_none m f r = refl

pub renumbered_row_next : (m : ℕ) (f r new : List ℕ) (j x : ℕ) → j < length new → take j new ≡ renumbered_row j m f r → x ≡ renumbered m (get_or f j 0) (get_or r j 0) →
    take (j + 1) (slice_set new j x) ≡ renumbered_row (j + 1) m f r
unfolding renumbered_row
renumbered_row_next m f r new j x l e is = front_next (λ j. renumbered m (get_or f j 0) (get_or r j 0)) new j x l e is

pub renumbered_row_twice_none : (m : ℕ) (f e r : List ℕ) → renumbered_row_twice 0 m f e r ≡ []
unfolding renumbered_row_twice join_below
renumbered_row_twice_none m f e r = refl

pub renumbered_row_twice_next : (m : ℕ) (f e r new : List ℕ) (j x : ℕ) → j < length new → take j new ≡ renumbered_row_twice j m f e r → x ≡ renumbered_twice m (get_or f j 0) (get_or e j 0) (get_or r j 0) →
    take (j + 1) (slice_set new j x) ≡ renumbered_row_twice (j + 1) m f e r
unfolding renumbered_row_twice
renumbered_row_twice_next m f e r new j x l front is = front_next (λ j. renumbered_twice m (get_or f j 0) (get_or e j 0) (get_or r j 0)) new j x l front is

pub filled_row_none : (m : ℕ) (infinite a r : List ℕ) → filled_row 0 m infinite a r ≡ []
unfolding filled_row join_below
filled_row_none m infinite a r = refl

pub filled_row_next : (m : ℕ) (infinite a r new : List ℕ) (j x : ℕ) → j < length new → take j new ≡ filled_row j m infinite a r → x ≡ filled m infinite (get_or a j 0) (get_or r j 0) →
    take (j + 1) (slice_set new j x) ≡ filled_row (j + 1) m infinite a r
unfolding filled_row
filled_row_next m infinite a r new j x l e is = front_next (λ j. filled m infinite (get_or a j 0) (get_or r j 0)) new j x l e is

-- when all entries are written
pub row_from_front : (k n j : ℕ) (f : ℕ → List ℕ) (entries : List ℕ) → j ≤ k → k ≤ j → take j entries ≡ f j → IsRow k n (f k) → IsRow k n (take k entries)
row_from_front k n j f entries low high is row = let done : j ≡ k = omega arith in subst (IsRow k n) (sym (subst (λ j. take j entries ≡ f j) done is)) row

-- ---- rows written one after another

-- an array without its first row, as far as place i
pub holed_none : (k m : ℕ) (R : List (List ℕ)) → holed k m (take 1 R) ≡ []
unfolding holed
holed_none k m [] = refl
holed_none k m (r ∷ R) = refl

pub holed_more : (k m : ℕ) (R : List (List ℕ)) (i : ℕ) → 1 ≤ i → i < length R → holed k m (take (i + 1) R) ≡ holed k m (take i R) ++ renumbered_row k m (get_or R 0 []) (get_or R i []) ∷ []
unfolding holed
holed_more k m R zero some l = absurd (omega arith)
holed_more k m [] (suc i) some l = absurd (omega arith)
holed_more k m (r ∷ R) (suc i) some l = ap (holed k m) (take_more (r ∷ R) (suc i) [] l) ∙ map-append (renumbered_row k m r) (take i R) (get_or R i [] ∷ [])

pub holed_next : (k m : ℕ) (R : List (List ℕ)) (i : ℕ) (f r : List ℕ) (S : List (List ℕ)) → 1 ≤ i → i < length R → slice_get R 0 ≡ Some f → slice_get R i ≡ Some r → S ≡ holed k m (take i R) →
    S ++ renumbered_row k m f r ∷ [] ≡ holed k m (take (i + 1) R)
holed_next k m R i f r S some l e h is = ap₂ (λ xs row. xs ++ row ∷ []) is (ap₂ (renumbered_row k m) (sym (get_or_from_slice_get R 0 f [] e)) (sym (get_or_from_slice_get R i r [] h))) ∙ sym (holed_more k m R i some l)

pub holed_all : (k m : ℕ) (R : List (List ℕ)) (i : ℕ) → length R ≤ i → holed k m (take i R) ≡ holed k m R
holed_all k m R i l = ap (holed k m) (take_all i R l)

-- an array without its first row and without that of place e, as far as place i
remove_none : (xs : List (List ℕ)) (e : ℕ) → length xs ≤ e → remove xs e ≡ xs
remove_none [] zero l = refl
remove_none [] (suc e) l = refl
remove_none (x ∷ xs) zero l = absurd (omega arith)
remove_none (x ∷ xs) (suc e) l = ap (λ ys. x ∷ ys) (remove_none xs e (omega arith))

remove_last : (xs : List (List ℕ)) (x : List ℕ) (e : ℕ) → length xs ≡ e → remove (xs ++ x ∷ []) e ≡ xs
remove_last [] x zero l = refl
remove_last [] x (suc e) l = absurd (omega arith)
remove_last (y ∷ xs) x zero l = absurd (omega arith)
remove_last (y ∷ xs) x (suc e) l = ap (λ ys. y ∷ ys) (remove_last xs x e (omega arith))

drop_one : (xs ys : List (List ℕ)) → 0 < length xs → drop 1 (xs ++ ys) ≡ drop 1 xs ++ ys
drop_one [] ys l = absurd (omega arith)
drop_one (x ∷ xs) ys l = refl

-- the rows of the places 1, 2, .. below i but e
pub others : ℕ → List (List ℕ) → ℕ → List (List ℕ)
others e R i = drop 1 (remove (take i R) e)

module _ (R : List (List ℕ)) (e i : ℕ) (second : 1 ≤ e) (some : 1 ≤ i) (l : i < length R) where
  length-front : length (take i R) ≡ i
  length-front = length-take-le i R (omega arith)

  others_skip : i ≡ e → others e R (i + 1) ≡ others e R i
  unfolding others
  others_skip same = ap (λ xs. drop 1 (remove xs e)) (take_more R i [] l)
      ∙ ap (drop 1) (remove_last (take i R) (get_or R i []) e (omega (arith, length-front)) ∙ sym (remove_none (take i R) e (omega (arith, length-front))))

  others_more : i ≢ e → others e R (i + 1) ≡ others e R i ++ get_or R i [] ∷ []
  unfolding others
  others_more ne = elim (cases_lt e i) [
    | inl b ↦ ap (λ xs. drop 1 (remove xs e)) (take_more R i [] l)
        ∙ ap (drop 1) (remove-append_left (take i R) (get_or R i [] ∷ []) e (omega (arith, length-front)))
        ∙ drop_one (remove (take i R) e) (get_or R i [] ∷ []) (omega (arith, length-remove (take i R) e (omega (arith, length-front)), length-front))
    | inr b ↦ ap (drop 1) (remove_none (take (i + 1) R) e (omega (arith, length-next)) ∙ take_more R i [] l)
        ∙ drop_one (take i R) (get_or R i [] ∷ []) (omega (arith, length-front))
        ∙ ap (λ xs. drop 1 xs ++ get_or R i [] ∷ []) (sym (remove_none (take i R) e (omega (arith, length-front))))
  ]
    where
      length-next : length (take (i + 1) R) ≡ i + 1
      length-next = length-take-le (i + 1) R (omega arith)

others_none : (R : List (List ℕ)) (e : ℕ) → 1 ≤ e → others e R 1 ≡ []
unfolding others
others_none R zero l = absurd (omega arith)
others_none [] (suc e) l = refl
others_none (r ∷ R) (suc e) l = ap (drop 1) (remove_none (r ∷ []) (suc e) (omega arith))

-- the rows of these places, renumbered
pub others_renumbered : ℕ → ℕ → ℕ → List (List ℕ) → ℕ → List (List ℕ)
others_renumbered k m e R i = map (renumbered_row_twice k m (get_or R 0 []) (get_or R e [])) (others e R i)

pub others_renumbered_none : (k m e : ℕ) (R : List (List ℕ)) → 1 ≤ e → others_renumbered k m e R 1 ≡ []
unfolding others_renumbered
others_renumbered_none k m e R l = ap (map (renumbered_row_twice k m (get_or R 0 []) (get_or R e []))) (others_none R e l)

pub others_renumbered_skip : (k m e i : ℕ) (R : List (List ℕ)) → 1 ≤ e → 1 ≤ i → i < length R → i ≡ e → others_renumbered k m e R (i + 1) ≡ others_renumbered k m e R i
unfolding others_renumbered
others_renumbered_skip k m e i R second some l same = ap (map (renumbered_row_twice k m (get_or R 0 []) (get_or R e []))) (others_skip R e i second some l same)

pub others_renumbered_more : (k m e i : ℕ) (R : List (List ℕ)) → 1 ≤ e → 1 ≤ i → i < length R → i ≢ e →
    others_renumbered k m e R (i + 1) ≡ others_renumbered k m e R i ++ renumbered_row_twice k m (get_or R 0 []) (get_or R e []) (get_or R i []) ∷ []
unfolding others_renumbered
others_renumbered_more k m e i R second some l ne = ap (map (renumbered_row_twice k m (get_or R 0 []) (get_or R e []))) (others_more R e i second some l ne)
    ∙ map-append (renumbered_row_twice k m (get_or R 0 []) (get_or R e [])) (others e R i) (get_or R i [] ∷ [])

pub others_renumbered_next : (k m e i : ℕ) (R : List (List ℕ)) (f d r : List ℕ) (S : List (List ℕ)) → 1 ≤ e → 1 ≤ i → i < length R → i ≢ e →
    slice_get R 0 ≡ Some f → slice_get R e ≡ Some d → slice_get R i ≡ Some r → S ≡ others_renumbered k m e R i → S ++ renumbered_row_twice k m f d r ∷ [] ≡ others_renumbered k m e R (i + 1)
others_renumbered_next k m e i R f d r S second some l ne is_f is_d is_r is =
    ap₂ (λ xs row. xs ++ row ∷ []) is (ap₂ (λ f d. renumbered_row_twice k m f d r) (sym (get_or_from_slice_get R 0 f [] is_f)) (sym (get_or_from_slice_get R e d [] is_d))
    ∙ ap (renumbered_row_twice k m (get_or R 0 []) (get_or R e [])) (sym (get_or_from_slice_get R i r [] is_r)))
    ∙ sym (others_renumbered_more k m e i R second some l ne)

pub others_renumbered_all : (k m e i : ℕ) (R : List (List ℕ)) → length R ≤ i → others_renumbered k m e R i ≡ map (renumbered_row_twice k m (get_or R 0 []) (get_or R e [])) (drop 1 (remove R e))
unfolding others_renumbered others
others_renumbered_all k m e i R l = ap (λ xs. map (renumbered_row_twice k m (get_or R 0 []) (get_or R e [])) (drop 1 (remove xs e))) (take_all i R l)

-- ---- blocks of rows written one after another
pub filled_rows_none : (k m : ℕ) (infinite a : List ℕ) → filled_rows k m infinite a [] ≡ []
unfolding filled_rows
filled_rows_none k m infinite a = refl

pub blocks_of_filled_next : (k n m : ℕ) (infinite a row : List ℕ) (rest : List (List ℕ)) →
    blocks_of_rows k n (filled_rows k m infinite a (row ∷ rest)) ≡ blocks_of_rows k n (filled_row k m infinite a row ∷ []) ++ blocks_of_rows k n (filled_rows k m infinite a rest)
unfolding filled_rows
blocks_of_filled_next k n m infinite a row rest = blocks_of_rows_next k n (filled_row k m infinite a row) (map (filled_row k m infinite a) rest)

pub blocks_of_fills_next : (k n : ℕ) (f : List ℕ → List (List ℕ)) (row : List ℕ) (rest : List (List ℕ)) →
    blocks_of_rows k n (flat_map f (row ∷ rest)) ≡ blocks_of_rows k n (f row) ++ blocks_of_rows k n (flat_map f rest)
blocks_of_fills_next k n f row rest = blocks_of_rows_append k n (f row) (flat_map f rest)

pub filled_rows_length : (k m : ℕ) (infinite a : List ℕ) (R : List (List ℕ)) → length (filled_rows k m infinite a R) ≡ length R
unfolding filled_rows
filled_rows_length k m infinite a R = length-map R (filled_row k m infinite a)

-- the rows of one master row
pub fill_one_kept : (k m t u : ℕ) (A E : List (List ℕ)) (a : List ℕ) → get_or a k 0 < u → fill_one k m t u A E a ≡ filled_rows k m ((m * t + get_or a k 0) ∷ []) a E
unfolding fill_one
fill_one_kept k m t u A E a l = sym (cond_below (get_or a k 0) u _ _ l)

pub fill_one_dropped : (k m t u : ℕ) (A E : List (List ℕ)) (a : List ℕ) → u ≤ get_or a k 0 → fill_one k m t u A E a ≡ filled_rows k m [] a A
unfolding fill_one
fill_one_dropped k m t u A E a l = sym (cond_above (get_or a k 0) u _ _ _ l refl)

pub fill_two_both : (k m t u w : ℕ) (A E F : List (List ℕ)) (a : List ℕ) → get_or a k 0 < u → get_or a (k + 1) 0 < w →
    fill_two k m t u w A E F a ≡ filled_rows k m ((m * t + get_or a k 0) ∷ (m * t + u + get_or a (k + 1) 0) ∷ []) a F
unfolding fill_two
fill_two_both k m t u w A E F a l h = sym (cond_below (get_or a (k + 1) 0) w _ _ h ∙ cond_below (get_or a k 0) u _ _ l)

pub fill_two_first : (k m t u w : ℕ) (A E F : List (List ℕ)) (a : List ℕ) → get_or a k 0 < u → w ≤ get_or a (k + 1) 0 →
    fill_two k m t u w A E F a ≡ filled_rows k m ((m * t + get_or a k 0) ∷ []) a E
unfolding fill_two
fill_two_first k m t u w A E F a l h = sym (cond_above (get_or a (k + 1) 0) w _ _ _ h refl ∙ cond_below (get_or a k 0) u _ _ l)

pub fill_two_second : (k m t u w : ℕ) (A E F : List (List ℕ)) (a : List ℕ) → u ≤ get_or a k 0 → get_or a (k + 1) 0 < w →
    fill_two k m t u w A E F a ≡ filled_rows k m ((m * t + u + get_or a (k + 1) 0) ∷ []) a E
unfolding fill_two
fill_two_second k m t u w A E F a l h = sym (cond_below (get_or a (k + 1) 0) w _ _ h ∙ cond_above (get_or a k 0) u _ _ _ l refl)

pub fill_two_none : (k m t u w : ℕ) (A E F : List (List ℕ)) (a : List ℕ) → u ≤ get_or a k 0 → w ≤ get_or a (k + 1) 0 → fill_two k m t u w A E F a ≡ filled_rows k m [] a A
unfolding fill_two
fill_two_none k m t u w A E F a l h = sym (cond_above (get_or a (k + 1) 0) w _ _ _ h refl ∙ cond_above (get_or a k 0) u _ _ _ l refl)

pub blocks_of_one_truncated : (k n m t u : ℕ) (M A H U : List (List ℕ)) →
    blocks_of_rows k n (one_truncated_rows k m t u M A H U) ≡ blocks_of_rows k n (flat_map (fill_one k m t u A H) M) ++ blocks_of_rows k n (raised (m * t) U)
unfolding one_truncated_rows
blocks_of_one_truncated k n m t u M A H U = blocks_of_rows_append k n (flat_map (fill_one k m t u A H) M) (raised (m * t) U)

pub blocks_of_two_truncated : (k n m t u w : ℕ) (M A H G U W : List (List ℕ)) → blocks_of_rows k n (two_truncated_rows k m t u w M A H G U W)
    ≡ blocks_of_rows k n (flat_map (fill_two k m t u w A H G) M) ++ (blocks_of_rows k n (raised (m * t) U) ++ blocks_of_rows k n (raised (m * t + u) W))
unfolding two_truncated_rows
blocks_of_two_truncated k n m t u w M A H G U W = blocks_of_rows_append k n (flat_map (fill_two k m t u w A H G) M) (raised (m * t) U ++ raised (m * t + u) W)
    ∙ ap (λ xs. blocks_of_rows k n (flat_map (fill_two k m t u w A H G) M) ++ xs) (blocks_of_rows_append k n (raised (m * t) U) (raised (m * t + u) W))

pub ruleset steps = (append-nil, append_assoc, filled_rows_none, blocks_of_no_rows, blocks_of_filled_next, blocks_of_fills_next, blocks_of_one_truncated, blocks_of_two_truncated)
