-- Rows up to the first short one.
use Rattle.std.proofs.Common.{◌≡◌, ℕ, suc, zero, ◌+◌, ◌<◌, Bool, true, false, ◌||◌, ◌⊎◌, inl, inr, List, [], ◌∷◌, ◌++◌, length, Some, slice_get, refl, ap, sym, subst, ◌∙◌, arith}
use Rattle.std.specs.Prelude.{if◌then◌else◌, nat_lt}
use Rattle.std.specs.List.{list_any}
use Rattle.std.proofs.lemmas.List.{append-nil}
use Rattle.block_texts.specs.BlockLines.{with_row}
use Rattle.block_texts.specs.BlockText.{BlockText, bad_line, behind, blocks, shortened, until_short}

module _ (least : ℕ) where
  abbrev pub is_short : List ℕ → Bool
  is_short row = nat_lt (length row) least

  -- what stands behind a short row is not kept
  behind_short : (rows more : List (List ℕ)) → list_any is_short rows ≡ true → until_short least (rows ++ more) ≡ until_short least rows
  unfolding until_short
  behind_short [] more short = cc
  behind_short (row ∷ rows) more short = of (is_short row) (behind_short rows more) short
    where
      of : (s : Bool) → (list_any is_short rows ≡ true → until_short least (rows ++ more) ≡ until_short least rows) → (s || list_any is_short rows) ≡ true
          → (if s then row ∷ [] else row ∷ until_short least (rows ++ more)) ≡ (if s then row ∷ [] else row ∷ until_short least rows)
      of true rest h = refl
      of false rest h = ap (λ r. row ∷ r) (rest h)

  -- rows of which none is short stay
  behind_long : (rows more : List (List ℕ)) → list_any is_short rows ≡ false → until_short least (rows ++ more) ≡ rows ++ until_short least more
  unfolding until_short
  behind_long [] more long = refl
  behind_long (row ∷ rows) more long = of (is_short row) (behind_long rows more) long
    where
      of : (s : Bool) → (list_any is_short rows ≡ false → until_short least (rows ++ more) ≡ rows ++ until_short least more) → (s || list_any is_short rows) ≡ false
          → (if s then row ∷ [] else row ∷ until_short least (rows ++ more)) ≡ row ∷ rows ++ until_short least more
      of true rest h = cc
      of false rest h = ap (λ r. row ∷ r) (rest h)

  pub none_short : (rows : List (List ℕ)) → list_any is_short rows ≡ false → until_short least rows ≡ rows
  unfolding until_short
  none_short rows long = ap (until_short least) (sym (append-nil rows)) ∙ behind_long rows [] long ∙ append-nil rows

  until_twice : (rows more : List (List ℕ)) → until_short least (until_short least rows ++ more) ≡ until_short least (rows ++ more)
  unfolding until_short
  until_twice [] more = refl
  until_twice (row ∷ rows) more = of (is_short row) refl (until_twice rows more)
    where
      of : (s : Bool) → s ≡ is_short row → until_short least (until_short least rows ++ more) ≡ until_short least (rows ++ more)
          → until_short least ((if s then row ∷ [] else row ∷ until_short least rows) ++ more) ≡ (if s then row ∷ [] else row ∷ until_short least (rows ++ more))
      of true is rest = rw (← is) refl
      of false is rest = rw (← is) (ap (λ r. row ∷ r) rest)

  -- only the last row can be short
  pub last_of_rows : (rows : List (List ℕ)) (i : ℕ) (row : List ℕ) → until_short least rows ≡ rows → i + 1 ≡ length rows → slice_get rows i ≡ Some row → list_any is_short rows ≡ is_short row
  unfolding until_short
  last_of_rows [] i row kept last at = cc
  last_of_rows (r ∷ []) zero row kept last at = let same : r ≡ row = cc in of (is_short r) (ap is_short same)
    where
      of : (s : Bool) → s ≡ is_short row → (s || false) ≡ is_short row
      of true e = e
      of false e = e
  last_of_rows (r ∷ []) (suc i) row kept last at = cc
  last_of_rows (r ∷ s ∷ rows) zero row kept last at = absurd (omega (arith, last))
  last_of_rows (r ∷ s ∷ rows) (suc i) row kept last at = let before : i + 1 ≡ length (s ∷ rows) = omega (arith, last) in of (is_short r) (λ e. last_of_rows (s ∷ rows) i row e before at) kept
    where
      of : (short : Bool) → (until_short least (s ∷ rows) ≡ s ∷ rows → list_any is_short (s ∷ rows) ≡ is_short row)
          → (if short then r ∷ [] else r ∷ until_short least (s ∷ rows)) ≡ r ∷ s ∷ rows → (short || list_any is_short (s ∷ rows)) ≡ is_short row
      of true rest e = cc
      of false rest e = rest cc

  -- no row comes of a blank line, nor behind a short row
  pub row_not_kept : (rows : List (List ℕ)) (row : List ℕ) → until_short least rows ≡ rows → (length row ≡ 0) ⊎ (list_any is_short rows ≡ true) → rows ≡ until_short least (with_row rows row)
  row_not_kept rows [] kept why = sym kept
  row_not_kept rows (x ∷ row) kept (inl none) = absurd (omega (arith, none))
  row_not_kept rows (x ∷ row) kept (inr short) = sym (behind_short rows ((x ∷ row) ∷ []) short ∙ kept)

  -- another one is
  pub row_kept : (rows : List (List ℕ)) (row : List ℕ) → 0 < length row → list_any is_short rows ≡ false → rows ++ row ∷ [] ≡ until_short least (with_row rows row)
  unfolding until_short
  row_kept rows [] some long = absurd (omega (arith, some))
  row_kept rows (x ∷ row) some long = sym (behind_long rows ((x ∷ row) ∷ []) long ∙ ap (λ more. rows ++ more) (one (is_short (x ∷ row))))
    where
      one : (s : Bool) → (if s then (x ∷ row) ∷ [] else (x ∷ row) ∷ []) ≡ (x ∷ row) ∷ []
      one true = refl
      one false = refl

  -- rows that were shortened are so
  pub stays_short : (rows all : List (List ℕ)) → rows ≡ until_short least all → until_short least rows ≡ rows
  stays_short rows all is = subst (λ kept. until_short least kept ≡ kept) (sym is) (ap (until_short least) (sym (append-nil (until_short least all))) ∙ until_twice all [] ∙ ap (until_short least) (append-nil all))

  -- rows in front are shortened first
  pub shortened-behind : (rows : List (List ℕ)) (text : BlockText) → shortened least (behind (until_short least rows) text) ≡ shortened least (behind rows text)
  shortened-behind rows (bad_line place) = refl
  shortened-behind rows (blocks more) = ap blocks (until_twice rows more)

  -- what is bad was bad before
  pub bad_before : (text : BlockText) (place : ℕ) → shortened least text ≡ bad_line place → text ≡ bad_line place
  bad_before (bad_line at) place is = is
  bad_before (blocks rows) place is = cc
