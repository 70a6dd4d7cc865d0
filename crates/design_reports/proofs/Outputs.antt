-- The bytes of reports.
use Rattle.std.proofs.Common.{◌≡◌, ℕ, zero, suc, ◌+◌, ◌-◌, ◌<◌, ◌≤◌, List, [], ◌∷◌, ◌++◌, append-nil, append_assoc, arith, inl, inr, sym, drop, get_or, length, length-drop, map, slice_get, take, Option, Result, Some, refl, ap, ◌∙◌}
use Rattle.std.proofs.KnownBytes.{Appends-nil, Appends-trans}
use Rattle.counting.proofs.Booleans.{cases_lt}
use Rattle.counting.proofs.Counts.{join_below_more, join_below_none}
use Rattle.counting.specs.Sums.{join_below}
use Rattle.std.proofs.Math.Seq.{take-add}
use Rattle.std.proofs.lemmas.List.{drop-drop, get_or-drop, take_all, take_more}
use Rattle.design_io.proofs.Pieces.{AppendsPart-first, AppendsPart-second, AppendsWhole-second}
use Rattle.design_io.specs.Pieces.{AppendsPart, AppendsWhole}
use Rattle.std.proofs.lemmas.Option.{slice_get_within}
use Rattle.std.specs.Io.KnownBytes.{Appends}
use Rattle.std.specs.List.{flat_map, slice_range}
use Rattle.std.proofs.lemmas.List.Concat.{flat_map-append}

-- an element by its place
pub at_place : {X : Type 0} (xs : List X) (i : ℕ) (x d : X) → slice_get xs i ≡ Some x → get_or xs i d ≡ x
at_place [] i x d is = cc
at_place (y ∷ ys) zero x d is = cc
at_place (y ∷ ys) (suc i) x d is = at_place ys i x d is

-- the lines of a list are its texts
flat_map-map : {X : Type 0} (f : X → List ℕ) (xs : List X) → flat_map (λ line. line) (map f xs) ≡ flat_map f xs
flat_map-map f [] = refl
flat_map-map f (x ∷ xs) = ap (λ text. f x ++ text) (flat_map-map f xs)

-- all rows
pub all_rows : (rows : List (List ℕ)) (count : ℕ) → count ≡ length rows → slice_range rows 0 count ≡ rows
all_rows rows count all = take_all (count - 0) rows (omega (arith, all))

-- the rows from a place on, before it
pub rows_none : (f : List ℕ → List ℕ) (rows : List (List ℕ)) (start : ℕ) → flat_map f (slice_range rows start start) ≡ []
rows_none f rows start = let e : start - start ≡ 0 = omega arith in rw e refl

range_split : (rows : List (List ℕ)) (start middle end : ℕ) → start ≤ middle → middle ≤ end → slice_range rows start end ≡ slice_range rows start middle ++ slice_range rows middle end
range_split rows start middle end above below =
    let all : end - start ≡ (middle - start) + (end - middle) = omega arith in
    let place : start + (middle - start) ≡ middle = omega arith in
    rw all (take-add (middle - start) (end - middle) (drop start rows))
    ∙ ap (λ rest. slice_range rows start middle ++ take (end - middle) rest) (drop-drop (middle - start) start rows ∙ ap (λ n. drop n rows) place)

-- and one more of them
range_more : (rows : List (List ℕ)) (start i : ℕ) (row : List ℕ) → start ≤ i → slice_get rows i ≡ Some row → slice_range rows start (i + 1) ≡ slice_range rows start i ++ row ∷ []
range_more rows start i row above at =
    let more : i + 1 - start ≡ i - start + 1 = omega arith in
    let place : start + (i - start) ≡ i = omega arith in
    let within : i < length rows = slice_get_within rows i row at in
    rw more (take_more (drop start rows) (i - start) [] (omega (arith, length-drop start rows)))
    ∙ ap (λ r. slice_range rows start i ++ r ∷ []) (get_or-drop start rows (i - start) [] ∙ ap (λ n. get_or rows n []) place ∙ at_place rows i row [] at)

module _ (f : List ℕ → List ℕ) (rows : List (List ℕ)) (start i : ℕ) (row : List ℕ) (above : start ≤ i) (at : slice_get rows i ≡ Some row) where
  rows_with : flat_map f (slice_range rows start (i + 1)) ≡ flat_map f (slice_range rows start i) ++ f row
  rows_with = ap (flat_map f) (range_more rows start i row above at) ∙ flat_map-append f (slice_range rows start i) (row ∷ []) ∙ ap (λ text. flat_map f (slice_range rows start i) ++ text) (append-nil (f row))

  pub rows_more : (a b c : Option (List ℕ)) → Appends a b (flat_map f (slice_range rows start i)) → Appends b c (f row) → Appends a c (flat_map f (slice_range rows start (i + 1)))
  rows_more a b c front next = rw rows_with (Appends-trans a b c _ _ front next)

  -- a part of the next piece is a part of all
  pub rows_part : (end : ℕ) → i < end → (a b c : Option (List ℕ)) → Appends a b (flat_map f (slice_range rows start i)) → AppendsPart b c (f row) → AppendsPart a c (flat_map f (slice_range rows start end))
  rows_part end below a b c front next =
      rw (range_split rows start (i + 1) end (omega arith) (omega arith), flat_map-append f (slice_range rows start (i + 1)) (slice_range rows (i + 1) end), rows_with)
      (AppendsPart-first (flat_map f (slice_range rows (i + 1) end)) (AppendsPart-second a (flat_map f (slice_range rows start i)) front next))

-- the lists below a bound are those before a number and those from it on
join_split : (f : ℕ → List (List ℕ)) (s m : ℕ) → s ≤ m → (rest : List (List ℕ)) × (join_below m f ≡ join_below s f ++ rest)
unfolding join_below
join_split f s zero within = let e : s ≡ 0 = omega (arith, within) in ([], rw e refl)
join_split f s (suc m) within = elim (cases_lt m s) [
  | inl all ↦ let e : s ≡ suc m = omega (arith, within, all) in ([], rw e (sym (append-nil (join_below (suc m) f))))
  | inr less ↦ let front = join_split f s m less in (front.0 ++ f m, ap (λ lists. lists ++ f m) front.1 ∙ append_assoc (join_below s f) front.0 (f m))
]

-- the lines of lists of lines, one list after another
module _ (f : ℕ → List (List ℕ)) where
  lists_with : (s : ℕ) → flat_map (λ line. line) (join_below (s + 1) f) ≡ flat_map (λ line. line) (join_below s f) ++ flat_map (λ line. line) (f s)
  lists_with s = ap (flat_map (λ line. line)) (join_below_more s f) ∙ flat_map-append (λ line. line) (join_below s f) (f s)

  pub lists_none : (held : Option (List ℕ)) → Appends held held (flat_map (λ line. line) (join_below 0 f))
  lists_none held = rw (join_below_none f) (Appends-nil held)

  pub lists_more : (s : ℕ) (a b c : Option (List ℕ)) → Appends a b (flat_map (λ line. line) (join_below s f)) → Appends b c (flat_map (λ line. line) (f s)) → Appends a c (flat_map (λ line. line) (join_below (s + 1) f))
  lists_more s a b c front next = rw (lists_with s) (Appends-trans a b c _ _ front next)

  pub lists_part : (s m : ℕ) → s < m → (a b c : Option (List ℕ)) → Appends a b (flat_map (λ line. line) (join_below s f)) → AppendsPart b c (flat_map (λ line. line) (f s)) → AppendsPart a c (flat_map (λ line. line) (join_below m f))
  lists_part s m within a b c front next =
      let split = join_split f (s + 1) m (omega arith) in
      rw (split.1, flat_map-append (λ line. line) (join_below (s + 1) f) split.0, lists_with s)
      (AppendsPart-first (flat_map (λ line. line) split.0) (AppendsPart-second a (flat_map (λ line. line) (join_below s f)) front next))

-- a line, and behind it one for each row
pub counted_rows : {T E : Type 0} (a b c : Option (List ℕ)) (r : Result T E) (line : List ℕ) (f : List ℕ → List ℕ) (rows : List (List ℕ)) → Appends a b line → AppendsWhole b c r (flat_map f rows)
    → AppendsWhole a c r (flat_map (λ line. line) (line ∷ map f rows))
counted_rows a b c r line f rows first second = rw (flat_map-map f rows) (AppendsWhole-second a b c r line (flat_map f rows) first second)

-- lines, and others behind them
pub output_of_both : (lines others : List (List ℕ)) → flat_map (λ line. line) (lines ++ others) ≡ flat_map (λ line. line) lines ++ flat_map (λ line. line) others
output_of_both lines others = flat_map-append (λ line. line) lines others
