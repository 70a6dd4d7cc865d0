-- Rows that are sorted one after another, in place.
use Rattle.std.proofs.Common.{◌≡◌, ℕ, ◌+◌, ◌-◌, ◌<◌, ◌≤◌, List, [], ◌∷◌, ◌++◌, length, get_or, take, drop, map, refl, sym, ap, ◌∙◌, append_assoc, length-append, length-drop, arith}
use Rattle.std.specs.List.{slice_range}
use Rattle.std.specs.Prelude.{nat_le}
use Rattle.std.proofs.lemmas.List.{length-take-le, take-take, drop-drop, take_more, drop_more}
use Rattle.std.proofs.lemmas.Slice.{between_is, take-put_mid_below, drop-put_mid, between-put_mid}
use borrow.Rule.Slice.PartMut.{put_mid}
use Rattle.counting.specs.Sorting.{sort_by}
use Rattle.incidence.specs.Packed.{rows_from, AreEnds}
use Rattle.incidence.proofs.Packing.{start_within, AreEnds_push}

rows_from-append : (start : ℕ) (us vs numbers : List ℕ) (middle : ℕ) → AreEnds start us middle → rows_from start (us ++ vs) numbers ≡ rows_from start us numbers ++ rows_from middle vs numbers
rows_from-append start [] vs numbers middle are = ap (λ s. rows_from s vs numbers) are
rows_from-append start (a ∷ us) vs numbers middle are = ap (λ r. slice_range numbers start a ∷ r) (rows_from-append a us vs numbers middle are.1)

-- rows depend on the numbers up to their end
pub rows_from_front : (start : ℕ) (ends : List ℕ) (total : ℕ) (ns ms : List ℕ) → AreEnds start ends total → take total ns ≡ take total ms → rows_from start ends ns ≡ rows_from start ends ms
rows_from_front start [] total ns ms are same = refl
rows_from_front start (end ∷ ends) total ns ms are same =
    let le = start_within end ends total are.1 in
    let upto : take end ns ≡ take end ms = sym (take-take end total ns le) ∙ ap (take end) same ∙ take-take end total ms le in
    let first : slice_range ns start end ≡ slice_range ms start end = between_is ns start end ∙ ap (drop start) upto ∙ sym (between_is ms start end) in
    let rest = rows_from_front end ends total ns ms are.1 same in
    cc

-- and on those from their start
rows_from_back : (start : ℕ) (ends : List ℕ) (total : ℕ) (ns ms : List ℕ) → AreEnds start ends total → drop start ns ≡ drop start ms → rows_from start ends ns ≡ rows_from start ends ms
rows_from_back start [] total ns ms are same = refl
rows_from_back start (end ∷ ends) total ns ms are same =
    let sum : start + (end - start) ≡ end = omega (arith, are.0) in
    let from : drop end ns ≡ drop end ms = rw (← sum, ← drop-drop (end - start) start ns, ← drop-drop (end - start) start ms) (ap (drop (end - start)) same) in
    let first : slice_range ns start end ≡ slice_range ms start end = ap (take (end - start)) same in
    let rest = rows_from_back end ends total ns ms are.1 from in
    cc

-- each row in increasing order
abbrev pub sorted_rows : List (List ℕ) → List (List ℕ)
sorted_rows rows = map (sort_by nat_le) rows

-- the rows before a place are sorted, and those from it on are as they were
pub record IsSortedBefore (ends first numbers : List ℕ) (i start : ℕ) : Type 0 where
  pub front : AreEnds 0 (take i ends) start
  pub back : AreEnds start (drop i ends) (length numbers)
  pub rows : rows_from 0 (take i ends) numbers ++ sorted_rows (rows_from start (drop i ends) numbers) ≡ sorted_rows (rows_from 0 ends first)

-- the next row is within the numbers
pub next_within : (ends first numbers : List ℕ) (i start : ℕ) → IsSortedBefore ends first numbers i start → i < length ends → (start ≤ get_or ends i 0) × (get_or ends i 0 ≤ length numbers)
next_within ends first numbers i start before within =
    let back = rw (drop_more ends i 0 within) at before.back in
    (back.0, start_within (get_or ends i 0) (drop (i + 1) ends) (length numbers) back.1)

pub sorted_more : (ends first numbers piece : List ℕ) (i start end : ℕ) → IsSortedBefore ends first numbers i start → i < length ends → end ≡ get_or ends i 0 → piece ≡ sort_by nat_le (slice_range numbers start end)
    → length piece ≡ end - start → IsSortedBefore ends first (put_mid start (end - start) numbers piece) (i + 1) end
sorted_more ends first numbers piece i start end before within is sorted size =
    let more : drop i ends ≡ end ∷ drop (i + 1) ends = rw is (drop_more ends i 0 within) in
    let done : take (i + 1) ends ≡ take i ends ++ end ∷ [] = rw is (take_more ends i 0 within) in
    let back = rw more at before.back in
    let held = rw more at before.rows in
    let after : List ℕ = put_mid start (end - start) numbers piece in
    let rest : List ℕ = drop (i + 1) ends in
    let inside : start ≤ length numbers = start_within start (end ∷ rest) (length numbers) back in
    let same_length : length after ≡ length numbers =
    omega (arith, start_within end rest (length numbers) back.1, length-append (take start numbers) (piece ++ drop (end - start) (drop start numbers)), length-append piece (drop (end - start) (drop start numbers)), length-drop (end - start) (drop start numbers), length-drop start numbers, length-take-le start numbers inside) in
    let kept : rows_from 0 (take i ends) after ≡ rows_from 0 (take i ends) numbers =
    rows_from_front 0 (take i ends) start after numbers before.front (take-put_mid_below start (end - start) numbers piece start (omega arith) inside) in
    let here : slice_range after start end ≡ piece = between-put_mid start (end - start) numbers piece end inside size in
    let later : rows_from end rest after ≡ rows_from end rest numbers =
    rows_from_back end rest (length numbers) after numbers back.1 (drop-put_mid start (end - start) numbers piece end (omega (arith, back.0)) inside size) in
    let front : rows_from 0 (take (i + 1) ends) after ≡ rows_from 0 (take i ends) numbers ++ piece ∷ [] =
    rw done (rows_from-append 0 (take i ends) (end ∷ []) after start before.front ∙ ap (λ r. r ++ slice_range after start end ∷ []) kept ∙ ap (λ p. rows_from 0 (take i ends) numbers ++ p ∷ []) here) in
    record {
      front = rw done (AreEnds_push 0 (take i ends) start end before.front back.0);
      back = rw same_length back.1;
      rows = ap (λ r. r ++ sorted_rows (rows_from end rest after)) front ∙ ap (λ r. (rows_from 0 (take i ends) numbers ++ piece ∷ []) ++ sorted_rows r) later
          ∙ append_assoc (rows_from 0 (take i ends) numbers) (piece ∷ []) (sorted_rows (rows_from end rest numbers))
          ∙ ap (λ p. rows_from 0 (take i ends) numbers ++ (p ∷ sorted_rows (rows_from end rest numbers))) sorted
          ∙ held;
    }
