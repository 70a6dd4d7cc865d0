-- The loops that list the parts of blocks, one step at a time.
use Rattle.std.proofs.Common.{List, Some, [], ap, arith, get_or, length, map, slice_get, sym, take, ℕ, ◌*◌, ◌++◌, ◌+◌, ◌<◌, ◌∙◌, ◌∷◌, ◌≡◌, ◌≢◌, ◌≤◌, ◌^◌}
use Rattle.std.proofs.Math.Nat.{mul-le-mul_left, mul-le-mul_right}
use Rattle.std.proofs.lemmas.List.{length-take, map-append, take_all}
use Rattle.std.proofs.lemmas.Option.{slice_get-get_or, slice_get_within}
use Rattle.std.specs.Prelude.{remove}
use Rattle.design_base.specs.declared.limits.TheConstants.{PACKED_MAX}
use Rattle.incidence.proofs.Walk.{take_next}
use Rattle.spaces.specs.Lines.{points_in}
use Rattle.symmetric.specs.Symmetric.{parts_in}
use Rattle.symmetric.proofs.Parts.{length-points_in-le}
use Rattle.symmetric.proofs.Passing.{passing_left, passing_none, passing_taken}
use Rattle.symmetric.proofs.Removed.{remove_elsewhere, remove_here, remove_past}

-- the parts of the blocks before a place
abbrev pub parts_before : ℕ → List ℕ → List (List ℕ) → ℕ → List (List ℕ)
parts_before j P B i = map (points_in P) (remove (take j B) i)

module _ (P : List ℕ) (B : List (List ℕ)) (i j : ℕ) (row : List ℕ) (is : slice_get B j ≡ Some row) where
  before : length (take j B) ≡ j
  before = omega (arith, length-take j B, slice_get_within B j row is)

  pub parts_taken : j ≢ i → parts_before (j + 1) P B i ≡ parts_before j P B i ++ points_in P row ∷ []
  parts_taken ne = ap (λ R. map (points_in P) (remove R i)) (take_next B j row is)
      ∙ ap (map (points_in P)) (remove_elsewhere (take j B) row i (λ e. ne (sym before ∙ e)))
      ∙ map-append (points_in P) (remove (take j B) i) (row ∷ [])

pub parts_left : (P : List ℕ) (B : List (List ℕ)) (i j : ℕ) → j < length B → j ≡ i → parts_before (j + 1) P B i ≡ parts_before j P B i
parts_left P B i j l e =
    let is : slice_get B j ≡ Some (get_or B j []) = slice_get-get_or B j [] l in
    let at : length (take j B) ≡ i = omega (arith, length-take j B, e, l) in
    ap (λ R. map (points_in P) (remove R i)) (take_next B j (get_or B j []) is)
    ∙ ap (λ n. map (points_in P) (remove (take j B ++ get_or B j [] ∷ []) n)) (sym at)
    ∙ ap (map (points_in P)) (remove_here (take j B) (get_or B j []) ∙ sym (remove_past (take j B) i (omega (arith, at))))

pub parts_all : (P : List ℕ) (B : List (List ℕ)) (i j : ℕ) → j ≡ length B → parts_before j P B i ≡ parts_in P B i
unfolding parts_in
parts_all P B i j e = ap (λ R. map (points_in P) (remove R i)) (take_all j B (omega (arith, e)))

-- room for one part more
pub part_room : (p j : ℕ) → (p + 1) * (j + 1) ≡ (p + 1) * j + p + 1
part_room p j = omega arith

pub room_within : (p j n : ℕ) → j < n → (p + 1) * (j + 1) ≤ (p + 1) * n
room_within p j n l = mul-le-mul_left (p + 1) (let h : j + 1 ≤ n = omega arith in h)

-- parts of as many points as there are, of as many blocks
pub room_for_all : (p n v : ℕ) → p ≤ v → n ≡ v → v < 2 ^ 16 → (p + 1) * n < PACKED_MAX
room_for_all p n v few same small = omega (arith, mul-le-mul_right n (let h : p + 1 ≤ 65536 = omega arith in h))

pub ruleset steps = (passing_none, passing_taken, passing_left, parts_taken, parts_left, parts_all, part_room, room_within, length-points_in-le)
