-- The lists of Wilson's constructions have room.
use Rattle.std.proofs.Common.{List, ap, arith, length, ℕ, ◌*◌, ◌++◌, ◌+◌, ◌<◌, ◌∙◌, ◌≡◌}
use Rattle.std.proofs.lemmas.List.{length-append}
use Rattle.std.specs.List.{flat_map}
use Rattle.design_base.specs.Arrays.{blocks_of_rows, rows_of_blocks}
use Rattle.design_base.specs.declared.limits.TheConstants.{PACKED_MAX}
use Rattle.incidence.proofs.RowsAndBlocks.{size_of_blocks}
use Rattle.incidence.proofs.Sizes.{size_of-append}
use Rattle.incidence.specs.Packed.{size_of}
use Rattle.transversal.proofs.Designs.{rows_fit}
use Rattle.transversal.proofs.Steps.{length-raised}
use Rattle.transversal.specs.Constructions.{raised}
use Rattle.wilson.proofs.Designs.{wilson_one_array, wilson_two_array}
use Rattle.wilson.specs.Conditions.{CanTruncateOnce, CanTruncateTwice}
use Rattle.wilson.specs.Holes.{holed, holed_twice}
use Rattle.wilson.specs.Truncations.{fill_one, fill_two, one_truncated_rows, two_truncated_rows}

-- the blocks of further rows
pub size_of_more : (k n : ℕ) (old now R : List (List ℕ)) → now ≡ old ++ blocks_of_rows k n R → size_of now ≡ size_of old + (k + 1) * length R
size_of_more k n old now R is = omega (arith, ap size_of is, size_of-append old (blocks_of_rows k n R), size_of_blocks k n R)

-- the room of all rows is that of their parts; N is the master M
pub room_of_one : (k m t u : ℕ) (M N A H U : List (List ℕ)) → N ≡ M →
    (k + 1) * length (one_truncated_rows k m t u M A H U) ≡ (k + 1) * length (flat_map (fill_one k m t u A H) N) + (k + 1) * length U
unfolding one_truncated_rows
room_of_one k m t u M N A H U is =
    let rows : List (List ℕ) = flat_map (fill_one k m t u A H) M in
    omega (
      arith,
      ap (λ n. (k + 1) * n) (length-append rows (raised (m * t) U) ∙ ap (λ n. length rows + n) (length-raised (m * t) U)),
      ap (λ M. (k + 1) * length (flat_map (fill_one k m t u A H) M)) is,
    )

pub room_of_two : (k m t u w : ℕ) (M N A H G U W : List (List ℕ)) → N ≡ M →
    (k + 1) * length (two_truncated_rows k m t u w M A H G U W) ≡ (k + 1) * length (flat_map (fill_two k m t u w A H G) N) + (k + 1) * length U + (k + 1) * length W
unfolding two_truncated_rows
room_of_two k m t u w M N A H G U W is =
    let rows : List (List ℕ) = flat_map (fill_two k m t u w A H G) M in
    omega (
      arith,
      ap (λ n. (k + 1) * n) (length-append rows (raised (m * t) U ++ raised (m * t + u) W) ∙ ap (λ n. length rows + n) (length-append (raised (m * t) U) (raised (m * t + u) W)
          ∙ ap (λ n. n + length (raised (m * t + u) W)) (length-raised (m * t) U) ∙ ap (λ n. length U + n) (length-raised (m * t + u) W))),
      ap (λ M. (k + 1) * length (flat_map (fill_two k m t u w A H G) M)) is,
    )

-- B and H are the arrays of A and of E, the latter without a row
pub one_fits : (k m t u : ℕ) (M A E U B H : List (List ℕ)) → CanTruncateOnce k m t u M A E U → B ≡ rows_of_blocks m A → H ≡ holed k m (rows_of_blocks (m + 1) E) →
    (k + 1) * length (one_truncated_rows k m t u (rows_of_blocks t M) B H (rows_of_blocks u U)) < PACKED_MAX
one_fits k m t u M A E U B H can small large = rw (small, large) (rows_fit k (m * t + u) _ (omega (arith, can.groups)) can.points (wilson_one_array k m t u M A E U can))

-- B, H and G are the arrays of A, of E without a row and of F without two
pub two_fits : (k m t u w : ℕ) (M A E F U W B H G : List (List ℕ)) → CanTruncateTwice k m t u w M A E F U W →
    B ≡ rows_of_blocks m A → H ≡ holed k m (rows_of_blocks (m + 1) E) → G ≡ holed_twice k m (rows_of_blocks (m + 2) F) →
    (k + 1) * length (two_truncated_rows k m t u w (rows_of_blocks t M) B H G (rows_of_blocks u U) (rows_of_blocks w W)) < PACKED_MAX
two_fits k m t u w M A E F U W B H G can small large larger = rw (small, large, larger)
    (rows_fit k (m * t + u + w) _ (omega (arith, can.groups)) can.points (wilson_two_array k m t u w M A E F U W can))
