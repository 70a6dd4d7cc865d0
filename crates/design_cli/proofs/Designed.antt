-- What is said of blocks is so: those of a yes and of a sound derivation are such a design, and exactly such are found valid.
use Rattle.std.proofs.Common.{◌≡◌, ◌↔◌, ℕ, ◌+◌, ◌-◌, List, Option, Some, None, ap, arith, refl, subst, sym}
use Rattle.arrays.proofs.Bounds.{td_bounds}
use Rattle.arrays.proofs.Passages.{td_iff_oa}
use Rattle.arrays.proofs.Shapes.{none_from_rows, none_from_squares, rows_from_none, squares_from_none}
use Rattle.arrays.proofs.Squares.{td_iff_mols}
use Rattle.arrays.specs.Arrays.{rows_of_squares}
use Rattle.arrays.specs.Lines.{bad_line, bad_row}
use Rattle.design_base.specs.Arrays.{IsOa, blocks_of_rows}
use Rattle.design_base.specs.Blocks.{IsTd}
use Rattle.design_base.specs.Canonical.{canonical}
use Rattle.arrays.proofs.TdRows.{array_in_order, mols}
use Rattle.derivations.proofs.Replays.{replayed_meets}
use Rattle.derivations.proofs.Sound.{derivation_is_sound, yes_has_a_design}
use Rattle.derivations.specs.Laws.{DerivationLaw, ReplayLaw, YesLaw}
use Rattle.rule_table.specs.Verdicts.{is_yes}
use Rattle.design_base.specs.Squares.{IsMols}
use Rattle.design_checks.specs.declared.finding.Finding.{Finding}
use Rattle.design_checks.specs.declared.finding.Finding.TheVariants.{Valid}
use Rattle.design_cli.specs.LineFindings.{line_finding}
use Rattle.design_base.specs.declared.query.Query.TheVariants.{Td}
use Rattle.design_checks.proofs.Meeting.{found_meets}
use Rattle.design_checks.specs.Findings.{finding}
use Rattle.design_cli.specs.Laws.{PrintedRowsLaw, PrintedSquaresLaw, ValidLaw, ValidRowsLaw, ValidSquaresLaw}

pub yes_is_designed : YesLaw
yes_is_designed q s bounds is = yes_has_a_design q bounds (ap is_yes is)

pub sound_is_designed : ReplayLaw
sound_is_designed = replayed_meets

pub yes_is_derived : DerivationLaw
yes_is_derived q s bounds is = derivation_is_sound q bounds (ap is_yes is)

pub printed_rows : PrintedRowsLaw
printed_rows k n bounds B td = array_in_order k n B (td_bounds k n bounds) td

pub printed_squares : PrintedSquaresLaw
printed_squares k n bounds B td = mols k n B (td_bounds k n bounds) td

pub valid_is_design : ValidLaw
valid_is_design q B = found_meets q B (finding q B) refl

-- lines are found valid where none is bad and the blocks that they stand for are
valid_lines : (bad : Option ℕ) (found : Finding) (P Q : Type 0) → (bad ≡ None → (found ≡ Valid) ↔ P) → (bad ≡ None → P ↔ Q) → (Q → bad ≡ None) → (line_finding bad found ≡ Valid) ↔ Q
valid_lines bad found P Q valid same good = (to bad refl, λ h. from (good h) h)
  where
    to : (o : Option ℕ) → bad ≡ o → line_finding o found ≡ Valid → Q
    to (Some i) is e = cc
    to None is e = (same is).0 ((valid is).0 e)

    from : bad ≡ None → Q → line_finding bad found ≡ Valid
    from is h = subst (λ o. line_finding o found ≡ Valid) (sym is) ((valid is).1 ((same is).1 h))

pub valid_is_array : ValidRowsLaw
valid_is_array k n bounds R =
    let b = td_bounds k n bounds in
    let B : List (List ℕ) = canonical (blocks_of_rows k n R) in
    valid_lines (bad_row k n R) (finding (Td k n) B) (IsTd B k n) (IsOa R k n)
    (λ none. found_meets (Td k n) B (finding (Td k n) B) refl)
    (λ none. td_iff_oa k n R (rows_from_none k n R none) b.two b.positive)
    (λ oa. none_from_rows k n R oa.rows)

pub valid_are_squares : ValidSquaresLaw
valid_are_squares k n bounds L =
    let b = td_bounds k n bounds in
    let columns : k ≡ k - 2 + 2 = omega (arith, b.two) in
    let B : List (List ℕ) = canonical (blocks_of_rows k n (rows_of_squares (k - 2) n L)) in
    valid_lines (bad_line (k - 2) n L) (finding (Td k n) B) (IsTd B k n) (IsMols L n (k - 2))
    (λ none. found_meets (Td k n) B (finding (Td k n) B) refl)
    (λ none. let shape = squares_from_none (k - 2) n L none in td_iff_mols k (k - 2) n L columns shape.0 shape.1 b.positive)
    (λ mols. none_from_squares (k - 2) n L mols.count mols.rows)
