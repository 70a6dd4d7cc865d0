-- Lines are found the same as those up to the first that is too short.
use Rattle.std.proofs.Common.{◌≡◌, ℕ, suc, ◌+◌, ◌*◌, ◌<◌, ◌≤◌, Bool, true, false, ◌==◌, ◌&&◌, ◌||◌, not, List, [], ◌∷◌, length, map, map-id, Some, None, Option, refl, ap, sym, subst, ◌∙◌, arith}
use Rattle.counting.proofs.Booleans.{lt-ltb}
use Rattle.std.specs.Prelude.{if◌then◌else◌, nat_le, nat_lt, position, option_map}
use Rattle.std.specs.List.{list_all, list_any, position_or_len}
use Rattle.std.proofs.lemmas.Bool.Decides.{nat_tests}
use Rattle.counting.proofs.Sorting.{length-sort_by}
use Rattle.counting.specs.Sorting.{sort_by}
use Rattle.design_base.specs.Blocks.{across, cover, differences}
use Rattle.design_base.specs.Limits.{in_bounds, is_listed, within}
use Rattle.design_base.specs.Meets.{group_add}
use Rattle.design_base.specs.declared.query.Query.{Query}
use Rattle.design_base.specs.declared.query.Query.TheVariants.{Td, Df, Bibd, Gdd, Pbd}
use Rattle.design_checks.specs.declared.finding.Finding.{Finding}
use Rattle.design_checks.specs.declared.finding.Finding.TheVariants.{BadBlock, BadPair}
use Rattle.design_checks.specs.Findings.{block_finding, design_finding, family_finding, finding, is_block, pair_finding, pairs, pairs_of, rises}
use Rattle.arrays.proofs.Bounds.{td_bounds}
use Rattle.arrays.specs.Lines.{bad_row, is_row}
use Rattle.design_base.specs.Arrays.{blocks_of_rows}
use Rattle.design_base.specs.Canonical.{canonical}
use Rattle.design_lines.specs.declared.command.Shape.{Shape}
use Rattle.design_lines.specs.declared.command.Shape.TheVariants.{Blocks, Rows, Squares}
use Rattle.block_texts.specs.BlockText.{BlockText, bad_line, blocks, shortened, until_short}
use Rattle.design_cli.specs.LineFindings.{line_finding, lines_finding, shortest_line}
use Rattle.design_cli.specs.Report.{text_report}
use Rattle.design_reports.specs.Answers.{EndsWith}
use Rattle.design_reports.specs.Reports.{found_report}
use Rattle.design_reports.specs.declared.ending.Ending.{Ending}
use Rattle.design_cli.specs.declared.checking.TheConstants.{SHORTEST_BLOCK}
use Rattle.block_texts.proofs.Shortened.{is_short, none_short}

module _ (bad : List ℕ → Bool) where
  -- n is the first place of a bad row
  record IsFirst (rows : List (List ℕ)) (n : ℕ) : Type 0 where
    pub place : position_or_len bad rows ≡ n
    pub inside : n < length rows

  first-here : (row : List ℕ) (rows : List (List ℕ)) → bad row ≡ true → IsFirst (row ∷ rows) 0
  first-here row rows is = record { place = rw is refl; inside = omega arith }

  first-later : (row : List ℕ) (rows : List (List ℕ)) (n : ℕ) → bad row ≡ false → IsFirst rows n → IsFirst (row ∷ rows) (suc n)
  first-later row rows n is later = record { place = rw is (omega (arith, later.place)); inside = omega (arith, later.inside) }

  first-found : (rows : List (List ℕ)) (n : ℕ) → IsFirst rows n → position bad rows ≡ Some n
  first-found rows n first = rw first.place (rw (lt-ltb n (length rows) first.inside) refl)

-- the two lists have their first bad row at one place
record SamePlace (bad : List ℕ → Bool) (few all : List (List ℕ)) : Type 0 where
  pub at : ℕ
  pub few_first : IsFirst bad few at
  pub all_first : IsFirst bad all at

module _ (least : ℕ) (f : List ℕ → List ℕ) (bad : List ℕ → Bool) (short_bad : (row : List ℕ) → is_short least row ≡ true → bad (f row) ≡ true) where
  -- the first bad row is not behind a short one
  same_place : (rows : List (List ℕ)) → list_any (is_short least) rows ≡ true → SamePlace bad (map f (until_short least rows)) (map f rows)
  unfolding until_short
  same_place [] any = cc
  same_place (row ∷ rows) any = of (is_short least row) refl (bad (f row)) refl any (same_place rows)
    where
      here : (few : List (List ℕ)) → bad (f row) ≡ true → SamePlace bad (f row ∷ map f few) (f row ∷ map f rows)
      here few is = record { at = 0; few_first = first-here bad (f row) (map f few) is; all_first = first-here bad (f row) (map f rows) is }

      of : (s : Bool) → is_short least row ≡ s → (b : Bool) → bad (f row) ≡ b → (s || list_any (is_short least) rows) ≡ true
          → (list_any (is_short least) rows ≡ true → SamePlace bad (map f (until_short least rows)) (map f rows))
          → SamePlace bad (map f (if s then row ∷ [] else row ∷ until_short least rows)) (map f (row ∷ rows))
      of true is b bad_is h rest = here [] (short_bad row is)
      of false is true bad_is h rest = here (until_short least rows) bad_is
      of false is false bad_is h rest =
          let same = rest h in
          record {
            at = suc same.at;
            few_first = first-later bad (f row) (map f (until_short least rows)) same.at bad_is same.few_first;
            all_first = first-later bad (f row) (map f rows) same.at bad_is same.all_first;
          }

-- so the finding is the same, whatever is found where no row is bad
same_finding : (least : ℕ) (f : List ℕ → List ℕ) (is_good : List ℕ → Bool) (other : List (List ℕ) → Finding) → ((row : List ℕ) → is_short least row ≡ true → is_good (f row) ≡ false) → (rows : List (List ℕ))
    → block_finding is_good (map f (until_short least rows)) (other (map f (until_short least rows))) ≡ block_finding is_good (map f rows) (other (map f rows))
same_finding least f is_good other short_bad rows = of (list_any (is_short least) rows) refl
  where
    bad : List ℕ → Bool
    bad row = not (is_good row)

    found : (few : List (List ℕ)) (else_found : Finding) (at : ℕ) → IsFirst bad few at → block_finding is_good few else_found ≡ BadBlock (at + 1)
    found few else_found at first = rw (first-found bad few at first, block_finding) refl

    of : (any : Bool) → list_any (is_short least) rows ≡ any
        → block_finding is_good (map f (until_short least rows)) (other (map f (until_short least rows))) ≡ block_finding is_good (map f rows) (other (map f rows))
    of false is = ap (λ few. block_finding is_good (map f few) (other (map f few))) (none_short least rows is)
    of true is =
        let same = same_place least f bad (λ row short. rw (short_bad row short) refl) rows is in
        found (map f (until_short least rows)) _ same.at same.few_first ∙ sym (found (map f rows) _ same.at same.all_first)

-- a short row is a block of no design
short_is_bad : (v least most : ℕ) → SHORTEST_BLOCK ≤ least → (row : List ℕ) → is_short SHORTEST_BLOCK row ≡ true → is_block v least most (sort_by nat_le row) ≡ false
short_is_bad v least most above row short =
    last_fails (rises (sort_by nat_le row)) (list_all (λ x. nat_lt x v) (sort_by nat_le row)) _ (ap (within least most) (length-sort_by nat_le row) ∙ too_few (length row) short)
  where
    last_fails : (a b c : Bool) → c ≡ false → (a && b && c) ≡ false
    last_fails true true c e = e
    last_fails true false c e = refl
    last_fails false b c e = refl

    too_few : (n : ℕ) → nat_lt n SHORTEST_BLOCK ≡ true → within least most n ≡ false
    too_few n few = grind (arith, nat_tests)

module _ (v least most : ℕ) (above : SHORTEST_BLOCK ≤ least) (rows : List (List ℕ)) where
  design_until_short : (want : ℕ → ℕ → ℕ) → design_finding (map (sort_by nat_le) (until_short SHORTEST_BLOCK rows)) v least most want ≡ design_finding (map (sort_by nat_le) rows) v least most want
  design_until_short want = same_finding SHORTEST_BLOCK (sort_by nat_le) (is_block v least most) (λ B. pair_finding (cover B) want (pairs v)) (short_is_bad v least most above) rows

family_until_short : (add : ℕ → ℕ → ℕ) (v k l : ℕ) → SHORTEST_BLOCK ≤ k → (rows : List (List ℕ)) → family_finding (map (sort_by nat_le) (until_short SHORTEST_BLOCK rows)) add v k l ≡ family_finding (map (sort_by nat_le) rows) add v k l
family_until_short add v k l above rows =
    same_finding SHORTEST_BLOCK (sort_by nat_le) (is_block v k k) (λ B. pair_finding (λ x d. differences add B d) (λ x d. l) (pairs_of v 0)) (short_is_bad v k k above) rows

finding_until_short : (q : Query) → in_bounds q ≡ true → (rows : List (List ℕ)) → finding q (map (sort_by nat_le) (until_short SHORTEST_BLOCK rows)) ≡ finding q (map (sort_by nat_le) rows)
unfolding in_bounds finding
finding_until_short (Td k n) bounds rows = design_until_short (n * k) k k (grind (arith, nat_tests)) rows (across n)
finding_until_short (Df group v k l) bounds rows = of (is_listed group v)
  where
    above : SHORTEST_BLOCK ≤ k
    above = grind (arith, nat_tests)

    of : (listed : Bool) → ◌≡◌ {A = Finding}
        (elim listed [ true ↦ family_finding (map (sort_by nat_le) (until_short SHORTEST_BLOCK rows)) (group_add group v) v k l | false ↦ BadPair 0 1 0 ])
        (elim listed [ true ↦ family_finding (map (sort_by nat_le) rows) (group_add group v) v k l | false ↦ BadPair 0 1 0 ])
    of true = family_until_short (group_add group v) v k l above rows
    of false = refl
finding_until_short (Bibd v k l) bounds rows = design_until_short v k k (grind (arith, nat_tests)) rows (λ x y. l)
finding_until_short (Gdd k g u) bounds rows = design_until_short (g * u) k k (grind (arith, nat_tests)) rows (across g)
finding_until_short (Pbd v s) bounds rows = design_until_short v s (s + 1) (grind (arith, nat_tests)) rows (λ x y. 1)

none_shorter : (L : List (List ℕ)) → until_short 0 L ≡ L
none_shorter L = none_short 0 L (never L)
  where
    never : (L : List (List ℕ)) → list_any (λ row. nat_lt (length row) 0) L ≡ false
    never [] = refl
    never (row ∷ rows) = either (nat_lt (length row) 0) _ (grind (arith, nat_tests)) (never rows)
      where
        either : (a b : Bool) → a ≡ false → b ≡ false → (a || b) ≡ false
        either true b e f = cc
        either false b e f = f

blocks_until_short : (q : Query) → in_bounds q ≡ true → (shape : Shape) (L : List (List ℕ)) → finding q (map (sort_by nat_le) (until_short (shortest_line shape) L)) ≡ finding q (map (sort_by nat_le) L)
blocks_until_short q bounds Blocks L = finding_until_short q bounds L
blocks_until_short q bounds Rows L = finding_until_short q bounds L
blocks_until_short q bounds Squares L = ap (λ rows. finding q (map (sort_by nat_le) rows)) (none_shorter L)

-- a short row is no row of an array
short_is_no_row : (k n : ℕ) → SHORTEST_BLOCK ≤ k → (row : List ℕ) → is_short SHORTEST_BLOCK row ≡ true → is_row k n row ≡ false
unfolding is_row
short_is_no_row k n above row short = first_fails (length row == k) _ (grind (arith, nat_tests))
  where
    first_fails : (a b : Bool) → a ≡ false → (a && b) ≡ false
    first_fails true b e = cc
    first_fails false b e = refl

rows_until_short : (k n : ℕ) → SHORTEST_BLOCK ≤ k → (L : List (List ℕ))
    → lines_finding (Td k n) Rows (until_short SHORTEST_BLOCK L) ≡ lines_finding (Td k n) Rows L
unfolding bad_row
rows_until_short k n above L = by_rows (until_short SHORTEST_BLOCK L) ∙ same ∙ sym (by_rows L)
  where
    other : List (List ℕ) → Finding
    other R = finding (Td k n) (canonical (blocks_of_rows k n R))

    by_rows : (R : List (List ℕ)) → line_finding (bad_row k n R) (other R) ≡ block_finding (is_row k n) R (other R)
    by_rows R = of (position (λ line. not (is_row k n line)) R)
      where
        of : (o : Option ℕ) → line_finding (option_map (λ i. i + 1) o) (other R) ≡ elim o [ Some i ↦ BadBlock (i + 1) | None ↦ other R ]
        of None = refl
        of (Some i) = refl

    same : block_finding (is_row k n) (until_short SHORTEST_BLOCK L) (other (until_short SHORTEST_BLOCK L)) ≡ block_finding (is_row k n) L (other L)
    same =
        ap (λ R. block_finding (is_row k n) R (other R)) (sym (map-id (until_short SHORTEST_BLOCK L)))
        ∙ same_finding SHORTEST_BLOCK (λ row. row) (is_row k n) other (short_is_no_row k n above) L
        ∙ ap (λ R. block_finding (is_row k n) R (other R)) (map-id L)

lines_until_short : (q : Query) → in_bounds q ≡ true → (shape : Shape) (L : List (List ℕ)) → lines_finding q shape (until_short (shortest_line shape) L) ≡ lines_finding q shape L
lines_until_short (Td k n) bounds Rows L = rows_until_short k n (td_bounds k n bounds).two L
lines_until_short (Td k n) bounds Squares L = ap (lines_finding (Td k n) Squares) (none_shorter L)
lines_until_short (Td k n) bounds Blocks L = blocks_until_short (Td k n) bounds Blocks L
lines_until_short (Df group v k l) bounds shape L = blocks_until_short (Df group v k l) bounds shape L
lines_until_short (Bibd v k l) bounds shape L = blocks_until_short (Bibd v k l) bounds shape L
lines_until_short (Gdd k g u) bounds shape L = blocks_until_short (Gdd k g u) bounds shape L
lines_until_short (Pbd v s) bounds shape L = blocks_until_short (Pbd v s) bounds shape L

-- a text is answered the same as its lines up to the first short one
report_until_short : (q : Query) → in_bounds q ≡ true → (shape : Shape) (text : BlockText) → text_report q shape (shortened (shortest_line shape) text) ≡ text_report q shape text
report_until_short q bounds shape (bad_line place) = refl
report_until_short q bounds shape (blocks rows) = ap (found_report q) (lines_until_short q bounds shape rows)

-- an answer about the lines that were kept is one about the text
pub kept_lines_end : (q : Query) → in_bounds q ≡ true → (shape : Shape) (text : BlockText) (lines : List (List ℕ)) (found : Finding) (ending : Ending) (held now : Option (List ℕ)) → shortened (shortest_line shape) text ≡ blocks lines
    → found ≡ lines_finding q shape lines → EndsWith (found_report q found) ending held now → EndsWith (text_report q shape text) ending held now
kept_lines_end q bounds shape text lines found ending held now kept is ends =
    subst (λ report. EndsWith report ending held now) (ap (found_report q) is ∙ ap (text_report q shape) (sym kept) ∙ report_until_short q bounds shape text) ends
