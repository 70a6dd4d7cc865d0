-- A finding is Valid exactly where the block list is such a design.
use Rattle.std.proofs.Common.{Bool, List, None, Option, Some, [], ap, arith, get_or, inl, inr, length, not, refl, subst, sym, true, ℕ, ◌&&◌, ◌+◌, ◌-◌, ◌<◌, ◌==◌, ◌∙◌, ◌∷◌, ◌≡◌, ◌⊎◌}
use Rattle.counting.proofs.Booleans.{and_from, both, cases_eq, eq-eqb, eqb-true, le-leb, leb-true, ne_eqb, not-false, not_from_false, not_from_true}
use Rattle.std.proofs.lemmas.Bool.Decides.{Decides-by_and, Decides-ltb}
use Rattle.std.specs.Bool.{Decides}
use Rattle.std.specs.List.{list_all}
use Rattle.std.specs.Prelude.{All, nat_le, nat_lt, position}
use Rattle.counting.specs.Search.{first_in}
use Rattle.design_base.specs.Blocks.{IsBlock, IsDesign, IsDf, cover, differences}
use Rattle.design_base.specs.Limits.{within}
use Rattle.design_checks.proofs.Increasing.{increasing_from_test, test_from_increasing}
use Rattle.design_checks.proofs.Search.{below_none, found_below, found_single, none_below, none_position, none_single, position_none, single_none}
use Rattle.design_checks.specs.Counts.{Agree, IsFirstBad, IsRowOf, IsFirstDifference}
use Rattle.design_checks.specs.Findings.{block_finding, design_finding, family_finding, is_block, pair_finding, pairs, pairs_of, rises}
use Rattle.design_checks.specs.declared.finding.Finding.{Finding}
use Rattle.design_checks.specs.declared.finding.Finding.TheVariants.{BadBlock, BadPair, Valid}
use Rattle.design_checks.specs.declared.finding.Pair.{Pair}

-- ---- the first bad pair
module _ (counts want : ℕ → ℕ → ℕ) where
  -- the pair does not stand together as often as it is to
  abbrev differs : ℕ × ℕ → Bool
  differs p = not (counts p.0 p.1 == want p.0 p.1)

  module _ (v x : ℕ) where
    pub agree_none : Agree (counts x) (want x) (x + 1) v → first_in differs (pairs_of v x) ≡ None
    agree_none h = none_below differs (v - (x + 1)) (λ i. (x, x + 1 + i) ∷ [])
        (λ i l. none_single differs (x, x + 1 + i) (not_from_true _ (eq-eqb _ _ (h (x + 1 + i) (omega arith) (omega arith)))))

    pub none_agree : first_in differs (pairs_of v x) ≡ None → Agree (counts x) (want x) (x + 1) v
    none_agree e y l m = let i = y - (x + 1) in
        let s : x + 1 + i ≡ y = omega arith in
        let f = below_none differs (v - (x + 1)) (λ i. (x, x + 1 + i) ∷ []) e i (omega arith) in
        subst (λ z. counts x z ≡ want x z) s (eqb-true _ _ (not-false _ (single_none differs (x, x + 1 + i) f)))

    pub partner_found : (y : ℕ) → IsFirstDifference (counts x) (want x) (x + 1) v y → first_in differs (pairs_of v x) ≡ Some (x, y)
    partner_found y p = let i = y - (x + 1) in
        let above = p.above in
        let below = p.below in
        let s : x + 1 + i ≡ y = omega arith in
        found_below differs (v - (x + 1)) i (λ i. (x, x + 1 + i) ∷ []) (x, y) (omega arith)
        (λ j l. none_single differs (x, x + 1 + j) (not_from_true _ (eq-eqb _ _ (p.before (x + 1 + j) (omega arith) (omega arith)))))
        (rw s (found_single differs (x, y) (not_from_false _ (ne_eqb _ _ p.differ))))

  pub none_valid : (ps : List (ℕ × ℕ)) → first_in differs ps ≡ None → pair_finding counts want ps ≡ Valid
  none_valid ps e = rw (e, pair_finding) refl

  pub valid_none : (ps : List (ℕ × ℕ)) → pair_finding counts want ps ≡ Valid → first_in differs ps ≡ None
  valid_none ps e = nothing (first_in differs ps) e
    where
      nothing : (o : Option (ℕ × ℕ)) → ◌≡◌ {A = Finding} (elim o [ Some p ↦ BadPair p.0 p.1 (counts p.0 p.1) | None ↦ Valid ]) Valid → o ≡ None
      nothing (Some p) e = cc
      nothing None e = refl

  module _ (v : ℕ) where
    pub no_bad_pair : ((x : ℕ) → x < v → Agree (counts x) (want x) (x + 1) v) → pair_finding counts want (pairs v) ≡ Valid
    no_bad_pair h = none_valid (pairs v) (none_below differs v (pairs_of v) (λ x l. agree_none v x (h x l)))

    pub first_bad_pair : (p : Pair) → IsFirstBad counts want v 0 v p → pair_finding counts want (pairs v) ≡ BadPair p.x p.y p.count
    first_bad_pair p b =
        rw (found_below differs v p.x (pairs_of v) (p.x, p.y) b.below (λ x l. agree_none v x (b.before x (omega arith) l)) (partner_found v p.x p.y b.partner), pair_finding) (ap (BadPair p.x p.y) (sym b.count))

    -- the first bad pair of those with 0
    pub first_bad_with_0 : (p : Pair) → IsFirstBad counts want v 0 1 p → pair_finding counts want (pairs_of v 0) ≡ BadPair p.x p.y p.count
    first_bad_with_0 p b =
        let none_below_0 : p.x ≡ 0 = omega (arith, b.below) in
        let found : first_in differs (pairs_of v 0) ≡ Some (p.x, p.y) = subst (λ x. first_in differs (pairs_of v x) ≡ Some (p.x, p.y)) none_below_0 (partner_found v p.x p.y b.partner) in
        rw (found, pair_finding) (ap (BadPair p.x p.y) (sym b.count))

    pub valid_pairs : pair_finding counts want (pairs v) ≡ Valid → (x y : ℕ) → x < y → y < v → counts x y ≡ want x y
    valid_pairs e x y l m = none_agree v x (below_none differs v (pairs_of v) (valid_none (pairs v) e) x (omega arith)) y (omega arith) m

-- ---- the first bad block
module _ (good : List ℕ → Bool) (B : List (List ℕ)) (else_found : Finding) where
  pub found_block : (i : ℕ) → position (λ block. not (good block)) B ≡ Some i → block_finding good B else_found ≡ BadBlock (i + 1)
  found_block i e = rw (e, block_finding) refl

  pub all_good : position (λ block. not (good block)) B ≡ None → block_finding good B else_found ≡ else_found
  all_good e = rw (e, block_finding) refl

  pub valid_blocks : block_finding good B else_found ≡ Valid → (position (λ block. not (good block)) B ≡ None) × (else_found ≡ Valid)
  valid_blocks e = by_place _ e
    where
      by_place : (o : Option ℕ) → ◌≡◌ {A = Finding} (elim o [ Some i ↦ BadBlock (i + 1) | None ↦ else_found ]) Valid → (o ≡ None) × (else_found ≡ Valid)
      by_place (Some i) e = cc
      by_place None e = (refl, e)

-- ---- blocks, of sizes that a test tells
pub exactly : (k n : ℕ) → Decides (within k k n) (n ≡ k)
exactly k n = ((λ e. let r = both (nat_le k n) (nat_le n k) e in omega (arith, leb-true k n r.0, leb-true n k r.1)), (λ e. and_from (nat_le k n) (nat_le n k) (le-leb k n (omega arith)) (le-leb n k (omega arith))))

pub or_one_more : (s n : ℕ) → Decides (within s (s + 1) n) ((n ≡ s) ⊎ (n ≡ s + 1))
or_one_more s n = (
  (λ e. let r = both (nat_le s n) (nat_le n (s + 1)) e in elim (cases_eq n s) [ inl f ↦ inl f | inr d ↦ inr (omega (arith, leb-true s n r.0, leb-true n (s + 1) r.1)) ]),
  (λ e. and_from (nat_le s n) (nat_le n (s + 1)) (le-leb s n (elim e [ inl f ↦ omega arith | inr f ↦ omega arith ])) (le-leb n (s + 1) (elim e [ inl f ↦ omega arith | inr f ↦ omega arith ]))),
)

module _ (v least most : ℕ) (Size : ℕ → Type 0) (tells : (n : ℕ) → Decides (within least most n) (Size n)) where
  points_told : (b : List ℕ) → Decides (list_all (λ x. nat_lt x v) b) (All (λ x. x < v) b)
  points_told = Decides-by_and (λ x. nat_lt x v) (λ x. x < v) (list_all (λ x. nat_lt x v)) (λ x. Decides-ltb x v) refl (λ _ _. refl)

  pub block_from_test : (b : List ℕ) → is_block v least most b ≡ true → IsBlock v Size b
  block_from_test b e =
      let c = both (rises b && list_all (λ x. nat_lt x v) b) (within least most (length b)) e in
      let d = both (rises b) (list_all (λ x. nat_lt x v) b) c.0 in
      record {
        rises = increasing_from_test b d.0;
        below = (points_told b).0 d.1;
        size = (tells (length b)).0 c.1;
      }

  pub test_from_block : (b : List ℕ) → IsBlock v Size b → is_block v least most b ≡ true
  test_from_block b h =
      and_from (rises b && list_all (λ x. nat_lt x v) b) (within least most (length b))
      (and_from (rises b) (list_all (λ x. nat_lt x v) b) (test_from_increasing b h.rises) ((points_told b).1 h.below))
      ((tells (length b)).1 h.size)

  pub valid_is_design : (B : List (List ℕ)) (want : ℕ → ℕ → ℕ) → design_finding B v least most want ≡ Valid → IsDesign B v Size want
  valid_is_design B want e =
      let r = valid_blocks (is_block v least most) B (pair_finding (cover B) want (pairs v)) e in
      record {
        blocks = λ k d l. block_from_test _ (not-false _ (position_none (λ block. not (is_block v least most block)) B r.0 k d l));
        pairs = valid_pairs (cover B) want v r.1;
      }

  pub design_is_valid : (B : List (List ℕ)) (want : ℕ → ℕ → ℕ) → IsDesign B v Size want → design_finding B v least most want ≡ Valid
  design_is_valid B want h =
      all_good (is_block v least most) B (pair_finding (cover B) want (pairs v))
      (none_position (λ block. not (is_block v least most block)) B [] (λ k d l. not_from_true _ (test_from_block _ (h.blocks k d l))))
      ∙ no_bad_pair (cover B) want v (λ x l y a b. h.pairs x y (omega arith) b)

-- ---- base blocks
module _ (B : List (List ℕ)) (add : ℕ → ℕ → ℕ) (v k l : ℕ) where
  pub valid_is_family : family_finding B add v k l ≡ Valid → IsDf B add v k l
  valid_is_family e =
      let r = valid_blocks (is_block v k k) B (pair_finding (λ x d. differences add B d) (λ x d. l) (pairs_of v 0)) e in
      let same = none_agree (λ x d. differences add B d) (λ x d. l) v 0 (valid_none (λ x d. differences add B d) (λ x d. l) (pairs_of v 0) r.1) in
      record {
        blocks = λ i d n. block_from_test v k k (λ n. n ≡ k) (exactly k) _ (not-false _ (position_none (λ block. not (is_block v k k block)) B r.0 i d n));
        each = λ d pos below. same d (omega arith) below;
      }

  pub family_is_valid : IsDf B add v k l → family_finding B add v k l ≡ Valid
  family_is_valid h =
      all_good (is_block v k k) B (pair_finding (λ x d. differences add B d) (λ x d. l) (pairs_of v 0))
      (none_position (λ block. not (is_block v k k block)) B [] (λ i d n. not_from_true _ (test_from_block v k k (λ n. n ≡ k) (exactly k) _ (h.blocks i d n))))
      ∙ none_valid (λ x d. differences add B d) (λ x d. l) (pairs_of v 0) (agree_none (λ x d. differences add B d) (λ x d. l) v 0 (λ d a b. h.each d (omega arith) b))

-- good blocks are rows of points
pub good_rows_of : (v least most : ℕ) (B : List (List ℕ)) → position (λ row. not (is_block v least most row)) B ≡ None → All (IsRowOf v) B
good_rows_of v least most B e k d m =
    let b = block_from_test v least most (λ n. within least most n ≡ true) (λ n. ((λ e. e), (λ e. e))) (get_or B k d) (not-false _ (position_none (λ block. not (is_block v least most block)) B e k d m)) in
    record { rises = b.rises; below = b.below; size = tt }
