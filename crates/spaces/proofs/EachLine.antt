-- The lines that are listed for their two least points are all lines, each once.
use Rattle.std.proofs.Common.{List, [], arith, cond, inl, inr, map, refl, subst, suc, sym, true, zero, ℕ, ◌&&◌, ◌<◌, ◌==◌, ◌∙◌, ◌∷◌, ◌≡◌, ◌≢◌, ◌≤◌}
use Rattle.counting.proofs.Booleans.{and_from, cases_eq, eq-eqb, eqb-true, false≢true, or_cases, or_left, or_right}
use Rattle.std.proofs.lemmas.List.Elements.{recursion_from_All}
use Rattle.std.specs.List.{AllByRecursion}
use Rattle.std.specs.Prelude.{nat_le}
use Rattle.counting.proofs.Counts.{one-true}
use Rattle.counting.proofs.Lists.{each-weaker, each_map}
use Rattle.counting.proofs.Sorting.{each-sort_by, nat_le-order, ordered-sort_by}
use Rattle.counting.specs.Sorting.{Ordered, sort_by}
use Rattle.counting.specs.Sums.{join_below, list_below}
use Rattle.design_base.proofs.Canonical.{Differs, differs_from_rises, holds-sort_by, rises-sort_by}
use Rattle.design_base.proofs.Cover.{cover-cons, holds-cons, holds-none}
use Rattle.design_base.proofs.Sorted.{lex_le-order}
use Rattle.design_base.specs.Blocks.{cover, holds}
use Rattle.design_base.specs.Canonical.{canonical, lex_le}
use Rattle.spaces.specs.Least.{are_least, least_lines, lines_to}
use Rattle.spaces.specs.Lines.{each_once}
use Rattle.spaces.proofs.Once.{Among, Apart, Within, among-append, among-dedup, among-sort_by, among_map, apart-dedup, each-dedup, ordered-dedup, same_once, within_self}
use Rattle.spaces.proofs.LinearSpaces.{IsLinearSpace, IsListed, design, each_line, listed}

-- ---- sets of points
among_from_holds : (z : ℕ) (b : List ℕ) → holds z b ≡ true → Among z b
among_from_holds z [] h = absurd (false≢true (sym (holds-none z) ∙ h))
among_from_holds z (y ∷ b) h = elim (or_cases (y == z) (holds z b) (sym (holds-cons z y b) ∙ h)) [
  | inl e ↦ inl (sym (eqb-true y z e))
  | inr e ↦ inr (among_from_holds z b e)
]

each_holds : (b : List ℕ) → AllByRecursion (λ z. holds z b ≡ true) b
each_holds [] = tt
each_holds (y ∷ b) = (
  holds-cons y y b ∙ or_left _ _ (eq-eqb y y refl),
  each-weaker (λ z. holds z b ≡ true) (λ z. holds z (y ∷ b) ≡ true) (λ z e. holds-cons z y b ∙ or_right _ _ e) b (each_holds b),
)

apart_from_differs : (b : List ℕ) → Differs b → Apart b
apart_from_differs [] d = tt
apart_from_differs (x ∷ b) d = (d.0, apart_from_differs b d.1)

-- two lists of different points with the same points have one sorted form
pub same_set : (a b : List ℕ) → Differs a → Differs b → ((z : ℕ) → holds z a ≡ holds z b) → sort_by nat_le a ≡ sort_by nat_le b
same_set a b d e same = same_once nat_le nat_le-order (sort_by nat_le a) (sort_by nat_le b)
    (ordered-sort_by nat_le nat_le-order a)
    (ordered-sort_by nat_le nat_le-order b)
    (apart_from_differs _ (differs_from_rises _ (rises-sort_by a d)))
    (apart_from_differs _ (differs_from_rises _ (rises-sort_by b e)))
    (within a b (λ z h. sym (same z) ∙ h))
    (within b a (λ z h. same z ∙ h))
  where
    within : (a b : List ℕ) → ((z : ℕ) → holds z a ≡ true → holds z b ≡ true) → Within (sort_by nat_le a) (sort_by nat_le b)
    within a b to = each-sort_by nat_le (λ z. Among z (sort_by nat_le b)) a
        (each-weaker (λ z. holds z a ≡ true) (λ z. Among z (sort_by nat_le b)) (λ z h. among-sort_by nat_le z b (among_from_holds z b (to z h))) a (each_holds a))

-- ---- blocks that hold two points, which no other block holds
abbrev HoldsTwo : ℕ → List ℕ → Type 0
HoldsTwo v b = (x : ℕ) × (y : ℕ) × (x < y) × (y < v) × (holds x b ≡ true) × (holds y b ≡ true)

pub covered_by : (c : List ℕ) (B : List (List ℕ)) (x y : ℕ) → Among c B → holds x c ≡ true → holds y c ≡ true → 0 < cover B x y
covered_by c [] x y a h g = absurd a
covered_by c (b ∷ B) x y (inl e) h g = omega (arith, cover-cons b B x y, one-true (holds x b && holds y b) (subst (λ c. (holds x c && holds y c) ≡ true) e (and_from _ _ h g)))
covered_by c (b ∷ B) x y (inr a) h g = omega (arith, cover-cons b B x y, covered_by c B x y a h g)

apart_from_cover : (v : ℕ) (B : List (List ℕ)) → AllByRecursion (HoldsTwo v) B → ((x y : ℕ) → x < y → y < v → cover B x y ≤ 1) → Apart B
apart_from_cover v [] h c = tt
apart_from_cover v (b ∷ B) h c = (
  each-weaker (λ d. Among d B) (λ d. b ≢ d) (λ d a e.
      let two = h.0 in
      absurd (omega (
        arith,
        c two.0 two.1 two.2 two.3,
        cover-cons b B two.0 two.1,
        one-true (holds two.0 b && holds two.1 b) (and_from _ _ two.4 two.5),
        covered_by d B two.0 two.1 a (subst (λ d. holds two.0 d ≡ true) e two.4) (subst (λ d. holds two.1 d ≡ true) e two.5),
      ))) B (within_self B),
  apart_from_cover v B h.1 (λ x y l m. omega (arith, c x y l m, cover-cons b B x y)),
)

pub among-join_below : {X : Type 0} (z : X) (n i : ℕ) (f : ℕ → List X) → i < n → Among z (f i) → Among z (join_below n f)
unfolding join_below
among-join_below z zero i f l a = absurd (omega arith)
among-join_below z (suc n) i f l a = among-append z (join_below n f) (f n) (elim (cases_eq i n) [
  | inl e ↦ inr (subst (λ k. Among z (f k)) e a)
  | inr d ↦ inl (among-join_below z n i f (omega arith) a)
])

pub among-list_below : {X : Type 0} (z : X) (n i : ℕ) (f : ℕ → X) → i < n → z ≡ f i → Among z (list_below n f)
among-list_below z n i f l e = among-join_below z n i (λ i. f i ∷ []) l (inl e)

module _ (v k : ℕ) (line : ℕ → ℕ → List ℕ) (s : IsLinearSpace v k line) where
  -- the points of b are those of the line of x and y
  pub record IsLineOf (b : List ℕ) (x y : ℕ) : Type 0 where
    pub differs : Differs b
    pub same : (z : ℕ) → holds z b ≡ holds z (line x y)

  abbrev pub IsSomeLine : List ℕ → Type 0
  IsSomeLine b = (x : ℕ) × (y : ℕ) × (x < y) × (y < v) × IsLineOf b x y

  -- the blocks are the lines of two points, and each such line is a block
  pub record HoldsEachLine (A : List (List ℕ)) : Type 0 where
    pub lines : AllByRecursion IsSomeLine A
    pub found : (x y : ℕ) → x < y → y < v → (b : List ℕ) × Among b A × IsLineOf b x y

  abbrev L : List (List ℕ)
  L = least_lines line v

  sorted_line : (b : List ℕ) (x y : ℕ) → x < y → y < v → IsLineOf b x y → sort_by nat_le b ≡ sort_by nat_le (line x y)
  sorted_line b x y l m h = same_set b (line x y) h.differs (s.set x y l m).differs h.same

  among_least : (a b : ℕ) → a < b → b < v → are_least a b (line a b) ≡ true → Among (line a b) L
  unfolding least_lines lines_to
  among_least a b l m e = among-join_below (line a b) v b _ m (among-join_below (line a b) b a _ l (subst (λ t. Among (line a b) (cond t (line a b ∷ []) [])) (sym e) (inl refl)))

  -- the line of two points, sorted, is among those listed
  among_listed : (x y : ℕ) → x < y → y < v → Among (sort_by nat_le (line x y)) (canonical L)
  unfolding canonical
  among_listed x y l m =
      let t = listed v k line s x y l m in
      let h : IsListed v k line s x y t.0 t.1 = t.2 in
      let e : sort_by nat_le (line x y) ≡ sort_by nat_le (line t.0 t.1) = same_set (line x y) (line t.0 t.1) (s.set x y l m).differs (s.set t.0 t.1 h.pair.rises h.small).differs h.same in
      subst (λ b. Among b (sort_by lex_le (map (sort_by nat_le) L))) (sym e)
      (among-sort_by lex_le _ _ (among_map (sort_by nat_le) (line t.0 t.1) L (among_least t.0 t.1 h.pair.rises h.small h.listed)))

  each_holds_two : AllByRecursion (HoldsTwo v) (canonical L)
  unfolding canonical
  each_holds_two = each-sort_by lex_le (HoldsTwo v) (map (sort_by nat_le) L) (each_map (sort_by nat_le) (λ b. HoldsTwo v (sort_by nat_le b)) (HoldsTwo v) (λ b h. h) L
      (recursion_from_All _ L (each_line v k line s (λ b. HoldsTwo v (sort_by nat_le b)) (λ x y l m. (
        x,
        y,
        l,
        m,
        holds-sort_by nat_le x (line x y) ∙ s.first x y l m,
        holds-sort_by nat_le y (line x y) ∙ s.second x y l m,
      )))))

  apart_listed : Apart (canonical L)
  apart_listed = apart_from_cover v (canonical L) each_holds_two (λ x y l m. omega (arith, (design v k line s).pairs x y l m))

  ordered : (B : List (List ℕ)) → Ordered lex_le (canonical B)
  unfolding canonical
  ordered B = ordered-sort_by lex_le lex_le-order (map (sort_by nat_le) B)

  module _ (A : List (List ℕ)) (each : HoldsEachLine A) where
    listed_within : Within (canonical L) (each_once A)
    unfolding each_once canonical
    listed_within = each-sort_by lex_le (λ c. Among c (each_once A)) (map (sort_by nat_le) L)
        (each_map (sort_by nat_le) (λ b. Among (sort_by nat_le b) (each_once A)) (λ c. Among c (each_once A)) (λ b a. a) L
        (recursion_from_All _ L (each_line v k line s (λ b. Among (sort_by nat_le b) (each_once A)) (λ x y l m.
        let f = each.found x y l m in
        subst (λ c. Among c (each_once A)) (sorted_line f.0 x y l m f.2)
        (among-dedup lex_le lex_le-order _ (canonical A) (among-sort_by lex_le _ _ (among_map (sort_by nat_le) f.0 A f.1)))))))

    within_listed : Within (each_once A) (canonical L)
    unfolding each_once canonical
    within_listed = each-dedup lex_le lex_le-order (λ c. Among c (canonical L)) (canonical A)
        (each-sort_by lex_le (λ c. Among c (canonical L)) (map (sort_by nat_le) A)
        (each_map (sort_by nat_le) IsSomeLine (λ c. Among c (canonical L))
        (λ b h. subst (λ c. Among c (canonical L)) (sym (sorted_line b h.0 h.1 h.2 h.3 h.4)) (among_listed h.0 h.1 h.2 h.3)) A each.lines))

    pub each_line_once : canonical L ≡ each_once A
    unfolding each_once
    each_line_once = same_once lex_le lex_le-order (canonical L) (each_once A) (ordered L) (ordered-dedup lex_le lex_le-order (canonical A) (ordered A))
        apart_listed (apart-dedup lex_le lex_le-order (canonical A) (ordered A)) listed_within within_listed
