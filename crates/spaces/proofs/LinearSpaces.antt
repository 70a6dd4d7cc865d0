-- Geometries in which two points have one line. Each line, listed for its two least points, is there once.
use Rattle.std.proofs.Common.{Bool, List, [], ap, arith, cond, false, inl, inr, refl, subst, suc, sym, true, zero, ℕ, ◌&&◌, ◌<◌, ◌==◌, ◌||◌, ◌∙◌, ◌∷◌, ◌≡◌, ◌≢◌, ◌≤◌, ◌⊎◌}
use Rattle.counting.proofs.Booleans.{and_from, both, cases_Bool, cases_eq, cases_lt, cond_both, eq-eqb, eqb-true, false≢true, le-leb, leb-true, ne_eqb, not_from_false, or_cases, or_left, or_right}
use Rattle.std.proofs.lemmas.List.Elements.{All-cons, All-nil}
use Rattle.std.specs.List.{list_all}
use Rattle.std.specs.Prelude.{All, nat_le, not}
use Rattle.counting.proofs.Counts.{count_pairs, one-false, pairs_one, sum_below-same}
use Rattle.counting.proofs.Ranges.{All-join_below}
use Rattle.counting.specs.Sums.{one}
use Rattle.design_base.proofs.Canonical.{IsLoose, IsPointSet, design_from_loose}
use Rattle.design_base.proofs.Cover.{cover-join_below, cover-none, cover-single, holds-cons, holds-none}
use Rattle.design_base.specs.Blocks.{IsBibd, cover, holds}
use Rattle.design_base.specs.Canonical.{canonical}
use Rattle.spaces.specs.Least.{are_least, least_lines, line_at, lines_to}
pub use Rattle.spaces.specs.LinearSpaces.{IsLinearSpace}

-- the least number below n that passes a test
pub least_below : (p : ℕ → Bool) (n : ℕ) → ((i : ℕ) → i < n → p i ≡ true → ⊥) ⊎ ((m : ℕ) × (m < n) × (p m ≡ true) × ((i : ℕ) → i < m → p i ≡ true → ⊥))
least_below p zero = inl (λ i l e. absurd (omega arith))
least_below p (suc n) = elim (least_below p n) [
  | inr found ↦ inr (found.0, omega (arith, found.1), found.2, found.3)
  | inl none ↦ elim (cases_Bool (p n)) [
    | inl e ↦ inr (n, omega arith, e, none)
    | inr e ↦ inl (λ i l f. elim (cases_eq i n) [
      | inl s ↦ false≢true (sym e ∙ sym (ap p s) ∙ f)
      | inr d ↦ none i (omega arith) f
    ])
  ]
]

-- and at or below one that passes
least_from : (p : ℕ → Bool) (n : ℕ) → p n ≡ true → (m : ℕ) × (m ≤ n) × (p m ≡ true) × ((i : ℕ) → i < m → p i ≡ true → ⊥)
least_from p n e = elim (least_below p (suc n)) [
  | inl none ↦ absurd (none n (omega arith) e)
  | inr found ↦ (found.0, omega (arith, found.1), found.2, found.3)
]

-- what a test of each point says of one
all_at : (p : ℕ → Bool) (x : ℕ) (b : List ℕ) → list_all p b ≡ true → holds x b ≡ true → p x ≡ true
all_at p x [] h e = absurd (false≢true (sym (holds-none x) ∙ e))
all_at p x (z ∷ b) h e = let h = both _ _ h in elim (or_cases (z == x) (holds x b) (sym (holds-cons x z b) ∙ e)) [
  | inl f ↦ subst (λ y. p y ≡ true) (eqb-true z x f) h.0
  | inr f ↦ all_at p x b h.1 f
]

all_from : (p : ℕ → Bool) (b : List ℕ) → ((x : ℕ) → holds x b ≡ true → p x ≡ true) → list_all p b ≡ true
all_from p [] h = refl
all_from p (z ∷ b) h = and_from _ _ (h z (holds-cons z z b ∙ or_left _ _ (eq-eqb z z refl))) (all_from p b (λ x e. h x (holds-cons x z b ∙ or_right _ _ e)))

-- ---- the two least points of a set
pub record AreLeast (a b : ℕ) (set : ℕ → Bool) : Type 0 where
  pub rises : a < b
  pub least : set a ≡ true
  pub next : set b ≡ true
  pub others : (z : ℕ) → set z ≡ true → (z ≡ a) ⊎ (b ≤ z)

two_least : (set : ℕ → Bool) (u w : ℕ) → u < w → set u ≡ true → set w ≡ true → (a : ℕ) × (b : ℕ) × (b ≤ w) × AreLeast a b set
two_least set u w l e f =
    let a = least_from set u e in
    let b = least_from (λ z. set z && not (z == a.0)) w (and_from _ _ f (not_from_false _ (ne_eqb w a.0 (λ g. absurd (omega (arith, a.1)))))) in
    let at : (set b.0 ≡ true) × (not (b.0 == a.0) ≡ true) = both _ _ b.2 in
    let apart : b.0 ≢ a.0 = λ g. false≢true (sym (ap not (eq-eqb b.0 a.0 g)) ∙ at.1) in (
      a.0,
      b.0,
      b.1,
      record {
        rises = elim (cases_lt a.0 b.0) [ inl g ↦ g | inr g ↦ absurd (a.3 b.0 (omega arith) at.0) ];
        least = a.2;
        next = at.0;
        others = λ z h. elim (cases_eq z a.0) [
          | inl g ↦ inl g
          | inr g ↦ elim (cases_lt z b.0) [
            | inl m ↦ absurd (b.3 z m (and_from _ _ h (not_from_false _ (ne_eqb z a.0 g))))
            | inr m ↦ inr m
          ]
        ];
      },
    )

-- a set has one such pair
pub same_least : (a b x y : ℕ) (set : ℕ → Bool) → AreLeast a b set → AreLeast x y set → (x ≡ a) × (y ≡ b)
same_least a b x y set s t =
    let first : x ≡ a = elim (s.others x t.least) [
      | inl e ↦ e
      | inr l ↦ elim (t.others a s.least) [ inl e ↦ sym e | inr m ↦ absurd (omega (arith, s.rises, t.rises)) ]
    ] in (
      first,
      elim (s.others y t.next) [
        | inl e ↦ absurd (omega (arith, t.rises))
        | inr l ↦ elim (t.others b s.next) [ inl e ↦ absurd (omega (arith, s.rises)) | inr m ↦ omega arith ]
      ],
    )

are_least_from : (x y : ℕ) (b : List ℕ) → AreLeast x y (λ z. holds z b) → are_least x y b ≡ true
are_least_from x y b s = all_from (λ z. z == x || nat_le y z) b (λ z h. elim (s.others z h) [
  | inl e ↦ or_left _ _ (eq-eqb z x e)
  | inr l ↦ or_right _ _ (le-leb y z l)
])

pub are_least_tells : (x y : ℕ) (b : List ℕ) → are_least x y b ≡ true → (z : ℕ) → holds z b ≡ true → (z ≡ x) ⊎ (y ≤ z)
are_least_tells x y b e z h = elim (or_cases (z == x) (nat_le y z) (all_at (λ z. z == x || nat_le y z) z b e h)) [
  | inl f ↦ inl (eqb-true z x f)
  | inr f ↦ inr (leb-true y z f)
]

module _ (v k : ℕ) (line : ℕ → ℕ → List ℕ) (s : IsLinearSpace v k line) where
  -- the points of the line of u and w
  on : ℕ → ℕ → ℕ → Bool
  on u w z = holds z (line u w)

  -- the line of u and w is listed for a and b
  pub record IsListed (u w a b : ℕ) : Type 0 where
    pub small : b < v
    pub pair : AreLeast a b (λ z. holds z (line u w))
    pub same : (z : ℕ) → holds z (line u w) ≡ holds z (line a b)
    pub listed : are_least a b (line a b) ≡ true

  pub listed : (u w : ℕ) → u < w → w < v → (a : ℕ) × (b : ℕ) × IsListed u w a b
  listed u w l m =
      let t = two_least (λ z. holds z (line u w)) u w l (s.first u w l m) (s.second u w l m) in
      let pair : AreLeast t.0 t.1 (λ z. holds z (line u w)) = t.3 in
      let small : t.1 < v = omega (arith, t.2) in
      let same : (z : ℕ) → holds z (line u w) ≡ holds z (line t.0 t.1) = λ z. s.joins u w t.0 t.1 z l m pair.rises small pair.least pair.next in (
        t.0,
        t.1,
        record {
          small = small;
          pair = pair;
          same = same;
          listed = are_least_from t.0 t.1 (line t.0 t.1) (record {
            rises = pair.rises;
            least = sym (same t.0) ∙ pair.least;
            next = sym (same t.1) ∙ pair.next;
            others = λ z h. pair.others z (same z ∙ h);
          });
        },
      )

  -- ---- covers
  holds_both : ℕ → ℕ → List ℕ → Bool
  holds_both u w b = holds u b && holds w b

  cover-line_at : (u w x y : ℕ) → cover (line_at x y (line x y)) u w ≡ one (are_least x y (line x y) && holds_both u w (line x y))
  unfolding holds_both
  cover-line_at u w x y = go (are_least x y (line x y))
    where
      go : (t : Bool) → cover (cond t (line x y ∷ []) []) u w ≡ one (t && (holds u (line x y) && holds w (line x y)))
      go true = cover-single (line x y) u w
      go false = cover-none u w ∙ sym (one-false false (λ e. false≢true e))

  cover-least_lines : (u w : ℕ) → cover (least_lines line v) u w ≡ count_pairs v (λ x y. are_least x y (line x y) && holds_both u w (line x y))
  unfolding least_lines lines_to
  cover-least_lines u w = cover-join_below v _ u w
      ∙ sum_below-same v _ _ (λ y l. cover-join_below y (λ x. line_at x y (line x y)) u w ∙ sum_below-same y _ _ (λ x m. cover-line_at u w x y))

  pub covered_once : (u w : ℕ) → u < w → w < v → cover (least_lines line v) u w ≡ 1
  unfolding holds_both
  covered_once u w l m =
      let t = listed u w l m in
      let h : IsListed u w t.0 t.1 = t.2 in
      cover-least_lines u w ∙ pairs_one v t.0 t.1 (λ x y. are_least x y (line x y) && holds_both u w (line x y)) h.pair.rises h.small
      (and_from _ _ h.listed (and_from _ _ (sym (h.same u) ∙ s.first u w l m) (sym (h.same w) ∙ s.second u w l m)))
      (λ x y a b e.
      let e = both _ _ e in
      let g = both _ _ e.1 in
      let same : (z : ℕ) → holds z (line x y) ≡ holds z (line u w) = λ z. s.joins x y u w z a b l m g.0 g.1 in
      same_least t.0 t.1 x y (λ z. holds z (line u w)) h.pair (record {
        rises = a;
        least = sym (same x) ∙ s.first x y a b;
        next = sym (same y) ∙ s.second x y a b;
        others = λ z f. are_least_tells x y (line x y) e.0 z (same z ∙ f);
      }))

  -- each block that is listed is the line of two points
  pub each_line : (P : List ℕ → Type 0) → ((x y : ℕ) → x < y → y < v → P (line x y)) → All P (least_lines line v)
  unfolding least_lines lines_to
  each_line P h = All-join_below P v _ (λ y l. All-join_below P y _ (λ x m.
      cond_both (are_least x y (line x y)) _ _ (All P) (λ e. All-cons P (line x y) [] (h x y m l) (All-nil P)) (λ e. All-nil P)))

  pub loose : IsLoose (least_lines line v) v (λ s. s ≡ k) (λ x y. 1)
  loose = record { blocks = each_line (IsPointSet v (λ s. s ≡ k)) s.set; pairs = covered_once }

  pub design : IsBibd (canonical (least_lines line v)) v k 1
  design = design_from_loose v (λ s. s ≡ k) (least_lines line v) (λ x y. 1) loose
