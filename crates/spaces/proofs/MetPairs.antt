-- In a walk by least points two points are met exactly where they are not the two least points of their line.
use Rattle.std.proofs.Common.{Bool, List, [], ap, arith, cond, false, inl, inr, refl, subst, suc, sym, true, zero, ℕ, ◌&&◌, ◌++◌, ◌+◌, ◌<◌, ◌∙◌, ◌∷◌, ◌≡◌, ◌⊎◌}
use Rattle.counting.proofs.Booleans.{bool_same, both, cases_Bool, cases_eq, false≢true, lt-ltb, ltb-true, not-false, not-true}
use Rattle.std.proofs.lemmas.List.{append_assoc}
use Rattle.std.specs.Prelude.{nat_lt, not}
use Rattle.counting.proofs.Counts.{one-false}
use Rattle.counting.specs.Sums.{join_below}
use Rattle.design_base.proofs.Cover.{cover-cons, cover-none}
use Rattle.design_base.specs.Blocks.{cover, holds}
use Rattle.spaces.proofs.EachLine.{among-join_below, covered_by}
use Rattle.spaces.proofs.LinearSpaces.{IsListed, are_least_tells, listed, same_least}
use Rattle.spaces.proofs.Once.{Among, among-append}
use Rattle.spaces.proofs.Rising.{lines_from-left, lines_from-taken}
use Rattle.spaces.specs.Least.{are_least, line_at, lines_from, rising_lines}
use Rattle.spaces.specs.LinearSpaces.{IsLinearSpace}

-- a block that holds two points that are covered
record IsHolder (B : List (List ℕ)) (x y : ℕ) (b : List ℕ) : Type 0 where
  among : Among b B
  first : holds x b ≡ true
  second : holds y b ≡ true

holder : (B : List (List ℕ)) (x y : ℕ) → 0 < cover B x y → (b : List ℕ) × IsHolder B x y b
holder [] x y some = absurd (omega (arith, some, cover-none x y))
holder (b ∷ B) x y some = elim (cases_Bool (holds x b && holds y b)) [
  | inl e ↦ let h = both _ _ e in (b, record { among = inl refl; first = h.0; second = h.1 })
  | inr e ↦
      let h = holder B x y (omega (arith, some, cover-cons b B x y, one-false (holds x b && holds y b) (λ f. false≢true (sym e ∙ f)))) in
      (h.0, record { among = inr h.1.among; first = h.1.first; second = h.1.second })
]

-- where an element of joined lists stands
among_append-tells : {X : Type 0} (z : X) (xs ys : List X) → Among z (xs ++ ys) → Among z xs ⊎ Among z ys
among_append-tells z [] ys a = inr a
among_append-tells z (x ∷ xs) ys (inl e) = inl (inl e)
among_append-tells z (x ∷ xs) ys (inr a) = elim (among_append-tells z xs ys a) [ inl b ↦ inl (inr b) | inr b ↦ inr b ]

among_join_below-tells : {X : Type 0} (z : X) (n : ℕ) (f : ℕ → List X) → Among z (join_below n f) → (i : ℕ) × (i < n) × Among z (f i)
unfolding join_below
among_join_below-tells z zero f a = absurd a
among_join_below-tells z (suc n) f a = elim (among_append-tells z (join_below n f) (f n) a) [
  | inl b ↦ let h = among_join_below-tells z n f b in (h.0, omega (arith, h.1), h.2)
  | inr b ↦ (n, omega arith, b)
]

module _ (line : ℕ → ℕ → List ℕ) where
  -- z is the line of a and b, its two least points
  record IsFrom (z : List ℕ) (a b : ℕ) : Type 0 where
    rises : a < b
    least : are_least a b (line a b) ≡ true
    same : z ≡ line a b

  from_tells : (z : List ℕ) (a n : ℕ) → Among z (lines_from line a n) → (b : ℕ) × (b < n) × IsFrom z a b
  unfolding lines_from
  from_tells z a n h =
      let t = among_join_below-tells z n _ h in (
        t.0,
        t.1,
        elim (cases_Bool (nat_lt a t.0)) [
          | inl e ↦ elim (cases_Bool (are_least a t.0 (line a t.0))) [
            | inl f ↦ record { rises = ltb-true a t.0 e; least = f; same = single (subst (λ c. Among z (cond c (line a t.0 ∷ []) [])) f (subst (λ c. Among z (cond c (line_at a t.0 (line a t.0)) [])) e t.2)) }
            | inr f ↦ absurd (subst (λ c. Among z (cond c (line a t.0 ∷ []) [])) f (subst (λ c. Among z (cond c (line_at a t.0 (line a t.0)) [])) e t.2))
          ]
          | inr e ↦ absurd (subst (λ c. Among z (cond c (line_at a t.0 (line a t.0)) [])) e t.2)
        ],
      )
    where
      single : {z c : List ℕ} → Among z (c ∷ []) → z ≡ c
      single (inl e) = e
      single (inr a) = absurd a

  among_from : (a b n : ℕ) → a < b → b < n → are_least a b (line a b) ≡ true → Among (line a b) (lines_from line a n)
  unfolding lines_from
  among_from a b n l m e = among-join_below (line a b) n b _ m
      (subst (λ c. Among (line a b) (cond c (line_at a b (line a b)) [])) (sym (lt-ltb a b l)) (subst (λ c. Among (line a b) (cond c (line a b ∷ []) [])) (sym e) (inl refl)))

  -- the lines of the pairs before x and y
  abbrev before_pair : ℕ → ℕ → ℕ → List (List ℕ)
  before_pair v x y = rising_lines line v x ++ lines_from line x y

  among_before : (v x y a b : ℕ) → a < b → b < v → are_least a b (line a b) ≡ true → (a < x) ⊎ ((a ≡ x) × (b < y)) → Among (line a b) (before_pair v x y)
  unfolding rising_lines
  among_before v x y a b l m e (inl less) = among-append (line a b) _ _ (inl (among-join_below (line a b) x a _ less (among_from a b v l m e)))
  among_before v x y a b l m e (inr same) = among-append (line a b) (rising_lines line v x) _ (inr (subst (λ a'. Among (line a b) (lines_from line a' y)) same.0 (among_from a b y l same.1 e)))

  before_tells : (v x y : ℕ) (z : List ℕ) → y < v → Among z (before_pair v x y) → (a : ℕ) × (b : ℕ) × (b < v) × IsFrom z a b × ((a < x) ⊎ ((a ≡ x) × (b < y)))
  unfolding rising_lines
  before_tells v x y z l h = elim (among_append-tells z (rising_lines line v x) (lines_from line x y) h) [
    | inl e ↦ let a = among_join_below-tells z x _ e in let b = from_tells z a.0 v a.2 in (a.0, b.0, b.1, b.2, inl a.1)
    | inr e ↦ let b = from_tells z x y e in (x, b.0, omega (arith, b.1), b.2, inr (refl, b.1))
  ]

  module _ (v k : ℕ) (s : IsLinearSpace v k line) (x y : ℕ) (l : x < y) (m : y < v) where
    met_not_least : nat_lt 0 (cover (before_pair v x y) x y) ≡ true → not (are_least x y (line x y)) ≡ true
    met_not_least met = elim (cases_Bool (are_least x y (line x y))) [
      | inr e ↦ ap not e
      | inl e ↦
          let h = holder (before_pair v x y) x y (ltb-true 0 _ met) in
          let t = before_tells v x y h.0 m h.1.among in
          let f : IsFrom h.0 t.0 t.1 = t.3 in
          let first : holds x (line t.0 t.1) ≡ true = subst (λ b. holds x b ≡ true) f.same h.1.first in
          let second : holds y (line t.0 t.1) ≡ true = subst (λ b. holds y b ≡ true) f.same h.1.second in
          let same : (z : ℕ) → holds z (line t.0 t.1) ≡ holds z (line x y) = λ z. s.joins t.0 t.1 x y z f.rises t.2 l m first second in
          let pair = same_least t.0 t.1 x y (λ z. holds z (line t.0 t.1)) (record {
            rises = f.rises;
            least = s.first t.0 t.1 f.rises t.2;
            next = s.second t.0 t.1 f.rises t.2;
            others = are_least_tells t.0 t.1 (line t.0 t.1) f.least;
          }) (record {
            rises = l;
            least = first;
            next = second;
            others = λ z g. are_least_tells x y (line x y) e z (sym (same z) ∙ g);
          }) in
          elim t.4 [
            | inl less ↦ absurd (omega (arith, less, pair.0))
            | inr less ↦ absurd (omega (arith, less.1, pair.1))
          ]
    ]

    not_least_met : not (are_least x y (line x y)) ≡ true → nat_lt 0 (cover (before_pair v x y) x y) ≡ true
    not_least_met other =
        let t = listed v k line s x y l m in
        let h : IsListed v k line s x y t.0 t.1 = t.2 in
        let met : (t.0 < x) ⊎ ((t.0 ≡ x) × (t.1 < y)) → nat_lt 0 (cover (before_pair v x y) x y) ≡ true = λ earlier. lt-ltb 0 _ (
        covered_by (line t.0 t.1) (before_pair v x y) x y (among_before v x y t.0 t.1 h.pair.rises h.small h.listed earlier) (sym (h.same x) ∙ s.first x y l m) (sym (h.same y) ∙ s.second x y l m)
        ) in
        elim (h.pair.others x (s.first x y l m)) [
          | inr less ↦ met (inl (omega (arith, less, h.pair.rises)))
          | inl same ↦ elim (h.pair.others y (s.second x y l m)) [
            | inl e ↦ absurd (omega (arith, e, same))
            | inr less ↦ elim (cases_eq t.1 y) [
              | inr d ↦ met (inr (sym same, omega (arith, less, d)))
              | inl e ↦ absurd (false≢true (sym (ap not (subst (λ b. are_least x b (line x b) ≡ true) e (subst (λ a. are_least a t.1 (line a t.1) ≡ true) (sym same) h.listed))) ∙ other))
            ]
          ]
        ]

    pub met_exactly : nat_lt 0 (cover (rising_lines line v x ++ lines_from line x y) x y) ≡ not (are_least x y (line x y))
    met_exactly = bool_same _ _ met_not_least not_least_met

  -- ---- the next pair of a walk
  module _ (v k : ℕ) (s : IsLinearSpace v k line) (x y : ℕ) (l : x < y) (m : y < v) (B : List (List ℕ)) (listed : B ≡ rising_lines line v x ++ lines_from line x y) (met : Bool) (tells : met ≡ nat_lt 0 (cover B x y)) where
    met_is : met ≡ not (are_least x y (line x y))
    met_is = tells ∙ ap (λ B. nat_lt 0 (cover B x y)) listed ∙ met_exactly v k s x y l m

    pub pair_taken : met ≡ false → B ++ line x y ∷ [] ≡ rising_lines line v x ++ lines_from line x (y + 1)
    pair_taken e = ap (λ B. B ++ line x y ∷ []) listed ∙ append_assoc (rising_lines line v x) (lines_from line x y) (line x y ∷ []) ∙ ap (λ C. rising_lines line v x ++ C) (sym (lines_from-taken line x y l (not-false _ (sym met_is ∙ e))))

    pub pair_left : met ≡ true → B ≡ rising_lines line v x ++ lines_from line x (y + 1)
    pair_left e = listed ∙ ap (λ C. rising_lines line v x ++ C) (sym (lines_from-left line x y l (not-true _ (sym met_is ∙ e))))
