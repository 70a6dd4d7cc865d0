-- A table of pairs, marked for a line.
use Rattle.std.proofs.Common.{Bool, List, [], ap, ap₂, arith, false, get_or, inl, inr, length, refl, replicate, slice_set, subst, sym, take, true, ℕ, ◌&&◌, ◌*◌, ◌++◌, ◌+◌, ◌<◌, ◌==◌, ◌||◌, ◌∙◌, ◌∷◌, ◌≡◌, ◌≢◌}
use Rattle.counting.proofs.Booleans.{cases_eq, eq-eqb, eqb-turn, lt-ltb, ne_eqb, or_false, or_true}
use Rattle.std.proofs.lemmas.List.{get_or-replicate, get_or-set_other, get_or-set_same, length-replicate, take_more}
use Rattle.std.proofs.Math.Seq.{take-append_seam}
use Rattle.std.specs.Prelude.{nat_lt}
use Rattle.counting.specs.Sums.{one}
use Rattle.design_base.proofs.Cover.{cover-append, cover-none, cover-single, holds-append, holds-cons, holds-none}
use Rattle.design_base.specs.Blocks.{cover, holds}
use Rattle.design_base.specs.declared.limits.TheConstants.{POINTS_MAX}
use Rattle.spaces.specs.MetPairs.{AreMet, entry}

or_none : (a b : Bool) → a ≡ (a || (b && false))
or_none true b = refl
or_none false true = refl
or_none false false = refl

or_over : (a b c d : Bool) → ((a || (b && c)) || (b && d)) ≡ (a || (b && (c || d)))
or_over true b c d = refl
or_over false true c d = refl
or_over false false c d = refl

or_over_first : (a b c d : Bool) → ((a || (b && c)) || (d && c)) ≡ (a || ((b || d) && c))
or_over_first true b c d = refl
or_over_first false true true d = refl
or_over_first false true false true = refl
or_over_first false true false false = refl
or_over_first false false c d = refl

-- one entry more
entry_set : (met : List Bool) (x y z w : ℕ) → length met ≡ POINTS_MAX * POINTS_MAX → x < POINTS_MAX → y < POINTS_MAX → z < POINTS_MAX → w < POINTS_MAX → entry (slice_set met (x * POINTS_MAX + y) true) z w ≡ (entry met z w || ((z == x) && (y == w)))
entry_set met x y z w size lx ly lz lw = elim (cases_eq z x) [
  | inl e ↦ elim (cases_eq y w) [
    | inl f ↦ ap₂ (λ z w. entry (slice_set met (x * POINTS_MAX + y) true) z w) e (sym f) ∙ get_or-set_same met (x * POINTS_MAX + y) true false (omega (arith, size))
        ∙ sym (ap₂ (λ s t. entry met z w || (s && t)) (eq-eqb z x e) (eq-eqb y w f) ∙ or_true (entry met z w))
    | inr f ↦ other (omega arith) ∙ or_none (entry met z w) (z == x) ∙ ap (λ t. entry met z w || ((z == x) && t)) (sym (ne_eqb y w f))
  ]
  | inr e ↦ other (omega arith) ∙ met_alone (entry met z w) (y == w) ∙ ap (λ t. entry met z w || (t && (y == w))) (sym (ne_eqb z x e))
]
  where
    other : z * POINTS_MAX + w ≢ x * POINTS_MAX + y → entry (slice_set met (x * POINTS_MAX + y) true) z w ≡ entry met z w
    other d = get_or-set_other met (x * POINTS_MAX + y) (z * POINTS_MAX + w) true false d

    met_alone : (a b : Bool) → a ≡ (a || (false && b))
    met_alone true b = refl
    met_alone false b = refl

-- the points of a longer front
holds_front : (w : ℕ) (line : List ℕ) (i : ℕ) → i < length line → holds w (take (i + 1) line) ≡ (holds w (take i line) || (get_or line i 0 == w))
holds_front w line i l = ap (holds w) (take_more line i 0 l) ∙ holds-append w (take i line) (get_or line i 0 ∷ []) ∙ ap (λ t. holds w (take i line) || t) (holds-cons w (get_or line i 0) [] ∙ last (get_or line i 0 == w))
  where
    last : (t : Bool) → (t || holds w []) ≡ t
    last true = refl
    last false = holds-none w

module _ (line : List ℕ) (old : List Bool) where
  pub mark_none : (x z w : ℕ) → entry old z w ≡ (entry old z w || ((z == x) && holds w (take 0 line)))
  mark_none x z w = or_none (entry old z w) (z == x) ∙ ap (λ t. entry old z w || ((z == x) && t)) (sym (holds-none w))

  pub mark_next : (x i z w : ℕ) (met : List Bool) → length met ≡ POINTS_MAX * POINTS_MAX → x < POINTS_MAX → i < length line → get_or line i 0 < POINTS_MAX → z < POINTS_MAX → w < POINTS_MAX →
      entry met z w ≡ (entry old z w || ((z == x) && holds w (take i line))) → entry (slice_set met (x * POINTS_MAX + get_or line i 0) true) z w ≡ (entry old z w || ((z == x) && holds w (take (i + 1) line)))
  mark_next x i z w met size lx within ly lz lw is = entry_set met x (get_or line i 0) z w size lx ly lz lw ∙ ap (λ t. t || ((z == x) && (get_or line i 0 == w))) is
      ∙ or_over (entry old z w) (z == x) (holds w (take i line)) (get_or line i 0 == w) ∙ ap (λ t. entry old z w || ((z == x) && t)) (sym (holds_front w line i within))

  pub mark_line_none : (z w : ℕ) → entry old z w ≡ (entry old z w || (holds z (take 0 line) && holds w line))
  mark_line_none z w = or_first (entry old z w) (holds w line) ∙ ap (λ t. entry old z w || (t && holds w line)) (sym (holds-none z))
    where
      or_first : (a b : Bool) → a ≡ (a || (false && b))
      or_first true b = refl
      or_first false b = refl

  pub mark_line_next : (i z w : ℕ) (met new : List Bool) → i < length line → entry met z w ≡ (entry old z w || (holds z (take i line) && holds w line)) →
      entry new z w ≡ (entry met z w || ((z == get_or line i 0) && holds w line)) → entry new z w ≡ (entry old z w || (holds z (take (i + 1) line) && holds w line))
  mark_line_next i z w met new within is more = more ∙ ap₂ (λ t u. t || (u && holds w line)) is (eqb-turn z (get_or line i 0))
      ∙ or_over_first (entry old z w) (holds z (take i line)) (holds w line) (get_or line i 0 == z) ∙ ap (λ t. entry old z w || (t && holds w line)) (sym (holds_front z line i within))

-- ---- the table of a list of lines
pub no_line_met : AreMet [] (replicate (POINTS_MAX * POINTS_MAX) false)
no_line_met = record {
  count = length-replicate {A = Bool} (POINTS_MAX * POINTS_MAX) false;
  each = λ x y l m. get_or-replicate (POINTS_MAX * POINTS_MAX) (x * POINTS_MAX + y) false false (omega arith) ∙ ap (nat_lt 0) (sym (cover-none x y));
}

one_more : (n : ℕ) (t : Bool) → (nat_lt 0 n || t) ≡ nat_lt 0 (n + one t)
unfolding one
one_more n true = or_true (nat_lt 0 n) ∙ sym (lt-ltb 0 (n + 1) (omega arith))
one_more n false = or_false (nat_lt 0 n) ∙ ap (nat_lt 0) (let e : n ≡ n + 0 = omega arith in e)

line_met : (B : List (List ℕ)) (line : List ℕ) (old new : List Bool) → AreMet B old → length new ≡ POINTS_MAX * POINTS_MAX →
    ((x y : ℕ) → x < POINTS_MAX → y < POINTS_MAX → entry new x y ≡ (entry old x y || (holds x line && holds y line))) → AreMet (B ++ line ∷ []) new
line_met B line old new met size marked = record {
  count = size;
  each = λ x y l m. marked x y l m ∙ ap (λ t. t || (holds x line && holds y line)) (met.each x y l m) ∙ one_more (cover B x y) (holds x line && holds y line)
      ∙ ap (nat_lt 0) (ap (λ n. cover B x y + n) (sym (cover-single line x y)) ∙ sym (cover-append B (line ∷ []) x y));
}

-- the same where the table was written in place
pub line_written : (B C : List (List ℕ)) (line : List ℕ) (old new rest : List Bool) (n : ℕ) → AreMet B old → C ≡ B ++ line ∷ [] → length new ≡ POINTS_MAX * POINTS_MAX → n ≡ POINTS_MAX * POINTS_MAX →
    ((x y : ℕ) → x < POINTS_MAX → y < POINTS_MAX → entry new x y ≡ (entry old x y || (holds x line && holds y line))) → AreMet C (take n (new ++ rest))
line_written B C line old new rest n met pushed size all marked =
    let whole : take n (new ++ rest) ≡ new = ap (λ n. take n (new ++ rest)) (all ∙ sym size) ∙ take-append_seam new rest in
    subst (λ C. AreMet C (take n (new ++ rest))) (sym pushed) (subst (AreMet (B ++ line ∷ [])) (sym whole) (line_met B line old new met size marked))
