-- Whether lines answer premises, one premise after another.
use Rattle.std.proofs.Common.{◌≡◌, ◌≢◌, ℕ, suc, ◌+◌, ◌-◌, ◌<◌, ◌≤◌, Bool, true, false, ◌&&◌, List, [], ◌∷◌, arith, refl, ap, sym, ◌∙◌, length, get_or, drop, add-one, drop-cons}
use Rattle.std.specs.Prelude.{Option, Some, None, slice_get}
use Rattle.std.proofs.Math.Seq.{drop-length}
use Rattle.std.proofs.lemmas.List.{get_or_default}
use Rattle.std.proofs.lemmas.Option.{slice_get_read}
use Rattle.design_base.specs.declared.query.Query.{Query}
use Rattle.design_base.specs.Same.{same_query}
use Rattle.derivations.specs.declared.line.Line.{Line}
use Rattle.derivations.specs.Derivations.{answers, question_at}
use Rattle.design_base.proofs.Same.{query_same}

pub other_length : (D : List Line) (from : List ℕ) (ps : List Query) → length from ≢ length ps → false ≡ answers D from ps
unfolding answers
other_length D [] [] n = absurd (n refl)
other_length D [] (p ∷ ps) n = refl
other_length D (i ∷ is) [] n = refl
other_length D (i ∷ is) (p ∷ ps) n = split (question_at D i) (other_length D is ps (λ e. n (omega arith)))
  where
    none : (b : Bool) → false ≡ (b && false)
    none true = refl
    none false = refl

    split : (o : Option Query) → false ≡ answers D is ps → ◌≡◌ {A = Bool} false (elim o [ Some q ↦ same_query q p && answers D is ps | None ↦ false ])
    split None e = refl
    split (Some q) e = none (same_query q p) ∙ ap (λ b. same_query q p && b) e

-- the line that number i names answers the premise, or does not
pub answers_at : (D : List Line) (from : List ℕ) (ps : List Query) (k : ℕ) (l : Line) (p : Query) → k < length from → k < length ps → get_or from k 0 - 1 < length D
    → l ≡ get_or D (get_or from k 0 - 1) l → p ≡ get_or ps k p → answers D (drop k from) (drop k ps) ≡ (same_query l.query p && answers D (drop (k + 1) from) (drop (k + 1) ps))
unfolding answers
answers_at D from ps k l p h i b e f =
    let x : ℕ = get_or from k 0 in
    let d : drop k from ≡ x ∷ drop (k + 1) from = rw (add-one, drop-cons from k 0) refl in
    let c : drop k ps ≡ p ∷ drop (k + 1) ps = rw (add-one, drop-cons ps k p) (ap (λ y. y ∷ drop (suc k) ps) (sym f)) in
    ap (λ ys. answers D ys (drop k ps)) d ∙ ap (λ ys. answers D (x ∷ drop (k + 1) from) ys) c ∙ split (slice_get D (x - 1)) (slice_get_read D (length D) (x - 1) l refl b e)
  where
    split : (o : Option Line) → o ≡ Some l → ◌≡◌ {A = Bool}
        (elim (elim o as (λ _. Option Query) [ Some l ↦ Some l.query | None ↦ None ]) [ Some q ↦ same_query q p && answers D (drop (k + 1) from) (drop (k + 1) ps) | None ↦ false ])
        (same_query l.query p && answers D (drop (k + 1) from) (drop (k + 1) ps))
    split None e = cc
    split (Some m) e = let f : m ≡ l = cc in ap (λ (z : Line). same_query z.query p && answers D (drop (k + 1) from) (drop (k + 1) ps)) f

-- other questions are not the same
pub query_other : (q p : Query) → q ≢ p → same_query q p ≡ false
query_other q p n = split (same_query q p) refl
  where
    split : (b : Bool) → b ≡ same_query q p → b ≡ false
    split true e = absurd (n (query_same q p (sym e)))
    split false e = refl

pub answers_end : (D : List Line) (from : List ℕ) (ps : List Query) → length from ≡ length ps → answers D (drop (length from) from) (drop (length from) ps) ≡ true
unfolding answers
answers_end D from ps e =
    ap (λ ys. answers D ys (drop (length from) ps)) (drop-length from) ∙ ap (λ n. answers D [] (drop n ps)) e ∙ ap (λ ys. answers D [] ys) (drop-length ps)

-- where the test of number k is t
pub answers_tested : (D : List Line) (from : List ℕ) (ps : List Query) (k : ℕ) (l : Line) (d : Query) (t : Bool) → k < length from → length from ≡ length ps
    → (0 < get_or from k 0) × (get_or from k 0 ≤ length D)
    → l ≡ get_or D (get_or from k 0 - 1) l → t ≡ same_query l.query (get_or ps k d) → answers D from ps ≡ answers D (drop k from) (drop k ps)
    → answers D from ps ≡ (t && answers D (drop (k + 1) from) (drop (k + 1) ps))
answers_tested D from ps k l d t h n w e s i =
    i ∙ answers_at D from ps k l (get_or ps k d) h (omega arith) (omega (arith, w)) e (get_or_default ps k d (get_or ps k d) (omega arith))
    ∙ ap (λ (b : Bool). b && answers D (drop (k + 1) from) (drop (k + 1) ps)) (sym s)
