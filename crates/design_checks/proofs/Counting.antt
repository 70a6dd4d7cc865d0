-- Counting the pairs of a row, one number of the row after another.
use Rattle.std.proofs.Common.{List, [], ap, arith, cond, drop, false, get_or, inl, inr, length, length-drop, refl, set, suc, sym, take, true, zero, ℕ, ◌&&◌, ◌*◌, ◌+◌, ◌-◌, ◌<◌, ◌==◌, ◌^◌, ◌∙◌, ◌∷◌, ◌≡◌, ◌≤◌, ◌⊎◌, ◌||◌}
use Rattle.counting.proofs.Booleans.{bool_same, cases_eq, cases_lt, eq-eqb, eqb-true, false_from_ne_true, false≢true, ne_eqb, or_from}
use Rattle.std.proofs.lemmas.Grind.{get_or-set_at}
use Rattle.std.proofs.lemmas.List.{drop_all, drop_more, get_or-set_other, length-take-le}
use Rattle.std.proofs.lemmas.List.Elements.{All-from_recursion, recursion_from_All}
use Rattle.std.proofs.lemmas.List.Sums.{count_by-le-length, count_by_more_no, count_by_more_yes}
use Rattle.std.proofs.lemmas.Nat.{same_from_place}
use Rattle.std.specs.List.{AllByRecursion, count_by, sum_by}
use Rattle.std.specs.Prelude.{All}
use Rattle.counting.proofs.Counts.{one-false, one-most}
use Rattle.counting.proofs.Lists.{each-weaker, each_all, sum_by-same, sum_by-zero}
use Rattle.counting.specs.Sums.{one}
use Rattle.design_base.proofs.Canonical.{Rises, differs_from_rises, rises_from_increasing}
use Rattle.design_base.proofs.Cover.{holds-cons, holds-none}
use Rattle.design_base.proofs.Points.{each_at, one-holds}
use Rattle.design_base.specs.Blocks.{holds}
use Rattle.design_checks.specs.Counts.{IsRowOf, Pairwise, cell}

-- one more point of the line at base is counted
pub count_more : (old counts points : List ℕ) (base i p : ℕ) → get_or counts p 0 ≡ get_or old p 0 + count_by (λ y. base + y == p) (take i points) → i < length points
    → base + get_or points i 0 < length counts
    → get_or (set counts (base + get_or points i 0) (get_or counts (base + get_or points i 0) 0 + 1)) p 0 ≡ get_or old p 0 + count_by (λ y. base + y == p) (take (i + 1) points)
count_more old counts points base i p e l m = let q = base + get_or points i 0 in elim (cases_eq q p) [
  | inl s ↦ omega (arith, e, get_or-set_at counts q p (get_or counts q 0 + 1) 0 (sym s) m, ap (λ n. get_or counts n 0) s, count_by_more_yes (λ y. base + y == p) points i 0 l (eq-eqb q p s))
  | inr d ↦ omega (arith, e, get_or-set_other counts q p (get_or counts q 0 + 1) 0 (λ t. d (sym t)), count_by_more_no (λ y. base + y == p) points i 0 l (ne_eqb q p d))
]

-- a count so far is not more than the points so far
pub count_so_far : (base i p : ℕ) (points : List ℕ) → i ≤ length points → count_by (λ y. base + y == p) (take i points) ≤ i
count_so_far base i p points l = omega (arith, count_by-le-length (λ y. base + y == p) (take i points), length-take-le i points l)

-- greater numbers are not x
missing : (x z : ℕ) (later : List ℕ) → AllByRecursion (λ w. z < w) later → x ≤ z → holds x later ≡ false
missing x z later h l = false_from_ne_true (holds x later) (λ e. let g = each_at (λ w. z < w) x later h e in absurd (omega arith))

-- whether x < y stand in the rest of a row, with its first number z and without it
pub held_step : (x y z : ℕ) (later : List ℕ) → AllByRecursion (λ w. z < w) later → x < y
    → one (holds x (z ∷ later) && holds y (z ∷ later)) ≡ one (holds x later && holds y later) + cond (z == x) (one (holds y later)) 0
unfolding one
held_step x y z later h l = elim (cases_eq z x) [
  | inl s ↦ rw (holds-cons x z later, holds-cons y z later, eq-eqb z x s, ne_eqb z y (λ e. absurd (omega arith)), missing x z later h (omega arith)) (omega arith)
  | inr d ↦ elim (cases_eq z y) [
    | inl s ↦ rw (holds-cons x z later, holds-cons y z later, ne_eqb z x d, eq-eqb z y s, missing x z later h (omega arith)) (omega arith)
    | inr e ↦ rw (holds-cons x z later, holds-cons y z later, ne_eqb z x d, ne_eqb z y e) (omega arith)
  ]
]

-- a row holds y as often as y stands in it
held_count : (y : ℕ) (row : List ℕ) → Rises row → one (holds y row) ≡ sum_by (λ w. cond (w == y) 1 0) row
unfolding one
held_count y row r = one-holds y row (differs_from_rises row r)

-- the points of the line of z add at the place of x and y what z has to do with x
pub line_count : (v low x y z : ℕ) (later : List ℕ) → Rises later → AllByRecursion (λ w. w < v) later → y < v → low ≤ x → low ≤ z
    → count_by (λ w. (z - low) * v + w == cell v low x y) later ≡ cond (z == x) (one (holds y later)) 0
line_count v low x y z later r below l a b = elim (cases_eq z x) [
  | inl s ↦ rw (eq-eqb z x s) (sum_by-same (λ w. cond ((z - low) * v + w == cell v low x y) 1 0) (λ w. cond (w == y) 1 0) later (each_all (λ w. cond ((z - low) * v + w == cell v low x y) 1 0 ≡ cond (w == y) 1 0) (λ w. ap (λ t. cond t 1 0) (same s w)) later) ∙ sym (held_count y later r))
  | inr d ↦ rw (ne_eqb z x d) (sum_by-zero (λ w. cond ((z - low) * v + w == cell v low x y) 1 0) later
      (each-weaker (λ w. w < v) (λ w. cond ((z - low) * v + w == cell v low x y) 1 0 ≡ 0) (λ w m. ap (λ t. cond t 1 0) (ne_eqb ((z - low) * v + w) (cell v low x y) (λ e. d (same_line e m)))) later below))
]
  where
    same_line : {w : ℕ} → (z - low) * v + w ≡ (x - low) * v + y → w < v → z ≡ x
    same_line e m = omega (arith, (same_from_place (z - low) _ (x - low) y v m l e).0)

    same : z ≡ x → (w : ℕ) → ((z - low) * v + w == cell v low x y) ≡ (w == y)
    same s w = bool_same _ _ (λ e. let f = eqb-true ((z - low) * v + w) (cell v low x y) e in eq-eqb w y (omega (arith, f, ap (λ z. (z - low) * v) s))) (λ e. let f = eqb-true w y e in eq-eqb ((z - low) * v + w) (cell v low x y) (omega (arith, f, ap (λ z. (z - low) * v) s)))

-- what the rest of the row from place i on has still to add
pub record Left (old now row : List ℕ) (v low high i : ℕ) : Type 0 where
  pub sum : Pairwise v low high (λ x y. get_or now (cell v low x y) 0 + one (holds x (drop i row) && holds y (drop i row)) ≡ get_or old (cell v low x y) 0 + one (holds x row && holds y row))

rises_drop : (i : ℕ) (row : List ℕ) → Rises row → Rises (drop i row)
rises_drop zero row r = r
rises_drop (suc i) [] r = tt
rises_drop (suc i) (x ∷ row) r = rises_drop i row r.1

each_drop : (P : ℕ → Type 0) (i : ℕ) (row : List ℕ) → AllByRecursion P row → AllByRecursion P (drop i row)
each_drop P zero row r = r
each_drop P (suc i) [] r = tt
each_drop P (suc i) (x ∷ row) r = each_drop P i row r.1

-- what stands before the first number from low on does not matter
held_from : (i : ℕ) (row : List ℕ) (low x : ℕ) → ((k : ℕ) → k < i → get_or row k 0 < low) → low ≤ x → i ≤ length row → holds x (drop i row) ≡ holds x row
held_from zero row low x h l m = refl
held_from (suc i) [] low x h l m = refl
held_from (suc i) (z ∷ row) low x h l m = held_from i row low x (λ k n. h (suc k) (omega arith)) l (omega arith) ∙ sym (holds-cons x z row ∙ ap (λ t. t || holds x row) (ne_eqb z x (let g : z < low = h 0 (omega arith) in λ e. absurd (omega arith))))

module _ (row : List ℕ) (v low high : ℕ) where
  pub all_left : (old : List ℕ) (i : ℕ) → ((k : ℕ) → k < i → get_or row k 0 < low) → i ≤ length row → Left old old row v low high i
  all_left old i h m = record { sum = λ x y a b c d. rw (held_from i row low x h a m, held_from i row low y h (omega arith) m) refl }

  -- nothing is left behind the last number below high
  pub none_left : (old now : List ℕ) (i : ℕ) → IsRowOf v row → (i < length row → high ≤ get_or row i 0) → Left old now row v low high i
      → Pairwise v low high (λ x y. get_or now (cell v low x y) 0 ≡ get_or old (cell v low x y) 0 + one (holds x row && holds y row))
  none_left old now i is above left x y a b c d = omega (arith, left.sum x y a b c d, one-most (holds x (drop i row) && holds y (drop i row)), ap (λ t. one (t && holds y (drop i row))) (none (cases_lt i (length row))), one-false (false && holds y (drop i row)) (λ e. false≢true e))
    where
      none : (i < length row) ⊎ (length row ≤ i) → holds x (drop i row) ≡ false
      none (inl l) = rw (drop_more row i 0 l) (let front = rw (drop_more row i 0 l) at (rises_drop i row (rises_from_increasing row is.rises)) in
          holds-cons x (get_or row i 0) (drop (i + 1) row) ∙ or_from _ _ (ne_eqb (get_or row i 0) x (let g = above l in λ e. absurd (omega arith))) (missing x (get_or row i 0) (drop (i + 1) row) front.0 (let g = above l in omega arith)))
      none (inr l) = ap (holds x) (drop_all i row l) ∙ holds-none x

  pub one_less : (old now new : List ℕ) (i : ℕ) → IsRowOf v row → i < length row → low ≤ get_or row i 0
      → Left old now row v low high i
      → ((p : ℕ) → get_or new p 0 ≡ get_or now p 0 + count_by (λ w. (get_or row i 0 - low) * v + w == p) (drop (i + 1) row))
      → Left old new row v low high (i + 1)
  one_less old now new i is l m left more = record {
    sum = λ x y a b c d.
        let z = get_or row i 0 in
        let later = drop (i + 1) row in
        let front = rw (drop_more row i 0 l) at (rises_drop i row (rises_from_increasing row is.rises)) in
        let points = each_drop (λ w. w < v) (i + 1) row (recursion_from_All (λ w. w < v) row is.below) in
        omega (arith, more (cell v low x y), rw (drop_more row i 0 l) at (left.sum x y a b c d), held_step x y z later front.0 c, line_count v low x y z later front.1 points d a m);
  }

  -- no count of the line of the next number grows too large
  pub room_left : (old now : List ℕ) (i : ℕ) → IsRowOf v row → i < length row → low ≤ get_or row i 0 → get_or row i 0 < high → Left old now row v low high i
      → Pairwise v low high (λ x y. get_or old (cell v low x y) 0 + length row < 2 ^ 32)
      → All (λ w. get_or now ((get_or row i 0 - low) * v + w) 0 + length (drop (i + 1) row) < 2 ^ 32) (drop (i + 1) row)
  room_left old now i is l m h left room k d n =
      let z = get_or row i 0 in
      let later = drop (i + 1) row in
      let w = get_or later k d in
      let front = rw (drop_more row i 0 l) at (rises_drop i row (rises_from_increasing row is.rises)) in
      let above : z < w = All-from_recursion (λ w. z < w) later front.0 k d n in
      let below : w < v = All-from_recursion (λ w. w < v) later (each_drop (λ w. w < v) (i + 1) row (recursion_from_All (λ w. w < v) row is.below)) k d n in
      omega (arith, left.sum z w m h above below, one-most (holds z row && holds w row), room z w m h above below, length-drop (i + 1) row)
