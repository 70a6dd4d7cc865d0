-- The steps of the loops that write blocks: what there is before the first, and what one more adds.
use Rattle.std.proofs.Common.{Bool, List, Some, [], ap, ap₂, arith, cond, false, inl, inr, length, map, not, refl, slice_set, suc, sym, take, true, zero, ℕ, ◌*◌, ◌++◌, ◌+◌, ◌<◌, ◌==◌, ◌∙◌, ◌∷◌, ◌≡◌, ◌≢◌, ◌≤◌}
use Rattle.std.proofs.Math.Nat.{mul-le-mul_right}
use Rattle.counting.proofs.Booleans.{cases_Bool, cond-false, cond-true, eq-eqb, le-ltb, lt-ltb, ne_eqb}
use Rattle.std.proofs.lemmas.Bool.Decides.{nat_tests}
use Rattle.std.proofs.lemmas.List.{append-nil, append_assoc, length-map, take_more_set}
use Rattle.std.proofs.lemmas.List.Elements.{All-from_recursion, filter-append}
use Rattle.std.specs.Prelude.{All, filter, nat_lt, slice_get}
use Rattle.incidence.proofs.Walk.{take_next}
use Rattle.counting.proofs.Counts.{join_below_more, join_below_none}
use Rattle.counting.specs.Sums.{join_below, list_below}
use Rattle.design_base.specs.Blocks.{holds}
use Rattle.incidence.proofs.Sizes.{size_of-append, size_of-cons}
use Rattle.incidence.specs.Packed.{size_of}
use Rattle.gdd_pbd.specs.Deleting.{below_point, groups_at, renamed_rest}
use Rattle.gdd_pbd.specs.Weighting.{chosen}
use Rattle.gdd_pbd.specs.Filling.{rename}
use Rattle.gdd_pbd.specs.Basic.{all_but_one, kept, missing, whole_blocks}

-- groups that stand before others
pub groups_within : (j m g n : ℕ) → j ≤ m → m * g ≤ n → j * g ≤ n
groups_within j m g n l h = omega (arith, mul-le-mul_right g l, h)

pub pair_within : (j m g n : ℕ) → j ≤ m → m * g ≤ n → All (λ x. x * g ≤ n) (j ∷ m ∷ [])
pair_within j m g n l h = All-from_recursion (λ x. x * g ≤ n) (j ∷ m ∷ []) (groups_within j m g n l h, (h, tt))

-- a number written at the end of the numbers so far
pub front_more : (row : List ℕ) (j x : ℕ) → j < length row → take (j + 1) (slice_set row j x) ≡ take j row ++ x ∷ []
front_more row j x l = take_more_set row j x l

-- ---- points that a block misses
kept_same : (n : ℕ) (p q : ℕ → Bool) → ((x : ℕ) → p x ≡ q x) → kept n p ≡ kept n q
unfolding kept join_below
kept_same zero p q h = refl
kept_same (suc n) p q h = ap₂ (λ xs t. xs ++ cond t (n ∷ []) []) (kept_same n p q h) (h n)

pub missing-none : (b : List ℕ) → missing 0 b ≡ []
unfolding missing kept join_below
missing-none b = refl

pub missing-more : (x : ℕ) (b : List ℕ) → holds x b ≡ false → missing (x + 1) b ≡ missing x b ++ x ∷ []
unfolding missing kept
missing-more x b e = join_below_more x _ ∙ ap (λ t. kept x (λ x. not (holds x b)) ++ t) (cond-true (not (holds x b)) _ _ (ap not e))

pub missing-same : (x : ℕ) (b : List ℕ) → holds x b ≡ true → missing (x + 1) b ≡ missing x b
unfolding missing kept
missing-same x b e = join_below_more x _ ∙ ap (λ t. kept x (λ x. not (holds x b)) ++ t) (cond-false (not (holds x b)) _ _ (ap not e)) ∙ append-nil (kept x (λ x. not (holds x b)))

pub missing_written : (x n m : ℕ) (b points after : List ℕ) → holds x b ≡ false → n < length points → take n points ≡ missing x b → after ≡ slice_set points n x → m ≡ n + 1 → take m after ≡ missing (x + 1) b
missing_written x n m b points after e l h is more = ap₂ take more is ∙ front_more points n x l ∙ ap (λ t. t ++ x ∷ []) h ∙ sym (missing-more x b e)

pub missing_passed : (x n m : ℕ) (b points after : List ℕ) → holds x b ≡ true → take n points ≡ missing x b → after ≡ points → m ≡ n → take m after ≡ missing (x + 1) b
missing_passed x n m b points after e h is same = ap₂ take same is ∙ h ∙ sym (missing-same x b e)

missing_nothing : (v : ℕ) → missing v [] ≡ kept v (λ x. true)
unfolding missing holds
missing_nothing v = refl

every : (v : ℕ) → kept v (λ x. true) ≡ list_below v (λ x. x)
unfolding kept
every v = refl

one_point : (x z : ℕ) → holds x (z ∷ []) ≡ (x == z)
unfolding holds
one_point x z = grind (arith, nat_tests)

missing_one : (v z : ℕ) → missing v (z ∷ []) ≡ kept v (λ x. not (x == z))
unfolding missing
missing_one v z = kept_same v _ _ (λ x. ap not (one_point x z))

pub whole-none : (v : ℕ) → whole_blocks v 0 ≡ []
unfolding whole_blocks
whole-none v = join_below_none _

pub whole-more : (v l : ℕ) → whole_blocks v (l + 1) ≡ whole_blocks v l ++ missing v [] ∷ []
unfolding whole_blocks
whole-more v l = join_below_more l _ ∙ ap (λ b. whole_blocks v l ++ b ∷ []) (sym (missing_nothing v ∙ every v))

pub all_but_one-none : (v : ℕ) → all_but_one v 0 ≡ []
unfolding all_but_one
all_but_one-none v = join_below_none _

pub all_but_one-more : (v m : ℕ) → all_but_one v (m + 1) ≡ all_but_one v m ++ missing v (m ∷ []) ∷ []
unfolding all_but_one
all_but_one-more v m = join_below_more m _ ∙ ap (λ b. all_but_one v m ++ b ∷ []) (sym (missing_one v m))

-- ---- blocks without the points from v on
pub front-kept : (v i x : ℕ) (b : List ℕ) → slice_get b i ≡ Some x → x < v → filter (λ x. nat_lt x v) (take (i + 1) b) ≡ filter (λ x. nat_lt x v) (take i b) ++ x ∷ []
front-kept v i x b is l = ap (filter (λ x. nat_lt x v)) (take_next b i x is) ∙ filter-append (λ x. nat_lt x v) (take i b) (x ∷ []) ∙ ap (λ t. filter (λ x. nat_lt x v) (take i b) ++ t) (cond-true (nat_lt x v) _ _ (lt-ltb x v l))

pub front-dropped : (v i x : ℕ) (b : List ℕ) → slice_get b i ≡ Some x → v ≤ x → filter (λ x. nat_lt x v) (take (i + 1) b) ≡ filter (λ x. nat_lt x v) (take i b)
front-dropped v i x b is l = ap (filter (λ x. nat_lt x v)) (take_next b i x is) ∙ filter-append (λ x. nat_lt x v) (take i b) (x ∷ []) ∙ ap (λ t. filter (λ x. nat_lt x v) (take i b) ++ t) (cond-false (nat_lt x v) _ _ (le-ltb x v l)) ∙ append-nil (filter (λ x. nat_lt x v) (take i b))

-- ---- renamed points
-- as many as before
pub size_of-renamed : (f : ℕ → ℕ) (B : List (List ℕ)) → size_of (map (map f) B) ≡ size_of B
size_of-renamed f [] = refl
size_of-renamed f (b ∷ B) = omega (arith, size_of-cons (map f b) (map (map f) B), size_of-cons b B, length-map b f, size_of-renamed f B)

-- ---- the ingredient for a block
pub chosen-first : (s z : ℕ) (C D : List (List ℕ)) → z ≡ s → chosen s C D z ≡ C
unfolding chosen
chosen-first s z C D e = cond-true (z == s) _ _ (eq-eqb z s e)

pub chosen-second : (s z : ℕ) (C D : List (List ℕ)) → z ≢ s → chosen s C D z ≡ D
unfolding chosen
chosen-second s z C D ne = cond-false (z == s) _ _ (ne_eqb z s ne)

-- ---- blocks through a point and others
pub groups_at-none : (p : ℕ) → groups_at p [] ≡ []
unfolding groups_at below_point
groups_at-none p = refl

pub groups_at-through : (p : ℕ) (b : List ℕ) (B : List (List ℕ)) → holds p b ≡ true → groups_at p (b ∷ B) ≡ filter (λ x. nat_lt x p) b ∷ [] ++ groups_at p B
unfolding groups_at below_point
groups_at-through p b B e = ap (below_point p) (cond-true (holds p b) _ _ e)

pub groups_at-past : (p : ℕ) (b : List ℕ) (B : List (List ℕ)) → holds p b ≡ false → groups_at p (b ∷ B) ≡ groups_at p B
unfolding groups_at
groups_at-past p b B e = ap (below_point p) (cond-false (holds p b) _ _ e)

pub groups_at-one : (p : ℕ) (b : List ℕ) → holds p b ≡ true → groups_at p (b ∷ []) ≡ filter (λ x. nat_lt x p) b ∷ []
groups_at-one p b e = groups_at-through p b [] e ∙ ap (λ xs. filter (λ x. nat_lt x p) b ∷ [] ++ xs) (groups_at-none p)

pub groups_at-no : (p : ℕ) (b : List ℕ) → holds p b ≡ false → groups_at p (b ∷ []) ≡ []
groups_at-no p b e = groups_at-past p b [] e ∙ groups_at-none p

pub groups_at-next : (p : ℕ) (b : List ℕ) (B : List (List ℕ)) → groups_at p (b ∷ B) ≡ groups_at p (b ∷ []) ++ groups_at p B
groups_at-next p b B = elim (cases_Bool (holds p b)) [
  | inl e ↦ groups_at-through p b B e ∙ ap (λ xs. xs ++ groups_at p B) (sym (groups_at-one p b e))
  | inr e ↦ groups_at-past p b B e ∙ ap (λ xs. xs ++ groups_at p B) (sym (groups_at-no p b e))
]

pub renamed_rest-none : (f : ℕ → ℕ) (p : ℕ) → renamed_rest f p [] ≡ []
unfolding renamed_rest rename
renamed_rest-none f p = refl

pub renamed_rest-past : (f : ℕ → ℕ) (p : ℕ) (b : List ℕ) (B : List (List ℕ)) → holds p b ≡ false → renamed_rest f p (b ∷ B) ≡ map f b ∷ [] ++ renamed_rest f p B
unfolding renamed_rest rename
renamed_rest-past f p b B e = ap (rename f) (cond-true (not (holds p b)) _ _ (ap not e))

pub renamed_rest-through : (f : ℕ → ℕ) (p : ℕ) (b : List ℕ) (B : List (List ℕ)) → holds p b ≡ true → renamed_rest f p (b ∷ B) ≡ renamed_rest f p B
unfolding renamed_rest
renamed_rest-through f p b B e = ap (rename f) (cond-false (not (holds p b)) _ _ (ap not e))

pub renamed_rest-one : (f : ℕ → ℕ) (p : ℕ) (b : List ℕ) → holds p b ≡ false → renamed_rest f p (b ∷ []) ≡ map f b ∷ []
renamed_rest-one f p b e = renamed_rest-past f p b [] e ∙ ap (λ xs. map f b ∷ [] ++ xs) (renamed_rest-none f p)

pub renamed_rest-no : (f : ℕ → ℕ) (p : ℕ) (b : List ℕ) → holds p b ≡ true → renamed_rest f p (b ∷ []) ≡ []
renamed_rest-no f p b e = renamed_rest-through f p b [] e ∙ renamed_rest-none f p

pub renamed_rest-next : (f : ℕ → ℕ) (p : ℕ) (b : List ℕ) (B : List (List ℕ)) → renamed_rest f p (b ∷ B) ≡ renamed_rest f p (b ∷ []) ++ renamed_rest f p B
renamed_rest-next f p b B = elim (cases_Bool (holds p b)) [
  | inl e ↦ renamed_rest-through f p b B e ∙ ap (λ xs. xs ++ renamed_rest f p B) (sym (renamed_rest-no f p b e))
  | inr e ↦ renamed_rest-past f p b B e ∙ ap (λ xs. xs ++ renamed_rest f p B) (sym (renamed_rest-one f p b e))
]

pub ruleset steps = (
  append-nil,
  append_assoc,
  size_of-cons,
  size_of-append,
  join_below_none,
  join_below_more,
  front_more,
  missing-none,
  missing-more,
  missing-same,
  whole-none,
  whole-more,
  all_but_one-none,
  all_but_one-more,
  front-kept,
  front-dropped,
  chosen-first,
  chosen-second,
  groups_at-none,
  groups_at-one,
  groups_at-no,
  renamed_rest-none,
  renamed_rest-one,
  renamed_rest-no,
)
