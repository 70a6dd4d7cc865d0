-- Designs that are others under other words, lists joined, and designs of all points and of all pairs.
use Rattle.std.proofs.Common.{List, [], ap₂, arith, inl, inr, refl, subst, sym, true, ℕ, ◌&&◌, ◌*◌, ◌++◌, ◌+◌, ◌-◌, ◌<◌, ◌∙◌, ◌∷◌, ◌≡◌, ◌≤◌, ◌⊎◌}
use Rattle.counting.proofs.Booleans.{and_from, both}
use Rattle.std.proofs.lemmas.Bool.Decides.{nat_tests}
use Rattle.std.proofs.lemmas.List.Elements.{All-append, All-from_recursion, All-weaker}
use Rattle.counting.proofs.Counts.{one-true, pairs_one, sum_below-const, sum_below-same}
use Rattle.counting.proofs.Ranges.{All-join_below, each_below, length-list_below}
use Rattle.counting.specs.Sums.{join_below, list_below, one}
use Rattle.design_base.proofs.Canonical.{IsLoose, IsPointSet, design_from_loose, differs_below, loose_from_design}
use Rattle.design_base.proofs.Cover.{cover-append, cover-each, cover-join_below, cover-pairs, holds_below-from}
use Rattle.design_base.proofs.Places.{across-apart, place-zero}
use Rattle.design_base.specs.Arrays.{place}
use Rattle.design_base.specs.Blocks.{IsBibd, IsBlock, IsDesign, IsGdd, IsPbd, across, holds}
use Rattle.design_base.specs.Canonical.{canonical}
use Rattle.gdd_pbd.specs.Basic.{pair_blocks, pairs_once, pairs_with, whole_blocks}

-- more sizes, and the same covers
pub design_same : (B : List (List ℕ)) (v : ℕ) (Size Other : ℕ → Type 0) (want hope : ℕ → ℕ → ℕ) → ((s : ℕ) → Size s → Other s) → ((x y : ℕ) → x < y → y < v → want x y ≡ hope x y) → IsDesign B v Size want → IsDesign B v Other hope
design_same B v Size Other want hope f same d = record {
  blocks = All-weaker (IsBlock v Size) (IsBlock v Other) (λ b s. record { rises = s.rises; below = s.below; size = f _ s.size }) B d.blocks;
  pairs = λ x y l m. d.pairs x y l m ∙ same x y l m;
}

pub loose_append : (B C : List (List ℕ)) (v : ℕ) (Size : ℕ → Type 0) (one two : ℕ → ℕ → ℕ) → IsLoose B v Size one → IsLoose C v Size two → IsLoose (B ++ C) v Size (λ x y. one x y + two x y)
loose_append B C v Size one two b c = record {
  blocks = All-append (IsPointSet v Size) B C b.blocks c.blocks;
  pairs = λ x y l m. cover-append B C x y ∙ ap₂ (λ s t. s + t) (b.pairs x y l m) (c.pairs x y l m);
}

-- a BIBD in which two points stand together once is a PBD
pub bibd_is_pbd : (B : List (List ℕ)) (v s : ℕ) → IsBibd B v s 1 → IsPbd B v s
bibd_is_pbd B v s = design_same B v (λ z. z ≡ s) (λ z. (z ≡ s) ⊎ (z ≡ s + 1)) (λ x y. 1) (λ x y. 1) (λ z e. inl e) (λ x y l m. refl)

pub larger_bibd_is_pbd : (B : List (List ℕ)) (v s : ℕ) → IsBibd B v (s + 1) 1 → IsPbd B v s
larger_bibd_is_pbd B v s = design_same B v (λ z. z ≡ s + 1) (λ z. (z ≡ s) ⊎ (z ≡ s + 1)) (λ x y. 1) (λ x y. 1) (λ z e. inr e) (λ x y l m. refl)

-- a BIBD in which two points stand together once is a GDD with groups of one point
pub bibd_is_gdd : (B : List (List ℕ)) (u k : ℕ) → IsBibd B u k 1 → IsGdd B k 1 u
bibd_is_gdd B u k d = subst (λ v. IsDesign B v (λ z. z ≡ k) (across 1)) one_each (design_same B u (λ z. z ≡ k) (λ z. z ≡ k) (λ x y. 1) (across 1) (λ z e. e) apart d)
  where
    one_each : u ≡ 1 * u
    one_each = omega arith

    own : (x : ℕ) → x ≡ place 1 x 0
    own x = omega (arith, place-zero 1 x)

    apart : (x y : ℕ) → x < y → y < u → 1 ≡ across 1 x y
    apart x y l m = sym (ap₂ (across 1) (own x) (own y) ∙ across-apart 1 x 0 y 0 (omega arith) (omega arith) (omega arith))

-- two designs on the same points
pub sum_is_bibd : (B C : List (List ℕ)) (v k l i : ℕ) → i ≤ l → IsBibd B v k i → IsBibd C v k (l - i) → IsBibd (canonical (B ++ C)) v k l
sum_is_bibd B C v k l i most first second = design_same (canonical (B ++ C)) v (λ s. s ≡ k) (λ s. s ≡ k) (λ x y. i + (l - i)) (λ x y. l) (λ s e. e) (λ x y a b. omega arith)
    (design_from_loose v (λ s. s ≡ k) (B ++ C) (λ x y. i + (l - i)) (loose_append B C v (λ s. s ≡ k) (λ x y. i) (λ x y. l - i) (loose_from_design v (λ s. s ≡ k) B (λ x y. i) first) (loose_from_design v (λ s. s ≡ k) C (λ x y. l - i) second)))

-- a list l times
pub loose_times : (B : List (List ℕ)) (v l w : ℕ) (Size : ℕ → Type 0) → IsLoose B v Size (λ x y. w) → IsLoose (join_below l (λ i. B)) v Size (λ x y. l * w)
loose_times B v l w Size d = record {
  blocks = All-join_below (IsPointSet v Size) l (λ i. B) (λ i m. d.blocks);
  pairs = λ x y a b. cover-join_below l (λ i. B) x y ∙ sum_below-same l _ (λ i. w) (λ i m. d.pairs x y a b) ∙ sum_below-const l w;
}

-- ---- the block of all points
all_points : (v : ℕ) → IsPointSet v (λ s. s ≡ v) (list_below v (λ x. x))
all_points v = record {
  differs = differs_below v (λ x. x) (λ i j l m. omega arith);
  below = each_below (λ x. x < v) v (λ x. x) (λ x l. l);
  size = length-list_below v (λ x. x);
}

pub whole_loose : (v l : ℕ) → IsLoose (whole_blocks v l) v (λ s. s ≡ v) (λ x y. l)
unfolding whole_blocks
whole_loose v l = record {
  blocks = All-from_recursion (IsPointSet v (λ s. s ≡ v)) _ (each_below (IsPointSet v (λ s. s ≡ v)) l (λ i. list_below v (λ x. x)) (λ i m. all_points v));
  pairs = λ x y a b. cover-each l (λ i. list_below v (λ x. x)) x y ∙ sum_below-same l _ (λ i. 1) (λ i m. one-true _ (and_from _ _ (holds_below-from v x (λ x. x) x (omega arith) refl) (holds_below-from v y (λ x. x) y b refl))) ∙ sum_below-const l 1 ∙ omega arith;
}

pub whole_is_bibd : (v l : ℕ) → IsBibd (canonical (whole_blocks v l)) v v l
whole_is_bibd v l = design_from_loose v (λ s. s ≡ v) (whole_blocks v l) (λ x y. l) (whole_loose v l)

-- ---- all pairs
pair_set : (v x y : ℕ) → x < y → y < v → IsPointSet v (λ s. s ≡ 2) (x ∷ y ∷ [])
pair_set v x y l m = record { differs = (((λ e. omega arith), tt), (tt, tt)); below = (omega arith, (m, tt)); size = refl }

holds_two : (x p q : ℕ) → holds x (p ∷ q ∷ []) ≡ true → (p ≡ x) ⊎ (q ≡ x)
unfolding holds
holds_two x p q h = grind (arith, nat_tests)

holds_two-from : (x p q : ℕ) → (p ≡ x) ⊎ (q ≡ x) → holds x (p ∷ q ∷ []) ≡ true
unfolding holds
holds_two-from x p q h = grind (arith, nat_tests)

pairs_loose : (v : ℕ) → IsLoose (pairs_once v) v (λ s. s ≡ 2) (λ x y. 1)
unfolding pairs_once pairs_with
pairs_loose v = record {
  blocks = All-join_below (IsPointSet v (λ s. s ≡ 2)) v _ (λ y m. All-from_recursion (IsPointSet v (λ s. s ≡ 2)) _ (each_below (IsPointSet v (λ s. s ≡ 2)) y (λ x. x ∷ y ∷ []) (λ x l. pair_set v x y l m)));
  pairs = λ x y l m. cover-pairs v (λ p q. p ∷ q ∷ []) x y ∙ pairs_one v x y (λ p q. holds x (p ∷ q ∷ []) && holds y (p ∷ q ∷ [])) l m (and_from _ _ (holds_two-from x x y (inl refl)) (holds_two-from y x y (inr refl)))
      (λ p q k h t. let ts = both _ _ t in let a = holds_two x p q ts.0 in let b = holds_two y p q ts.1 in omega (arith, a, b));
}

pub pairs_is_bibd : (v l : ℕ) → IsBibd (canonical (pair_blocks v l)) v 2 l
unfolding pair_blocks
pairs_is_bibd v l = design_same _ v (λ s. s ≡ 2) (λ s. s ≡ 2) (λ x y. l * 1) (λ x y. l) (λ s e. e) (λ x y a b. omega arith) (design_from_loose v (λ s. s ≡ 2) _ (λ x y. l * 1) (loose_times (pairs_once v) v l 1 (λ s. s ≡ 2) (pairs_loose v)))

-- the block of all points is a PBD too
pub whole_is_pbd : (v s : ℕ) → (v ≡ s) ⊎ (v ≡ s + 1) → IsPbd (canonical (whole_blocks v 1)) v s
whole_is_pbd v s (inl e) = bibd_is_pbd (canonical (whole_blocks v 1)) v s (subst (λ k. IsBibd (canonical (whole_blocks v 1)) v k 1) e (whole_is_bibd v 1))
whole_is_pbd v s (inr e) = larger_bibd_is_pbd (canonical (whole_blocks v 1)) v s (subst (λ k. IsBibd (canonical (whole_blocks v 1)) v k 1) e (whole_is_bibd v 1))
