-- A block design without its last point is a pairwise balanced design.
use Rattle.std.proofs.Common.{Bool, List, ap₂, arith, false, inl, inr, length, sym, true, ℕ, ◌&&◌, ◌+◌, ◌<◌, ◌==◌, ◌∙◌, ◌≡◌, ◌⊎◌}
use Rattle.counting.proofs.Booleans.{lt-ltb, ltb-true}
use Rattle.std.proofs.lemmas.Bool.Decides.{nat_tests}
use Rattle.std.proofs.lemmas.List.Sums.{length-filter}
use Rattle.std.specs.List.{AllByRecursion}
use Rattle.std.specs.Prelude.{filter, nat_lt}
use Rattle.counting.proofs.Lists.{All-map_of, all_filter, each-weaker, each_all, sum_by-add, sum_by-length, sum_by-map, sum_by-same}
use Rattle.counting.specs.Sums.{one}
use Rattle.design_base.proofs.Canonical.{Differs, IsLoose, IsPointSet, design_from_loose, loose_from_design}
use Rattle.design_base.proofs.Cover.{cover-is}
use Rattle.design_base.proofs.Points.{differs_filter, holds-filter, one-holds}
use Rattle.design_base.specs.Blocks.{IsBibd, IsPbd, cover, holds}
use Rattle.design_base.specs.Canonical.{canonical}
use Rattle.gdd_pbd.specs.Deleting.{below_point}

-- a block loses the last point v or none
pub cut_length : (v : ℕ) (b : List ℕ) → Differs b → AllByRecursion (λ x. x < v + 1) b → length (filter (λ x. nat_lt x v) b) + one (holds v b) ≡ length b
unfolding one
cut_length v b differs below = omega (
  arith,
  length-filter (λ x. nat_lt x v) b,
  one-holds v b differs,
  sum_by-add (λ z. one (nat_lt z v)) (λ z. one (z == v)) b,
  sum_by-same (λ z. one (nat_lt z v) + one (z == v)) (λ z. 1) b (each-weaker (λ z. z < v + 1) (λ z. one (nat_lt z v) + one (z == v) ≡ 1) either b below),
  sum_by-length b,
)
  where
    either : (z : ℕ) → z < v + 1 → one (nat_lt z v) + one (z == v) ≡ 1
    either z l = grind (arith, nat_tests)

-- the points that are left stand together as before
pub cover-below_point : (v : ℕ) (B : List (List ℕ)) (x y : ℕ) → x < v → y < v → cover (below_point v B) x y ≡ cover B x y
unfolding below_point
cover-below_point v B x y l m = cover-is (below_point v B) x y ∙ sum_by-map (λ b. one (holds x b && holds y b)) (filter (λ z. nat_lt z v)) B
    ∙ sum_by-same (λ b. one (holds x (filter (λ z. nat_lt z v) b) && holds y (filter (λ z. nat_lt z v) b))) (λ b. one (holds x b && holds y b)) B
    (each_all _ (λ b. ap₂ (λ p q. one (p && q)) (holds-filter (λ z. nat_lt z v) x b (lt-ltb x v l)) (holds-filter (λ z. nat_lt z v) y b (lt-ltb y v m))) B)
    ∙ sym (cover-is B x y)

module _ (v s : ℕ) where
  abbrev Sizes : ℕ → Type 0
  Sizes z = (z ≡ s) ⊎ (z ≡ s + 1)

  cut : List ℕ → List ℕ
  cut b = filter (λ x. nat_lt x v) b

  cut_set : (b : List ℕ) → IsPointSet (v + 1) (λ z. z ≡ s + 1) b → IsPointSet v Sizes (cut b)
  unfolding cut one
  cut_set b t = record {
    differs = differs_filter (λ x. nat_lt x v) b t.differs;
    below = all_filter (λ x. x < v + 1) (λ x. x < v) (λ x. nat_lt x v) (λ x l e. ltb-true x v e) b t.below;
    size = sized (length (cut b)) (holds v b) (cut_length v b t.differs t.below ∙ t.size);
  }
    where
      sized : (n : ℕ) (p : Bool) → n + one p ≡ s + 1 → Sizes n
      sized n true e = inl (omega (arith, e))
      sized n false e = inr (omega (arith, e))

  pub cut_loose : (B : List (List ℕ)) → IsLoose B (v + 1) (λ z. z ≡ s + 1) (λ x y. 1) → IsLoose (below_point v B) v Sizes (λ x y. 1)
  unfolding below_point cut
  cut_loose B d = record {
    blocks = All-map_of (IsPointSet (v + 1) (λ z. z ≡ s + 1)) (IsPointSet v Sizes) cut B d.blocks cut_set;
    pairs = λ x y l m. cover-below_point v B x y (omega arith) m ∙ d.pairs x y l (omega arith);
  }

-- rule delete of a PBD
pub drop_point_is_pbd : (v s : ℕ) (B : List (List ℕ)) → IsBibd B (v + 1) (s + 1) 1 → IsPbd (canonical (below_point v B)) v s
drop_point_is_pbd v s B d = design_from_loose v (Sizes v s) (below_point v B) (λ x y. 1) (cut_loose v s B (loose_from_design (v + 1) (λ z. z ≡ s + 1) B (λ x y. 1) d))
