-- The translates of a difference family are a BIBD.
use Rattle.std.proofs.Common.{List, ap, ap₂, arith, inl, inr, length, map, sym, ℕ, ◌&&◌, ◌*◌, ◌+◌, ◌-◌, ◌<◌, ◌==◌, ◌∙◌, ◌≡◌, ◌≢◌, ◌≤◌}
use Rattle.std.proofs.Math.Nat.{mul-le-mul_left, mul-le-mul_right}
use Rattle.counting.proofs.Booleans.{both_equal, both_equal-from, cases_eq, eq-eqb, eqb-true}
use Rattle.std.proofs.lemmas.List.Elements.{All-from_recursion}
use Rattle.std.specs.List.{flat_map, sum_by}
use Rattle.std.specs.Prelude.{All}
use Rattle.block_counts.proofs.Families.{differences_counted}
use Rattle.counting.proofs.Counts.{count_none, count_one, one-false, one-true, sum_below-same}
use Rattle.counting.proofs.Lists.{All-flat_map_of, each_all, one-and, sum_by-agree, sum_by-flat_map, sum_by-map, sum_by-product, sum_by-same, sum_by-sum_below}
use Rattle.counting.proofs.Ranges.{each_below}
use Rattle.counting.specs.Sums.{one, sum_below}
use Rattle.criteria.proofs.Laws.{group_sum}
use Rattle.design_base.proofs.Canonical.{IsLoose, IsPointSet, KeepsApart, design_from_loose, differs-map, set-map, set_from_block}
use Rattle.design_base.proofs.Cover.{cover-each, cover-is}
use Rattle.design_base.proofs.Points.{one-holds}
use Rattle.design_base.specs.Blocks.{IsBibd, IsBlock, IsDf, cover, differences, holds}
use Rattle.design_base.specs.Canonical.{canonical}
use Rattle.design_base.specs.Meets.{group_add}
use Rattle.design_base.specs.declared.limits.TheConstants.{COVER_MAX, POINTS_MAX}
use Rattle.design_base.specs.declared.query.Group.{Group}
use Rattle.field_tables.proofs.AnyGroup.{group_cancel, group_difference}
use Rattle.field_tables.proofs.GroupSums.{group_sums}
use Rattle.field_tables.specs.Laws.{IsCommutativeGroup}
use Rattle.difference_sets.specs.Conditions.{CanDevelop}
use Rattle.difference_sets.specs.Develop.{developed, translates_below}

module _ (v k l : ℕ) (add : ℕ → ℕ → ℕ) (group : IsCommutativeGroup v add) (B : List (List ℕ)) (family : IsDf B add v k l) where
  abbrev Size : ℕ → Type 0
  Size s = s ≡ k

  exchange : (p d c : ℕ) → add (add p d) c ≡ add (add p c) d
  exchange p d c = group.sums_associate p d c ∙ ap (add p) (group.sums_commute d c) ∙ sym (group.sums_associate p c d)

  -- a pair of points of a base block is moved to x, x + d by one translate where its difference is d, and else by none
  moved : (x d p q : ℕ) → x < v → d < v → p < v → q < v → sum_below v (λ c. one ((add p c == x) && (add q c == add x d))) ≡ one (add p d == q)
  moved x d p q lx ld lp lq = elim (cases_eq (add p d) q) [
    | inl e ↦ let c = group_difference v add group p x lx in
        count_one v c.0 (λ c. (add p c == x) && (add q c == add x d)) c.1
        (both_equal-from _ _ x (add x d) c.2 (ap (λ q. add q c.0) (sym e) ∙ exchange p d c.0 ∙ ap (λ x. add x d) c.2))
        (λ i m h. group_cancel v add group p i c.0 m c.1 ((both_equal (add p i) (add q i) x (add x d) h).0 ∙ sym c.2))
        ∙ sym (one-true (add p d == q) (eq-eqb (add p d) q e))
    | inr ne ↦ count_none v (λ c. (add p c == x) && (add q c == add x d)) (λ c m h. let e = both_equal (add p c) (add q c) x (add x d) h in
        ne (sym (group_cancel v add group c q (add p d) lq (group.sums_below p d) (group.sums_commute c q ∙ e.1 ∙ ap (λ x. add x d) (sym e.0) ∙ sym (exchange p d c) ∙ group.sums_commute (add p d) c))))
        ∙ sym (one-false (add p d == q) (λ e. ne (eqb-true (add p d) q e)))
  ]

  keeps : (c : ℕ) → KeepsApart v (λ z. add z c)
  keeps c x y lx ly e = group_cancel v add group c x y lx ly (group.sums_commute c x ∙ e ∙ group.sums_commute y c)

  -- whether the translate by c holds x and y, by the pairs of points of the block
  held : (x y c : ℕ) (b : List ℕ) → IsPointSet v Size b →
      one (holds x (map (λ z. add z c) b) && holds y (map (λ z. add z c) b)) ≡ sum_by (λ p. sum_by (λ q. one ((add p c == x) && (add q c == y))) b) b
  held x y c b s = one-and _ _ ∙ ap₂ (λ m n. m * n) (points x) (points y)
      ∙ sum_by-product (λ p. one (add p c == x)) (λ q. one (add q c == y)) b b
      ∙ sum_by-same _ _ b (each_all _ (λ p. sum_by-same _ _ b (each_all (λ q. one (add p c == x) * one (add q c == y) ≡ one ((add p c == x) && (add q c == y))) (λ q. sym (one-and _ _)) b)) b)
    where
      points : (x : ℕ) → one (holds x (map (λ z. add z c) b)) ≡ sum_by (λ p. one (add p c == x)) b
      points x = one-holds x (map (λ z. add z c) b) (differs-map v (λ z. add z c) (keeps c) b s.below s.differs) ∙ sum_by-map (λ z. one (z == x)) (λ z. add z c) b

  -- the translates of a block hold x and x + d as often as d is a difference of the block
  block_covers : (x d : ℕ) → x < v → d < v → (b : List ℕ) → IsPointSet v Size b → cover (translates_below v add b) x (add x d) ≡ sum_by (λ p. sum_by (λ q. one (add p d == q)) b) b
  unfolding translates_below
  block_covers x d lx ld b s = cover-each v (λ c. map (λ z. add z c) b) x (add x d)
      ∙ sum_below-same v _ (λ c. sum_by (λ p. sum_by (λ q. one ((add p c == x) && (add q c == add x d))) b) b) (λ c m. held x (add x d) c b s)
      ∙ sym (sum_by-sum_below (λ c p. sum_by (λ q. one ((add p c == x) && (add q c == add x d))) b) v b)
      ∙ sum_by-agree (λ p. p < v) _ (λ p. sum_by (λ q. one (add p d == q)) b) b below (λ p lp.
      sym (sum_by-sum_below (λ c q. one ((add p c == x) && (add q c == add x d))) v b)
      ∙ sum_by-agree (λ q. q < v) _ (λ q. one (add p d == q)) b below (λ q lq. moved x d p q lx ld lp lq))
    where
      below : All (λ z. z < v) b
      below = All-from_recursion (λ z. z < v) b s.below

  abbrev raw : List (List ℕ)
  raw = flat_map (translates_below v add) B

  covers : (x d : ℕ) → x < v → 0 < d → d < v → cover raw x (add x d) ≡ l
  unfolding differences one
  covers x d lx pos ld = cover-is raw x (add x d)
      ∙ sum_by-flat_map (λ b. one (holds x b && holds (add x d) b)) (translates_below v add) B
      ∙ sum_by-agree (IsBlock v Size) _ (λ b. sum_by (λ p. sum_by (λ q. one (add p d == q)) b) b) B family.blocks
      (λ b s. sym (cover-is (translates_below v add b) x (add x d)) ∙ block_covers x d lx ld b (set_from_block v Size b s))
      ∙ family.each d pos ld

  sets : (b : List ℕ) → IsPointSet v Size b → All (IsPointSet v Size) (translates_below v add b)
  unfolding translates_below
  sets b s = All-from_recursion (IsPointSet v Size) _ (each_below (IsPointSet v Size) v (λ c. map (λ z. add z c) b) (λ c m. set-map v (λ z. add z c) (keeps c) v Size (λ x l. group.sums_below x c) b s))

  loose : IsLoose raw v Size (λ x y. l)
  loose = record {
    blocks = All-flat_map_of (IsBlock v Size) (IsPointSet v Size) (translates_below v add) B family.blocks (λ b s. sets b (set_from_block v Size b s));
    pairs = λ x y m ly. let d = group_difference v add group x y ly in
        let nonzero : d.0 ≢ 0 = λ e. (let f : x ≡ y = sym (group.zero_neutral x (omega arith)) ∙ ap (add x) (sym e) ∙ d.2 in omega arith) in
        ap (cover raw x) (sym d.2) ∙ covers x d.0 (omega arith) (omega arith) d.1;
  }

  pub translates_design : IsBibd (canonical raw) v k l
  translates_design = design_from_loose v Size raw (λ x y. l) loose

-- a family over the integers modulo v or over the field of v elements
module _ (group : Group) (v k l : ℕ) (B : List (List ℕ)) (given : CanDevelop group v k l B) where
  pub develop_design : IsBibd (canonical (developed group v B)) v k l
  unfolding developed
  develop_design = translates_design v k l (group_add group v) (group_sums group v (omega (arith, given.two_points, given.block)) given.family.0) B given.family.1

  -- the translates are few
  pub develop_room : v * ((k + 1) * length B) ≤ 3 * COVER_MAX * POINTS_MAX * POINTS_MAX
  develop_room =
      let counted : length B * (k * (k - 1)) ≡ l * (v - 1) = differences_counted B (group_add group v) v k l (group_sum group v (omega (arith, given.two_points, given.block)) given.family.0) given.family.1 (omega (arith, given.two_points, given.block)) in
      let pairs : k * 1 ≤ k * (k - 1) = mul-le-mul_left k (omega (arith, given.two_points)) in
      let blocks : length B * (k + 1) ≤ length B * (2 * (k * (k - 1))) = mul-le-mul_left (length B) (omega (arith, pairs, given.two_points)) in
      let all : l * (v - 1) ≤ COVER_MAX * (v - 1) = mul-le-mul_right (v - 1) given.differences in
      let few : (k + 1) * length B ≤ 2 * COVER_MAX * POINTS_MAX = omega (arith, counted, blocks, all, given.points) in
      omega (arith, mul-le-mul_left v few, given.points)
