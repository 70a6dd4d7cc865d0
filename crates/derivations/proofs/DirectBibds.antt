-- The rules of block designs without premises: a candidate has what its construction needs, and the construction gives the design. A new rule
-- adds a lemma, and a case each to `direct_can_build` and `direct_meets`.
use Rattle.std.proofs.Common.{◌≡◌, ◌≢◌, ℕ, ◌+◌, ◌-◌, ◌%◌, ◌^◌, ◌≤◌, true, List, [], ◌∷◌, arith, refl, subst, sym}
use Rattle.rule_terms.proofs.Tests.{eight_tests, five_tests, six_tests}
use Rattle.counting.proofs.Booleans.{eqb-true, leb-true, ltb-true}
use Rattle.std.proofs.lemmas.Bool.Decides.{nat_tests}
use Rattle.design_base.specs.Blocks.{IsBibd}
use Rattle.design_base.specs.Canonical.{canonical}
use Rattle.design_base.specs.Geometries.{point_count}
use Rattle.design_base.specs.Limits.{in_bounds}
use Rattle.design_base.specs.declared.query.Query.{Query}
use Rattle.design_base.specs.declared.query.Query.TheVariants.{Bibd}
use Rattle.design_base.specs.declared.rule.Rule.{Rule}
use Rattle.design_base.specs.declared.rule.Rule.TheVariants.{Whole, Pairs, Omit, Bose, Skolem, Double, Middle, Ordered, Affine, Projective, Unital, Arc}
use Rattle.triple_systems.specs.Bose.{bose_blocks}
use Rattle.triple_systems.specs.Skolem.{skolem_blocks}
use Rattle.triple_systems.specs.Double.{double_blocks}
use Rattle.triple_systems.specs.OneGroup.{middle_blocks, ordered_blocks}
use Rattle.triple_systems.proofs.BoseSystem.{bose_design}
use Rattle.triple_systems.proofs.SkolemSystem.{skolem_design}
use Rattle.triple_systems.proofs.DoubleSystem.{double_design}
use Rattle.triple_systems.proofs.OneGroup.{middle_design, ordered_design}
use Rattle.spaces.specs.Lines.{affine_lines, projective_lines}
use Rattle.spaces.proofs.LineDesigns.{listed_affine, listed_projective}
use Rattle.spaces.proofs.OwnForm.{own_affine, own_projective}
use Rattle.plane_curves.specs.Conditions.{arc_size}
use Rattle.plane_curves.specs.Curves.{arc_blocks, unital_blocks}
use Rattle.plane_curves.proofs.CurveDesigns.{arcs, unitals}
use Rattle.gdd_pbd.specs.Basic.{omit_blocks, pair_blocks, whole_blocks}
use Rattle.gdd_pbd.proofs.BasicDesigns.{pairs_is_bibd, whole_is_bibd}
use Rattle.gdd_pbd.proofs.Complements.{omit_is_bibd}
use Rattle.rule_terms.specs.BibdTerms.{bibd_terms}
use Rattle.rule_terms.specs.RuleTree.{allows, premises_at}
use Rattle.rule_terms.proofs.Bounds.{bibd_bounds}
use Rattle.derivations.specs.AllMeet.{AllMeet}
use Rattle.derivations.specs.DirectBibds.{AreTriples, direct_blocks, CanBuildDirect}
use Rattle.derivations.proofs.Conditions.{allowed_at}
use Rattle.derivations.proofs.Sizes.{sized}

-- where there are no block lists, no questions are asked
none_asked : (ps : List Query) → AllMeet ps [] → ps ≡ []
none_asked [] meet = refl
none_asked (p ∷ ps) meet = absurd meet

module _ (v k l : ℕ) (bounds : in_bounds (Bibd v k l) ≡ true) where
  -- a candidate of the rule has what its construction needs
  abbrev Can : Rule → Type 0
  Can r = (a b c d : ℕ) → allows (bibd_terms v k l r) (a ∷ b ∷ c ∷ d ∷ []) ≡ true → CanBuildDirect v k l r a b

  whole : Can Whole
  unfolding bibd_terms allows CanBuildDirect
  whole a b c d e =
      let in_range = bibd_bounds v k l bounds in
      let size : v ≡ k = let t = (allowed_at (bibd_terms v k l Whole) (a ∷ b ∷ c ∷ d ∷ []) e).condition in grind (arith, nat_tests) in
      (record { points = in_range.points; covers = in_range.cover }, size)

  pairs : Can Pairs
  unfolding bibd_terms allows CanBuildDirect
  pairs a b c d e =
      let in_range = bibd_bounds v k l bounds in
      let size : 2 ≡ k = let t = (allowed_at (bibd_terms v k l Pairs) (a ∷ b ∷ c ∷ d ∷ []) e).condition in grind (arith, nat_tests) in
      (record { points = in_range.points; covers = in_range.cover }, size)

  omit : Can Omit
  unfolding bibd_terms allows CanBuildDirect
  omit a b c d e =
      let in_range = bibd_bounds v k l bounds in
      let t = (allowed_at (bibd_terms v k l Omit) (a ∷ b ∷ c ∷ d ∷ []) e).condition in
      let size : v - 1 ≡ k = grind (arith, nat_tests) in
      let least : 3 ≤ v = grind (arith, nat_tests) in
      let times : l % (v - 2) ≡ 0 = grind (arith, nat_tests) in
      (record { least = least; points = in_range.points; covers = in_range.cover; times = times }, size)

  bose : Can Bose
  unfolding bibd_terms allows CanBuildDirect
  bose a b c d e =
      let in_range = bibd_bounds v k l bounds in
      let t = (allowed_at (bibd_terms v k l Bose) (a ∷ b ∷ c ∷ d ∷ []) e).condition in
      let shape : v % 6 ≡ 3 = grind (arith, nat_tests) in
      let three : 3 ≡ k = grind (arith, nat_tests) in
      let once : 1 ≡ l = grind (arith, nat_tests) in
      record { least = omega (arith, in_range.block); points = in_range.points; shape = shape; three = three; cover = once }

  skolem : Can Skolem
  unfolding bibd_terms allows CanBuildDirect
  skolem a b c d e =
      let in_range = bibd_bounds v k l bounds in
      let t = (allowed_at (bibd_terms v k l Skolem) (a ∷ b ∷ c ∷ d ∷ []) e).condition in
      let shape : v % 6 ≡ 1 = grind (arith, nat_tests) in
      let three : 3 ≡ k = grind (arith, nat_tests) in
      let once : 1 ≡ l = grind (arith, nat_tests) in
      record { least = omega (arith, in_range.block); points = in_range.points; shape = shape; three = three; cover = once }

  double : Can Double
  unfolding bibd_terms allows CanBuildDirect
  double a b c d e =
      let in_range = bibd_bounds v k l bounds in
      let t = (allowed_at (bibd_terms v k l Double) (a ∷ b ∷ c ∷ d ∷ []) e).condition in
      let residue : v % 3 ≢ 2 = λ f. grind (arith, nat_tests) in
      let seven : v ≢ 7 = λ f. grind (arith, nat_tests) in
      let three : 3 ≡ k = grind (arith, nat_tests) in
      let twice : 2 ≡ l = grind (arith, nat_tests) in
      record { least = omega (arith, in_range.block); points = in_range.points; shape = (residue, seven); three = three; cover = twice }

  middle : Can Middle
  unfolding bibd_terms allows CanBuildDirect
  middle a b c d e =
      let in_range = bibd_bounds v k l bounds in
      let t = (allowed_at (bibd_terms v k l Middle) (a ∷ b ∷ c ∷ d ∷ []) e).condition in
      let shape : v % 2 ≡ 1 = grind (arith, nat_tests) in
      let three : 3 ≡ k = grind (arith, nat_tests) in
      let times : 3 ≡ l = grind (arith, nat_tests) in
      record { least = omega (arith, in_range.block); points = in_range.points; shape = shape; three = three; cover = times }

  ordered : Can Ordered
  unfolding bibd_terms allows CanBuildDirect
  ordered a b c d e =
      let in_range = bibd_bounds v k l bounds in
      let t = (allowed_at (bibd_terms v k l Ordered) (a ∷ b ∷ c ∷ d ∷ []) e).condition in
      let three : 3 ≡ k = grind (arith, nat_tests) in
      let times : 6 ≡ l = grind (arith, nat_tests) in
      record { least = omega (arith, in_range.block); points = in_range.points; shape = tt; three = three; cover = times }

  affine : Can Affine
  unfolding bibd_terms allows CanBuildDirect
  affine q m c d e =
      let in_range = bibd_bounds v k l bounds in
      let tests = five_tests (allowed_at (bibd_terms v k l Affine) (q ∷ m ∷ c ∷ d ∷ []) e).condition in
      let points : q ^ m ≡ v = sym (eqb-true v (q ^ m) tests.4) in
      let dimension : 2 ≤ m = leb-true 2 m tests.3 in (
        record { listed = tests.2; dimension = omega arith; few = omega (arith, in_range.points) },
        record { all = points; block = sym (eqb-true k q tests.0); once = sym (eqb-true l 1 tests.1) },
      )

  projective : Can Projective
  unfolding bibd_terms allows CanBuildDirect
  projective q m c d e =
      let in_range = bibd_bounds v k l bounds in
      let tests = five_tests (allowed_at (bibd_terms v k l Projective) (q ∷ m ∷ c ∷ d ∷ []) e).condition in
      let points : point_count q m ≡ v = sym (eqb-true v (point_count q m) tests.4) in
      let dimension : 2 ≤ m = leb-true 2 m tests.3 in (
        record { listed = tests.2; dimension = omega arith; few = omega (arith, in_range.points) },
        record { all = points; block = sym (eqb-true k (q + 1) tests.0); once = sym (eqb-true l 1 tests.1) },
      )

  unital : Can Unital
  unfolding bibd_terms allows CanBuildDirect
  unital q b c d e =
      let in_range = bibd_bounds v k l bounds in
      let tests = six_tests (allowed_at (bibd_terms v k l Unital) (q ∷ b ∷ c ∷ d ∷ []) e).condition in
      let points : q ^ 3 + 1 ≡ v = sym (eqb-true v (q ^ 3 + 1) tests.2) in (
        record { order = leb-true 2 q tests.3; listed = tests.4; points = omega (arith, points, in_range.points) },
        record { all = points; block = sym (eqb-true k (q + 1) tests.0); once = sym (eqb-true l 1 tests.1) },
      )

  arc : Can Arc
  unfolding bibd_terms allows CanBuildDirect
  arc r s c d e =
      let in_range = bibd_bounds v k l bounds in
      let tests = eight_tests (allowed_at (bibd_terms v k l Arc) (r ∷ s ∷ c ∷ d ∷ []) e).condition in
      let points : arc_size r s ≡ v = sym (eqb-true v (arc_size r s) tests.2) in (
        record {
          two_points = leb-true 1 r tests.3;
          smaller = ltb-true r s tests.4;
          listed = leb-true s 7 tests.5;
          points = omega (arith, points, in_range.points);
        },
        record { all = points; block = sym (eqb-true k (2 ^ r) tests.0); once = sym (eqb-true l 1 tests.1) },
      )

  -- the others ask for premises, or serve no block designs
  pub direct_can_build : (r : Rule) (a b c d : ℕ) → allows (bibd_terms v k l r) (a ∷ b ∷ c ∷ d ∷ []) ≡ true → AllMeet (premises_at (bibd_terms v k l r) (a ∷ b ∷ c ∷ d ∷ [])) []
      → CanBuildDirect v k l r a b
  unfolding bibd_terms allows premises_at
  direct_can_build Whole a b c d e meet = whole a b c d e
  direct_can_build Pairs a b c d e meet = pairs a b c d e
  direct_can_build Omit a b c d e meet = omit a b c d e
  direct_can_build Bose a b c d e meet = bose a b c d e
  direct_can_build Skolem a b c d e meet = skolem a b c d e
  direct_can_build Double a b c d e meet = double a b c d e
  direct_can_build Middle a b c d e meet = middle a b c d e
  direct_can_build Ordered a b c d e meet = ordered a b c d e
  direct_can_build Affine a b c d e meet = affine a b c d e
  direct_can_build Projective a b c d e meet = projective a b c d e
  direct_can_build Unital a b c d e meet = unital a b c d e
  direct_can_build Arc a b c d e meet = arc a b c d e
  direct_can_build r a b c d e meet = cc (none_asked (premises_at (bibd_terms v k l r) (a ∷ b ∷ c ∷ d ∷ [])) meet)

-- triples under other words
triples : (B : List (List ℕ)) (v k l times : ℕ) (Shape : Type 0) → AreTriples v k l times Shape → IsBibd B v 3 times → IsBibd B v k l
triples B v k l times Shape can d = subst (λ x. IsBibd B v x l) can.three (subst (IsBibd B v 3) can.cover d)

pub direct_meets : (v k l : ℕ) (r : Rule) (a b : ℕ) → CanBuildDirect v k l r a b → IsBibd (canonical (direct_blocks v l r a b)) v k l
unfolding direct_blocks CanBuildDirect
direct_meets v k l Whole a b can = subst (λ x. IsBibd (canonical (whole_blocks v l)) v x l) can.1 (whole_is_bibd v l)
direct_meets v k l Pairs a b can = subst (λ x. IsBibd (canonical (pair_blocks v l)) v x l) can.1 (pairs_is_bibd v l)
direct_meets v k l Omit a b can = subst (λ x. IsBibd (canonical (omit_blocks v l)) v x l) can.1 (omit_is_bibd v l can.0.least can.0.times)
direct_meets v k l Bose a b can = triples (canonical (bose_blocks v)) v k l 1 _ can (bose_design v can.shape)
direct_meets v k l Skolem a b can = triples (canonical (skolem_blocks v)) v k l 1 _ can (skolem_design v can.shape (omega (arith, can.least)))
direct_meets v k l Double a b can = triples (canonical (double_blocks v)) v k l 2 _ can (double_design v can.least can.shape.0 can.shape.1)
direct_meets v k l Middle a b can = triples (canonical (middle_blocks v)) v k l 3 _ can (middle_design v can.shape)
direct_meets v k l Ordered a b can = triples (canonical (ordered_blocks v)) v k l 6 _ can (ordered_design v can.least)
direct_meets v k l Affine q m can = sized (canonical (affine_lines q m)) v k l (q ^ m) q can.1 (subst (λ D. IsBibd D (q ^ m) q 1) (sym (own_affine q m)) (listed_affine q can.0.listed m))
direct_meets v k l Projective q m can = sized (canonical (projective_lines q m)) v k l (point_count q m) (q + 1) can.1
    (subst (λ D. IsBibd D (point_count q m) (q + 1) 1) (sym (own_projective q m)) (listed_projective q can.0.listed m))
direct_meets v k l Unital q b can = sized (canonical (unital_blocks q)) v k l (q ^ 3 + 1) (q + 1) can.1 (unitals q can.0)
direct_meets v k l Arc r s can = sized (canonical (arc_blocks r s)) v k l (arc_size r s) (2 ^ r) can.1 (arcs r s can.0)
direct_meets v k l r a b can = absurd can

-- for the functions that list the lines of geometries
pub ruleset own_forms = (own_affine, own_projective)
