-- The rules of block designs with premises: a candidate has what its construction needs, and the construction gives the design. A new rule adds
-- a lemma, and a case each to `made_can_build` and `made_meets`.
use Rattle.std.proofs.Common.{◌≡◌, ℕ, ◌+◌, ◌-◌, ◌*◌, ◌/◌, ◌%◌, ◌<◌, ◌≤◌, true, List, [], ◌∷◌, arith, refl, subst}
use Rattle.rule_terms.proofs.Tests.{four_tests}
use Rattle.std.proofs.Math.Nat.{div-add-mod', mul-le-mul_left}
use Rattle.counting.proofs.Booleans.{both, eqb-true}
use Rattle.std.proofs.lemmas.Bool.Decides.{nat_tests}
use Rattle.design_base.specs.Blocks.{IsBibd}
use Rattle.design_base.specs.Canonical.{canonical}
use Rattle.design_base.specs.Limits.{in_bounds}
use Rattle.design_base.specs.Meets.{Meets}
use Rattle.design_base.specs.declared.query.Group.{Group}
use Rattle.design_base.specs.declared.query.Group.TheVariants.{Cyclic, Field}
use Rattle.design_base.specs.declared.query.Query.TheVariants.{Bibd, Df, Gdd, Pbd}
use Rattle.design_base.specs.declared.rule.Rule.{Rule}
use Rattle.design_base.specs.declared.rule.Rule.TheVariants.{Developz, Developf, Fill, Fill1, Pbd as PbdRule, Sum, Complement}
use Rattle.block_counts.specs.Counts.{complement_cover, replication_number}
use Rattle.difference_sets.specs.Conditions.{CanDevelop}
use Rattle.difference_sets.proofs.Translations.{develop_design}
use Rattle.gdd_pbd.specs.Filling.{fill as fill_of, fill_with_point}
use Rattle.gdd_pbd.specs.FromPbd.{from_pbd}
use Rattle.gdd_pbd.proofs.BasicDesigns.{sum_is_bibd}
use Rattle.gdd_pbd.proofs.Complements.{complement_of}
use Rattle.gdd_pbd.proofs.Filled.{fill_is_bibd}
use Rattle.gdd_pbd.proofs.FilledWithPoint.{fill_with_point_is_bibd}
use Rattle.gdd_pbd.proofs.FromPbd.{from_pbd_is_bibd}
use Rattle.gdd_pbd.proofs.FromPbdNeeds.{first_can, second_can}
use Rattle.gdd_pbd.specs.Conditions.{CanPbdToBibd}
use Rattle.rule_terms.specs.BibdTerms.{bibd_terms}
use Rattle.rule_terms.specs.RuleTree.{allows, premises_at}
use Rattle.rule_terms.proofs.Bounds.{bibd_bounds}
use Rattle.derivations.specs.AllMeet.{AllMeet}
use Rattle.derivations.specs.MadeBibds.{made_blocks, CanBuildMade}
use Rattle.derivations.proofs.Conditions.{allowed_at}
use Rattle.derivations.proofs.Sizes.{sized}
use Rattle.derivations.proofs.Taken.{taken}

module _ (v k l : ℕ) (bounds : in_bounds (Bibd v k l) ≡ true) where
  -- a candidate of the rule has, with any designs that meet its premises, what its construction needs
  abbrev Can : Rule → Type 0
  Can r = (a b c d : ℕ) (I : List (List (List ℕ))) → allows (bibd_terms v k l r) (a ∷ b ∷ c ∷ d ∷ []) ≡ true → AllMeet (premises_at (bibd_terms v k l r) (a ∷ b ∷ c ∷ d ∷ [])) I
      → CanBuildMade v k l r a b I

  develops : (group : Group) (F : List (List ℕ)) → Meets (Df group v k l) F → CanDevelop group v k l F
  develops group F family =
      let in_range = bibd_bounds v k l bounds in
      record { two_points = in_range.least; block = in_range.block; points = in_range.points; differences = in_range.cover; family = family }

  developz : Can Developz
  unfolding bibd_terms allows premises_at CanBuildMade
  developz a b c d I e meet = taken (Df Cyclic v k l ∷ []) (CanBuildMade v k l Developz a b) I meet (develops Cyclic)

  developf : Can Developf
  unfolding bibd_terms allows premises_at CanBuildMade
  developf a b c d I e meet = taken (Df Field v k l ∷ []) (CanBuildMade v k l Developf a b) I meet (develops Field)

  fill : Can Fill
  unfolding bibd_terms allows premises_at CanBuildMade
  fill g u c d I e meet =
      let in_range = bibd_bounds v k l bounds in
      let t = (allowed_at (bibd_terms v k l Fill) (g ∷ u ∷ c ∷ d ∷ []) e).condition in
      let points : g * u ≡ v = grind (arith, nat_tests) in
      let once : 1 ≡ l = grind (arith, nat_tests) in
      let groups : (k ≤ g) × (k ≤ u) = grind (arith, nat_tests) in
      taken (Gdd k g u ∷ Bibd g k 1 ∷ []) (CanBuildMade v k l Fill g u) I meet (λ G gdd D design. (
        record {
          two = in_range.least;
          some = omega (arith, in_range.least, groups);
          groups = omega (arith, in_range.least, groups);
          points = omega (arith, points, in_range.points);
          gdd = gdd;
          design = design;
        },
        record { all = points; block = refl; once = once },
      ))

  fill_one : Can Fill1
  unfolding bibd_terms allows premises_at CanBuildMade
  fill_one g u c d I e meet =
      let in_range = bibd_bounds v k l bounds in
      let t = (allowed_at (bibd_terms v k l Fill1) (g ∷ u ∷ c ∷ d ∷ []) e).condition in
      let before : g * u ≡ v - 1 = grind (arith, nat_tests) in
      let points : g * u + 1 ≡ v = omega (arith, before, in_range.least, in_range.block) in
      let once : 1 ≡ l = grind (arith, nat_tests) in
      let groups : (k ≤ g) × (k ≤ u) = grind (arith, nat_tests) in
      taken (Gdd k g u ∷ Bibd (g + 1) k 1 ∷ []) (CanBuildMade v k l Fill1 g u) I meet (λ G gdd D design. (
        record {
          two = in_range.least;
          some = omega (arith, in_range.least, groups);
          groups = omega (arith, in_range.least, groups);
          points = omega (arith, points, in_range.points);
          gdd = gdd;
          design = design;
        },
        record { all = points; block = refl; once = once },
      ))

  pbd : Can PbdRule
  unfolding bibd_terms allows premises_at CanBuildMade
  pbd s b c d I e meet =
      let n = (v - 1) / (k - 1) in
      let in_range = bibd_bounds v k l bounds in
      let t = (allowed_at (bibd_terms v k l PbdRule) (s ∷ b ∷ c ∷ d ∷ []) e).condition in
      let once : 1 ≡ l = grind (arith, nat_tests) in
      let whole : (v - 1) % (k - 1) ≡ 0 = grind (arith, nat_tests) in
      let blocks : (2 ≤ s) × (s + 1 < n) = grind (arith, nat_tests) in
      let points : (k - 1) * n + 1 ≡ v = omega (arith, div-add-mod' (v - 1) (k - 1), whole, in_range.least, in_range.block) in
      let larger : (k - 1) * (s + 1) ≤ (k - 1) * n = mul-le-mul_left (k - 1) (omega (arith, blocks)) in
      taken (Pbd n s ∷ Bibd ((k - 1) * s + 1) k 1 ∷ Bibd ((k - 1) * (s + 1) + 1) k 1 ∷ []) (CanBuildMade v k l PbdRule s b) I meet (λ P pbd C small D large. (
        record {
          two = in_range.least;
          blocks = blocks.0;
          groups = omega (arith, blocks);
          points = omega (arith, points, in_range.points);
          larger = omega (arith, larger, points, in_range.points);
          pbd = pbd;
          small = small;
          large = large;
        },
        record { all = points; block = refl; once = once },
      ))

  sum : Can Sum
  unfolding bibd_terms allows premises_at CanBuildMade
  sum i b c d I e meet =
      let in_range = bibd_bounds v k l bounds in
      let t = (allowed_at (bibd_terms v k l Sum) (i ∷ b ∷ c ∷ d ∷ []) e).condition in
      let half : 2 * i ≤ l = grind (arith, nat_tests) in
      taken (Bibd v k i ∷ Bibd v k (l - i) ∷ []) (CanBuildMade v k l Sum i b) I meet (λ A first B second. record {
        two = in_range.least;
        points = in_range.points;
        most = omega arith;
        covers = in_range.cover;
        first = first;
        second = second;
      })

  complements : Can Complement
  unfolding bibd_terms allows premises_at CanBuildMade
  complements a b c d I e meet =
      let in_range = bibd_bounds v k l bounds in
      let t = allowed_at (bibd_terms v k l Complement) (a ∷ b ∷ c ∷ d ∷ []) e in
      let tests = four_tests t.condition in
      let inner = bibd_bounds v (v - k) (complement_cover v k l) (both (in_bounds (Bibd v (v - k) (complement_cover v k l))) _ t.bounded).0 in
      taken (Bibd v (v - k) (complement_cover v k l) ∷ []) (CanBuildMade v k l Complement a b) I meet (λ A design. record {
        two = in_range.least;
        left = omega (arith, inner.least, in_range.block);
        points = in_range.points;
        replication = eqb-true (l * (v - 1) % (k - 1)) 0 tests.1;
        count = eqb-true (v * replication_number v k l % k) 0 tests.2;
        some = omega (arith, inner.some);
        covers = inner.cover;
        design = design;
      })

  -- the others ask for no premises
  pub made_can_build : (r : Rule) (a b c d : ℕ) (A : List (List ℕ)) (I : List (List (List ℕ))) → allows (bibd_terms v k l r) (a ∷ b ∷ c ∷ d ∷ []) ≡ true
      → AllMeet (premises_at (bibd_terms v k l r) (a ∷ b ∷ c ∷ d ∷ [])) (A ∷ I) → CanBuildMade v k l r a b (A ∷ I)
  unfolding bibd_terms premises_at
  made_can_build Developz a b c d A I e meet = developz a b c d (A ∷ I) e meet
  made_can_build Developf a b c d A I e meet = developf a b c d (A ∷ I) e meet
  made_can_build Fill a b c d A I e meet = fill a b c d (A ∷ I) e meet
  made_can_build Fill1 a b c d A I e meet = fill_one a b c d (A ∷ I) e meet
  made_can_build PbdRule a b c d A I e meet = pbd a b c d (A ∷ I) e meet
  made_can_build Sum a b c d A I e meet = sum a b c d (A ∷ I) e meet
  made_can_build Complement a b c d A I e meet = complements a b c d (A ∷ I) e meet
  made_can_build r a b c d A I e meet = absurd meet

-- with blocks of k - 1 points and one more
extended : (n s k : ℕ) (P C D : List (List ℕ)) → CanPbdToBibd n s k P C D → IsBibd (canonical (from_pbd (k - 1) n s P C D)) ((k - 1) * n + 1) k 1
extended n s k P C D can =
    let size : k - 1 + 1 ≡ k = omega (arith, can.two) in
    subst (λ m. IsBibd (canonical (from_pbd (k - 1) n s P C D)) ((k - 1) * n + 1) m 1) size
    (from_pbd_is_bibd (k - 1) n s P C D (omega (arith, can.two)) can.pbd (first_can n s k P C D can).design (second_can n s k P C D can).design)

pub made_meets : (v k l : ℕ) (r : Rule) (a b : ℕ) (I : List (List (List ℕ))) → CanBuildMade v k l r a b I → IsBibd (canonical (made_blocks v k r a b I)) v k l
unfolding made_blocks CanBuildMade
made_meets v k l Developz a b (F ∷ []) can = develop_design Cyclic v k l F can
made_meets v k l Developf a b (F ∷ []) can = develop_design Field v k l F can
made_meets v k l Fill g u (G ∷ D ∷ []) can = sized (canonical (fill_of g u G D)) v k l (g * u) k can.1 (fill_is_bibd g u k G D can.0.some can.0.gdd can.0.design)
made_meets v k l Fill1 g u (G ∷ D ∷ []) can = sized (canonical (fill_with_point g u G D)) v k l (g * u + 1) k can.1 (fill_with_point_is_bibd g u k G D can.0.some can.0.gdd can.0.design)
made_meets v k l PbdRule s b (P ∷ C ∷ D ∷ []) can = let n = (v - 1) / (k - 1) in
    sized (canonical (from_pbd (k - 1) n s P C D)) v k l ((k - 1) * n + 1) k can.1 (extended n s k P C D can.0)
made_meets v k l Sum i b (A ∷ B ∷ []) can = sum_is_bibd A B v k l i can.most can.first can.second
made_meets v k l Complement a b (A ∷ []) can =
    complement_of A v k l can.two can.left can.replication can.count (complement_cover v k l) (omega (arith, can.some)) can.design
made_meets v k l r a b I can = absurd can
