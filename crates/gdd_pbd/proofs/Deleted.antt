-- A block design without its last point is a group divisible design.
use Rattle.std.proofs.Common.{◌≡◌, ℕ, ◌+◌, ◌*◌, ◌<◌, ◌≢◌, Bool, true, not, List, [], refl, ap, ap₂, sym, subst, ◌∙◌, arith, inl, inr, ◌&&◌, ◌==◌, length, get_or}
use Rattle.std.specs.Prelude.{All, filter, nat_lt}
use Rattle.std.specs.List.{sum_by, position_or_len}
use Rattle.counting.proofs.Booleans.{and_from, both, cases_order, eq-eqb, eqb-true, lt-ltb, ltb-true, not-true}
use Rattle.std.proofs.Math.Nat.{eq_of_mul-eq-mul_left}
use Rattle.std.proofs.lemmas.List.{length-map}
use Rattle.std.proofs.lemmas.List.Elements.{All-from_recursion, recursion_from_All}
use Rattle.design_base.proofs.Points.{holds_element, one-holds}
use Rattle.counting.proofs.OnePlace.{filter_sum, one_place, some_place, sum_at, sum_split}
use Rattle.design_base.proofs.Points.{holds-filter, differs_filter, misses}
use Rattle.std.proofs.lemmas.List.Sums.{passes_at_first, length-filter}
use Rattle.counting.specs.Sums.{one}
use Rattle.design_base.specs.Blocks.{holds, cover, replication, across, IsBibd, IsGdd}
use Rattle.design_base.specs.Canonical.{canonical}
use Rattle.gdd_pbd.specs.Filling.{rename}
use Rattle.design_base.specs.Arrays.{place}
use Rattle.gdd_pbd.specs.Deleting.{below_point, delete_last, group_in, groups_at, place_in, rank_in, renamed_rest}
use Rattle.counting.proofs.Counts.{one-true, one-false, sum_below-const}
use Rattle.design_base.proofs.Cover.{cover-is, cover-turn}
use Rattle.design_base.proofs.Canonical.{IsLoose, IsPointSet, KeepsApart, design_from_loose, loose_from_design}
use Rattle.design_base.proofs.Places.{same_place, place-below, by_places, across-apart, across-inside}
use Rattle.gdd_pbd.proofs.Dropped.{cut_length}
use Rattle.block_counts.proofs.Flags.{companions, lengths_at}
use Rattle.gdd_pbd.proofs.Renamed.{cover-rename, sets-rename}
use Rattle.counting.proofs.Lists.{one-and, sum_by-agree, sum_by-same, sum_by-map, all_filter, each_all, All-map_of}

module _ (g u : ℕ) (B : List (List ℕ)) (pos : 0 < g) (bibd : IsBibd B (g * u + 1) (g + 1) 1) where
  design : IsLoose B (g * u + 1) (λ s. s ≡ g + 1) (λ x y. 1)
  design = loose_from_design (g * u + 1) (λ s. s ≡ g + 1) B (λ x y. 1) bibd

  last : ℕ
  last = g * u

  G : List (List ℕ)
  G = groups_at last B

  other : ℕ → Bool
  other z = nat_lt z last

  is_other : (z : ℕ) → z < last → other z ≡ true
  unfolding other
  is_other z l = lt-ltb z last l

  -- what a sum over the groups is
  over_groups : (f : List ℕ → ℕ) → sum_by f G ≡ sum_by (λ b. one (holds last b) * f (filter other b)) B
  unfolding G groups_at below_point other
  over_groups f = sum_by-map f (λ b. filter other b) (filter (λ b. holds last b) B) ∙ filter_sum (λ b. holds last b) (λ b. f (filter other b)) B

  -- each point is in one group
  in_one : (x : ℕ) → x < last → sum_by (λ b. one (holds x b)) G ≡ 1
  unfolding last
  in_one x l = over_groups (λ b. one (holds x b))
      ∙ sum_by-agree (IsPointSet (g * u + 1) (λ s. s ≡ g + 1)) _ (λ b. one (holds last b && holds x b)) B design.blocks (λ b s. ap (λ n. one (holds last b) * n) (ap one (holds-filter other x b (is_other x l))) ∙ sym (one-and (holds last b) (holds x b)))
      ∙ sym (cover-is B last x) ∙ cover-turn B last x ∙ design.pairs x last l (omega arith)

  group_set : (b : List ℕ) → IsPointSet (g * u + 1) (λ s. s ≡ g + 1) b → holds last b ≡ true → IsPointSet last (λ s. s ≡ g) (filter other b)
  unfolding last one other
  group_set b s h = record {
    differs = differs_filter other b s.differs;
    below = all_filter (λ z. z < g * u + 1) (λ z. z < last) other (λ z l e. ltb-true z last e) b s.below;
    size = omega (arith, cut_length (g * u) b s.differs s.below, s.size, one-true (holds last b) h);
  }

  group_sets : All (IsPointSet last (λ s. s ≡ g)) G
  unfolding G groups_at below_point other
  group_sets = All-map_of (λ b. IsPointSet (g * u + 1) (λ s. s ≡ g + 1) b × (holds last b ≡ true)) (IsPointSet last (λ s. s ≡ g)) (λ b. filter other b) (filter (λ b. holds last b) B)
      (All-from_recursion _ _ (all_filter (IsPointSet (g * u + 1) (λ s. s ≡ g + 1)) (λ b. IsPointSet (g * u + 1) (λ s. s ≡ g + 1) b × (holds last b ≡ true)) (λ b. holds last b) (λ b s h. (s, h)) B (recursion_from_All _ B design.blocks)))
      (λ b s. group_set b s.0 s.1)

  count : length G ≡ u
  unfolding G groups_at below_point last other replication
  count = length-map (filter (λ b. holds last b) B) (λ b. filter other b) ∙ length-filter (λ b. holds last b) B ∙ eq_of_mul-eq-mul_left g pos (replication B last) u through
    where
      through : g * replication B (g * u) ≡ g * u
      through = omega (
        arith,
        companions B (g * u + 1) (λ s. s ≡ g + 1) (λ x y. 1) (λ x y. refl) bibd (g * u) (omega arith),
        lengths_at B (g * u + 1) (g + 1) bibd.blocks (g * u),
        sum_below-const (g * u + 1) 1,
      )

  -- the group and the rank of a point
  group_of : ℕ → ℕ
  group_of x = position_or_len (λ b. holds x b) G

  rank_of : ℕ → ℕ
  rank_of x = position_or_len (λ z. z == x) (get_or G (group_of x) [])

  name : ℕ → ℕ → ℕ
  name c a = get_or (get_or G c []) a 0

  group_below : (x : ℕ) → x < last → group_of x < length G
  unfolding group_of
  group_below x l = some_place (λ b. holds x b) G (in_one x l)

  in_group : (x : ℕ) → x < last → holds x (get_or G (group_of x) []) ≡ true
  unfolding group_of
  in_group x l = passes_at_first (λ b. holds x b) G [] (group_below x l)

  once : (c x : ℕ) → c < length G → holds x (get_or G c []) ≡ true → sum_by (λ z. one (z == x)) (get_or G c []) ≡ 1
  once c x l h = sym (one-holds x (get_or G c []) (group_sets c [] l).differs) ∙ one-true _ h

  rank_below : (x : ℕ) → x < last → rank_of x < g
  unfolding rank_of
  rank_below x l = subst (λ n. rank_of x < n) (group_sets (group_of x) [] (group_below x l)).size (some_place (λ z. z == x) (get_or G (group_of x) []) (once (group_of x) x (group_below x l) (in_group x l)))

  named : (x : ℕ) → x < last → name (group_of x) (rank_of x) ≡ x
  unfolding name rank_of
  named x l = eqb-true (name (group_of x) (rank_of x)) x (passes_at_first (λ z. z == x) (get_or G (group_of x) []) 0 (some_place (λ z. z == x) (get_or G (group_of x) []) (once (group_of x) x (group_below x l) (in_group x l))))

  name-is : (c a : ℕ) → get_or (get_or G c []) a 0 ≡ name c a
  unfolding name
  name-is c a = refl

  loose_pair : (x y : ℕ) → x < last → y < last → x ≢ y → cover B x y ≡ 1
  unfolding last
  loose_pair x y l m ne = elim (cases_order x y) [
    | inl e ↦ absurd (ne e)
    | inr (inl w) ↦ design.pairs x y w (omega arith)
    | inr (inr w) ↦ cover-turn B x y ∙ design.pairs y x w (omega arith)
  ]

  -- and the other way round
  name_holds : (c a : ℕ) → c < u → a < g → holds (name c a) (get_or G c []) ≡ true
  unfolding name
  name_holds c a l m = holds_element (get_or G c []) a (omega (arith, (group_sets c [] (omega (arith, count))).size))

  name_below : (c a : ℕ) → c < u → a < g → name c a < last
  unfolding name
  name_below c a l m = All-from_recursion (λ z. z < last) _ (group_sets c [] (omega (arith, count))).below a 0 (omega (arith, (group_sets c [] (omega (arith, count))).size))

  group_of_name : (c a : ℕ) → c < u → a < g → group_of (name c a) ≡ c
  group_of_name c a l m = one_place (λ b. holds (name c a) b) G (group_of (name c a)) c [] (in_one (name c a) (name_below c a l m)) (group_below (name c a) (name_below c a l m)) (omega (arith, count)) (in_group (name c a) (name_below c a l m)) (name_holds c a l m)

  rank_of_name : (c a : ℕ) → c < u → a < g → rank_of (name c a) ≡ a
  unfolding rank_of
  rank_of_name c a l m = ap (λ k. position_or_len (λ z. z == name c a) (get_or G k [])) (group_of_name c a l m)
      ∙ one_place (λ z. z == name c a) (get_or G c []) (position_or_len (λ z. z == name c a) (get_or G c [])) a 0 only (some_place (λ z. z == name c a) (get_or G c []) only) (omega (arith, (group_sets c [] (omega (arith, count))).size))
      (passes_at_first (λ z. z == name c a) (get_or G c []) 0 (some_place (λ z. z == name c a) (get_or G c []) only)) (self_equal c a)
    where
      only : sum_by (λ z. one (z == name c a)) (get_or G c []) ≡ 1
      only = once c (name c a) (omega (arith, count)) (name_holds c a l m)

      self_equal : (c a : ℕ) → (get_or (get_or G c []) a 0 == name c a) ≡ true
      self_equal c a = eq-eqb _ _ (name-is c a)

  -- ---- the new names of points
  φ : ℕ → ℕ
  φ = place_in g G

  φ-is : (x : ℕ) → φ x ≡ place g (group_of x) (rank_of x)
  unfolding φ place_in group_of rank_of
  φ-is x = refl

  φ-name : (c a : ℕ) → c < u → a < g → φ (name c a) ≡ place g c a
  φ-name c a l m = φ-is (name c a) ∙ ap₂ (place g) (group_of_name c a l m) (rank_of_name c a l m)

  keeps : KeepsApart last φ
  keeps x y l m e = let s = same_place g (group_of x) (group_of y) (rank_of x) (rank_of y) (rank_below x l) (rank_below y m) (sym (φ-is x) ∙ e ∙ φ-is y) in
      sym (named x l) ∙ ap₂ name s.0 s.1 ∙ named y m

  into : (x : ℕ) → x < last → φ x < g * u
  into x l = omega (arith, φ-is x, place-below g u (group_of x) (rank_of x) (omega (arith, group_below x l, count)) (rank_below x l))

  -- ---- covers
  rest : List (List ℕ)
  rest = filter (λ b. not (holds last b)) B

  rest_sets : All (IsPointSet last (λ s. s ≡ g + 1)) rest
  unfolding rest last
  rest_sets = All-from_recursion _ _ (all_filter (IsPointSet (g * u + 1) (λ s. s ≡ g + 1)) (IsPointSet last (λ s. s ≡ g + 1)) (λ b. not (holds last b))
      (λ b s h. record { differs = s.differs; below = misses (g * u) b (not-true (holds last b) h) s.below; size = s.size }) B (recursion_from_All _ B design.blocks))

  test : ℕ → ℕ → List ℕ → ℕ
  test x y b = one (holds x b && holds y b)

  -- two points stand together in a group or in a block that is kept
  shared : (x y : ℕ) → x < last → y < last → cover B x y ≡ sum_by (test x y) G + cover rest x y
  unfolding test rest
  shared x y l m = cover-is B x y ∙ sum_split (λ b. holds last b) (test x y) B
      ∙ ap₂ (λ s t. s + t) (filter_sum (λ b. holds last b) (test x y) B ∙ sum_by-same _ (λ b. one (holds last b) * test x y (filter other b)) B (each_all _ (λ b. ap (λ n. one (holds last b) * n) (ap₂ (λ p q. one (p && q)) (sym (holds-filter other x b (is_other x l))) (sym (holds-filter other y b (is_other y m))))) B) ∙ sym (over_groups (test x y)))
      (sym (cover-is (filter (λ b. not (holds last b)) B) x y))

  -- only the group of the first point counts
  at_group : (c a y : ℕ) → c < u → a < g → sum_by (test (name c a) y) G ≡ test (name c a) y (get_or G c [])
  unfolding test
  at_group c a y l m = sum_at (λ b. true) (test (name c a) y) G c [] (omega (arith, count)) (λ k h ne. one-false _ (λ e. ne (one_place (λ b. holds (name c a) b) G k c [] (in_one (name c a) (name_below c a l m)) h (omega (arith, count)) (both _ _ e).0 (name_holds c a l m))))

  inside : (c a e : ℕ) → c < u → a < e → e < g → cover rest (name c a) (name c e) ≡ 0
  unfolding test
  inside c a e l m n = omega (
    arith,
    shared (name c a) (name c e) (name_below c a l (omega arith)) (name_below c e l n),
    at_group c a (name c e) l (omega arith),
    one-true (holds (name c a) (get_or G c []) && holds (name c e) (get_or G c [])) (and_from _ _ (name_holds c a l (omega arith)) (name_holds c e l n)),
    loose_pair (name c a) (name c e) (name_below c a l (omega arith)) (name_below c e l n)
        (λ f. omega (arith, rank_of_name c a l (omega arith), rank_of_name c e l n, ap rank_of f)),
  )

  apart : (c d a e : ℕ) → c < d → d < u → a < g → e < g → cover rest (name c a) (name d e) ≡ 1
  unfolding test
  apart c d a e l m n o = omega (
    arith,
    shared (name c a) (name d e) (name_below c a (omega arith) n) (name_below d e m o),
    at_group c a (name d e) (omega arith) n,
    one-false (holds (name c a) (get_or G c []) && holds (name d e) (get_or G c [])) (λ f. omega (arith, one_place (λ b. holds (name d e) b) G c d [] (in_one (name d e) (name_below d e m o)) (omega (arith, count)) (omega (arith, count)) (both _ _ f).1 (name_holds d e m o))),
    loose_pair (name c a) (name d e) (name_below c a (omega arith) n) (name_below d e m o) (λ f. omega (arith, group_of_name c a (omega arith) n, group_of_name d e m o, ap group_of f)),
  )

  pub delete_is_loose : IsLoose (delete_last g u B) (g * u) (λ s. s ≡ g + 1) (across g)
  unfolding renamed_rest φ G rest last
  delete_is_loose = record {
    blocks = sets-rename last (g * u) (λ s. s ≡ g + 1) φ rest rest_sets keeps into;
    pairs = λ p q l m. by_places (λ p q. cover (rename φ rest) p q ≡ across g p q) g u pos
        (λ c d a e l m n o. ap₂ (cover (rename φ rest)) (sym (φ-name c a (omega arith) n)) (sym (φ-name d e m o))
        ∙ cover-rename last (g * u) (λ s. s ≡ g + 1) φ rest rest_sets keeps (name c a) (name d e) (name_below c a (omega arith) n) (name_below d e m o)
        ∙ apart c d a e l m n o ∙ sym (across-apart g c a d e n o (omega arith)))
        (λ c a e l m n. ap₂ (cover (rename φ rest)) (sym (φ-name c a l (omega arith))) (sym (φ-name c e l n))
        ∙ cover-rename last (g * u) (λ s. s ≡ g + 1) φ rest rest_sets keeps (name c a) (name c e) (name_below c a l (omega arith)) (name_below c e l n)
        ∙ inside c a e l m n ∙ sym (across-inside g c a e (omega arith) n))
        p q l (omega arith);
  }

  -- the same over the words of specs
  pub groups_counted : length (groups_at (g * u) B) ≡ u
  unfolding G last
  groups_counted = count

  pub group_exists : (x : ℕ) → x < g * u → group_in (groups_at (g * u) B) x < length (groups_at (g * u) B)
  unfolding G last group_of
  group_exists x l = group_below x l

  pub rank_small : (x : ℕ) → x < g * u → rank_in (get_or (groups_at (g * u) B) (group_in (groups_at (g * u) B) x) []) x < g
  unfolding G last group_of rank_of
  rank_small x l = rank_below x l

pub delete_is_gdd : (g u : ℕ) (B : List (List ℕ)) → 0 < g → IsBibd B (g * u + 1) (g + 1) 1 → IsGdd (canonical (delete_last g u B)) (g + 1) g u
delete_is_gdd g u B pos design = design_from_loose (g * u) (λ s. s ≡ g + 1) (delete_last g u B) (across g)
    (delete_is_loose g u B pos design)
