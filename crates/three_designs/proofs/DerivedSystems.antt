-- A quadruple system has 2 or 4 points modulo 6: the blocks through its last point are a triple system, without that point.
use Rattle.std.proofs.Common.{Bool, List, ap, ap₂, arith, false, inl, inr, length, map, refl, subst, suc, sym, true, zero, ℕ, ◌&&◌, ◌*◌, ◌%◌, ◌/◌, ◌+◌, ◌-◌, ◌<◌, ◌∙◌, ◌≡◌, ◌⊎◌}
use Rattle.std.proofs.Math.Nat.{add-mul-mod_self_right, div-add-mod', mod-lt}
use Rattle.std.proofs.lemmas.List.Elements.{All-from_recursion, recursion_from_All}
use Rattle.std.specs.List.{AllByRecursion}
use Rattle.std.specs.Prelude.{filter, nat_lt}
use Rattle.block_counts.proofs.Replication.{block_count, number_times}
use Rattle.block_counts.specs.Counts.{replication_number}
use Rattle.counting.proofs.Booleans.{and_true, lt-ltb, ltb-true}
use Rattle.counting.proofs.Counts.{one-true, sum_below-same, sum_below-suc}
use Rattle.counting.proofs.Lists.{All-map_of, all_filter, each_all, one-and, sum_by-length, sum_by-map, sum_by-same}
use Rattle.counting.proofs.OnePlace.{filter_sum}
use Rattle.counting.specs.Sums.{one, sum_below}
use Rattle.design_base.proofs.Canonical.{Differs, IsLoose, design_from_loose}
use Rattle.design_base.proofs.Cover.{cover-is}
use Rattle.design_base.proofs.Points.{differs_filter, holds-filter, sum_set}
use Rattle.design_base.specs.Blocks.{IsBibd, holds}
use Rattle.design_base.specs.Canonical.{canonical}
use Rattle.three_designs.specs.Laws.{PointsLaw}
use Rattle.three_designs.proofs.Triples.{IsLooseSqs, IsSet, cover_three-is, loose_from_sqs}

module _ (w : ℕ) (B : List (List ℕ)) (system : IsLooseSqs B (suc w)) where
  is_low : ℕ → Bool
  is_low x = nat_lt x w

  cut : List ℕ → List ℕ
  cut b = filter is_low b

  derived : List (List ℕ)
  derived = map cut (filter (λ b. holds w b) B)

  holds-cut : (x : ℕ) (b : List ℕ) → x < w → holds x (cut b) ≡ holds x b
  unfolding cut is_low
  holds-cut x b l = holds-filter is_low x b (lt-ltb x w l)

  abbrev GoesThrough : List ℕ → Type 0
  GoesThrough b = IsSet (suc w) 4 b × (holds w b ≡ true)

  cut_set : (b : List ℕ) → GoesThrough b → IsSet w 3 (cut b)
  unfolding cut is_low
  cut_set b t = record { differs = differs; below = below; size = size }
    where
      differs : Differs (cut b)
      differs = differs_filter is_low b t.0.differs

      below : AllByRecursion (λ x. x < w) (cut b)
      below = all_filter (λ x. x < suc w) (λ x. x < w) is_low (λ x l e. ltb-true x w e) b t.0.below

      points_of : (v : ℕ) (b : List ℕ) → Differs b → AllByRecursion (λ x. x < v) b → length b ≡ sum_below v (λ x. one (holds x b))
      points_of v b d h = sym (sum_by-length b) ∙ sum_set v (λ x. 1) b d h ∙ sum_below-same v _ (λ x. one (holds x b)) (λ x l. omega arith)

      size : length (cut b) ≡ 3
      size = omega (
        arith,
        points_of w (cut b) differs below,
        sum_below-same w (λ y. one (holds y (cut b))) (λ y. one (holds y b)) (λ y l. ap one (holds-cut y b l)),
        sum_below-suc w (λ y. one (holds y b)),
        points_of (suc w) b t.0.differs t.0.below,
        t.0.size,
        one-true (holds w b) t.1,
      )

  triple_system : IsLoose derived w (λ size. size ≡ 3) (λ x y. 1)
  unfolding derived
  triple_system = record {
    blocks = All-map_of GoesThrough (IsSet w 3) cut (filter (λ b. holds w b) B)
        (All-from_recursion GoesThrough _ (all_filter (IsSet (suc w) 4) GoesThrough (λ b. holds w b) (λ b s e. (s, e)) B (recursion_from_All (IsSet (suc w) 4) B system.blocks))) cut_set;
    pairs = λ x y l m. cover-is derived x y ∙ sum_by-map (λ b. one (holds x b && holds y b)) cut (filter (λ b. holds w b) B)
        ∙ sum_by-same _ (λ b. one (holds x b && holds y b)) (filter (λ b. holds w b) B) (each_all _ (λ b. ap₂ (λ p q. one (p && q)) (holds-cut x b (omega arith)) (holds-cut y b m)) (filter (λ b. holds w b) B))
        ∙ filter_sum (λ b. holds w b) (λ b. one (holds x b && holds y b)) B
        ∙ sum_by-same _ (λ b. one (holds x b && (holds y b && holds w b))) B (each_all _ (λ b. sym (one-and (holds w b) (holds x b && holds y b)) ∙ ap one (last_first (holds w b) (holds x b) (holds y b))) B)
        ∙ sym (cover_three-is B x y w) ∙ system.triples x y w l m (omega arith);
  }
    where
      last_first : (p q r : Bool) → (p && (q && r)) ≡ (q && (r && p))
      last_first true q r = ap (λ t. q && t) (sym (and_true r))
      last_first false true true = refl
      last_first false true false = refl
      last_first false false r = refl

  design : IsBibd (canonical derived) w 3 1
  design = design_from_loose w (λ size. size ≡ 3) derived (λ x y. 1) triple_system

-- 2 r + 2 points, where each of the others is in r triples, and there are b triples
two_or_four : (r b : ℕ) → b * 3 ≡ (2 * r + 1) * r → ((2 * r + 2) % 6 ≡ 2) ⊎ ((2 * r + 2) % 6 ≡ 4)
two_or_four r b e = by (r / 3) (r % 3) (mod-lt r (let h : 0 < 3 = omega arith in h)) (sym (div-add-mod' r 3))
  where
    by : (q s : ℕ) → s < 3 → r ≡ q * 3 + s → ((2 * r + 2) % 6 ≡ 2) ⊎ ((2 * r + 2) % 6 ≡ 4)
    by q zero l f = inl (ap (λ t. t % 6) (let g : 2 * r + 2 ≡ 2 + q * 6 = omega arith in g) ∙ add-mul-mod_self_right 2 q 6)
    by q (suc zero) l f = inr (ap (λ t. t % 6) (let g : 2 * r + 2 ≡ 4 + q * 6 = omega arith in g) ∙ add-mul-mod_self_right 4 q 6)
    by q (suc (suc s)) l f = absurd (let g : r ≡ q * 3 + 2 = omega arith in omega (arith, e, ap (λ t. (2 * t + 1) * t) g))

pub points_modulo_six : PointsLaw
points_modulo_six B zero two system = absurd (omega arith)
points_modulo_six B (suc w) two system =
    let loose = loose_from_sqs (suc w) B system in
    let triples : List (List ℕ) = canonical (derived w B loose) in
    let r : ℕ = replication_number w 3 1 in
    let each : r * (3 - 1) ≡ 1 * (w - 1) = number_times triples w 3 1 (design w B loose) (omega arith) 0 (omega arith) in
    let whole : w ≡ 2 * r + 1 = omega (arith, each) in
    let count : w * r ≡ length triples * 3 = block_count triples w 3 1 (design w B loose) (omega arith) in
    subst (λ v. (v % 6 ≡ 2) ⊎ (v % 6 ≡ 4)) (let e : 2 * r + 2 ≡ suc w = omega (arith, whole) in e) (two_or_four r (length triples) (sym count ∙ ap (λ t. t * r) whole))
