-- Two pairs of points crossed: one on the points below w, and one on those from w on.
use Rattle.std.proofs.Common.{Bool, List, [], ap, ap₂, arith, cond, false, length, map, refl, sym, true, ℕ, ◌&&◌, ◌||◌, ◌*◌, ◌++◌, ◌+◌, ◌<◌, ◌==◌, ◌∙◌, ◌∷◌, ◌≡◌, ◌≢◌, ◌≤◌}
use Rattle.std.proofs.lemmas.Bool.Decides.{nat_tests}
use Rattle.std.proofs.lemmas.List.{length-append}
use Rattle.std.specs.List.{AllByRecursion, flat_map, sum_by}
use Rattle.std.specs.Prelude.{All}
use Rattle.counting.proofs.Booleans.{bool_same, eq-eqb, eqb-true, false_from_ne_true, ne_eqb, or_false}
use Rattle.counting.proofs.Counts.{one-false}
use Rattle.counting.proofs.Lists.{All-flat_map_of, All-map_of, each-weaker, each_all, each_map, one-and, sum_by-agree, sum_by-flat_map, sum_by-map, sum_by-mul, sum_by-same, sum_by-zero}
use Rattle.counting.specs.Sums.{one}
use Rattle.block_counts.proofs.Flags.{replication-is}
use Rattle.design_base.proofs.Canonical.{Differs, set-map}
use Rattle.design_base.proofs.Cover.{cover-is, holds-append, holds-cons, holds-none}
use Rattle.design_base.proofs.Points.{each_at}
use Rattle.design_base.specs.Blocks.{cover, holds, replication}
use Rattle.three_designs.specs.Quadruples.{crossed, moved}
use Rattle.three_designs.specs.StrengthThree.{cover_three}
use Rattle.three_designs.proofs.Triples.{IsSet, cover_three-is}

-- a block holds no point past its points
pub not_held : (v x : ℕ) (b : List ℕ) → AllByRecursion (λ z. z < v) b → v ≤ x → holds x b ≡ false
not_held v x b h l = false_from_ne_true (holds x b) (λ e. let g : x < v = each_at (λ z. z < v) x b h e in omega arith)

module _ (w : ℕ) where
  pub holds-moved : (x : ℕ) (b : List ℕ) → holds (x + w) (moved w b) ≡ holds x b
  unfolding moved
  holds-moved x [] = holds-none (x + w) ∙ sym (holds-none x)
  holds-moved x (z ∷ b) = holds-cons (x + w) (z + w) (moved w b) ∙ ap₂ ◌||◌ same (holds-moved x b) ∙ sym (holds-cons x z b)
    where
      same : (z + w == x + w) ≡ (z == x)
      same = bool_same _ _ (λ e. eq-eqb z x (let f = eqb-true (z + w) (x + w) e in omega arith)) (λ e. eq-eqb (z + w) (x + w) (ap (λ n. n + w) (eqb-true z x e)))

  pub holds-moved_none : (x : ℕ) (b : List ℕ) → x < w → holds x (moved w b) ≡ false
  unfolding moved
  holds-moved_none x [] l = holds-none x
  holds-moved_none x (z ∷ b) l = holds-cons x (z + w) (moved w b) ∙ ap₂ ◌||◌ (ne_eqb (z + w) x (omega arith)) (holds-moved_none x b l)

  pub moved_set : (k : ℕ) (b : List ℕ) → IsSet w k b → IsSet (w + w) k (moved w b)
  unfolding moved
  moved_set k b s = set-map w (λ z. z + w) (λ x y a b e. omega arith) (w + w) (λ size. size ≡ k) (λ x l. omega arith) b s

  pub wider_set : (k : ℕ) (b : List ℕ) → IsSet w k b → IsSet (w + w) k b
  wider_set k b s = record { differs = s.differs; below = each-weaker (λ z. z < w) (λ z. z < w + w) (λ z l. omega arith) b s.below; size = s.size }

  differs_append : (p q : List ℕ) → Differs p → Differs q → AllByRecursion (λ z. z < w) p → AllByRecursion (λ z. w ≤ z) q → Differs (p ++ q)
  differs_append [] q d e h g = e
  differs_append (x ∷ p) q d e h g = (others p d.0, differs_append p q d.1 e h.1 g)
    where
      above : (q : List ℕ) → AllByRecursion (λ z. w ≤ z) q → AllByRecursion (λ z. x ≢ z) q
      above q g = each-weaker (λ z. w ≤ z) (λ z. x ≢ z) (λ z l e. omega (arith, h.0)) q g

      others : (p : List ℕ) → AllByRecursion (λ z. x ≢ z) p → AllByRecursion (λ z. x ≢ z) (p ++ q)
      others [] d = above q g
      others (y ∷ p) d = (d.0, others p d.1)

  each-append : (P : ℕ → Type 0) (p q : List ℕ) → AllByRecursion P p → AllByRecursion P q → AllByRecursion P (p ++ q)
  each-append P [] q h g = g
  each-append P (x ∷ p) q h g = (h.0, each-append P p q h.1 g)

  crossed_set : (p q : List ℕ) → IsSet w 2 p → IsSet w 2 q → IsSet (w + w) 4 (p ++ moved w q)
  unfolding moved
  crossed_set p q s t =
      let m = moved_set 2 q t in
      let n = wider_set 2 p s in
      record {
        differs = differs_append p (moved w q) s.differs m.differs s.below (high q);
        below = each-append (λ z. z < w + w) p (moved w q) n.below m.below;
        size = length-append p (moved w q) ∙ ap₂ (λ m n. m + n) s.size m.size;
      }
    where
      high : (q : List ℕ) → AllByRecursion (λ z. w ≤ z) (moved w q)
      high q = each_map (λ z. z + w) (λ z. Unit {0}) (λ z. w ≤ z) (λ z u. omega arith) q (each_all _ (λ z. tt) q)

  holds_low : (x : ℕ) (p q : List ℕ) → x < w → holds x (p ++ moved w q) ≡ holds x p
  holds_low x p q l = holds-append x p (moved w q) ∙ ap (λ t. holds x p || t) (holds-moved_none x q l) ∙ or_false (holds x p)

  holds_high : (x : ℕ) (p q : List ℕ) → AllByRecursion (λ z. z < w) p → holds (x + w) (p ++ moved w q) ≡ holds x q
  holds_high x p q h = holds-append (x + w) p (moved w q) ∙ ap₂ ◌||◌ (not_held w (x + w) p h (omega arith)) (holds-moved x q)

-- tests of three points
pub first_fails : (p q : Bool) → p ≡ false → one (p && q) ≡ 0
unfolding one
first_fails p q e = ap (λ t. cond (t && q) 1 0) e

pub last_fails : (p q r : Bool) → r ≡ false → one (p && (q && r)) ≡ 0
unfolding one
last_fails true true r e = ap (λ t. cond t 1 0) e
last_fails true false r e = refl
last_fails false q r e = refl

first_two : (p q r : Bool) → one (p && (q && r)) ≡ one (p && q) * one r
unfolding one
first_two true q r = one-and q r
first_two false q r = omega arith

-- two points are not three
not_three : (p : List ℕ) (x y z : ℕ) → length p ≡ 2 → x < y → y < z → (holds x p && (holds y p && holds z p)) ≡ true → ⊥
unfolding holds
not_three [] x y z e l m h = absurd (omega arith)
not_three (s ∷ []) x y z e l m h = absurd (omega arith)
not_three (s ∷ (t ∷ [])) x y z e l m h = grind (arith, nat_tests)
not_three (s ∷ (t ∷ (u ∷ p))) x y z e l m h = absurd (omega arith)

module _ (w : ℕ) (F : List (List ℕ)) (sets : All (IsSet w 2) F) where
  -- the covers of the crossed pairs of one factor
  over_pairs : (x y z : ℕ) (f : List ℕ → List ℕ → ℕ) → ((p q : List ℕ) → IsSet w 2 p → IsSet w 2 q → one (holds x (p ++ moved w q) && (holds y (p ++ moved w q) && holds z (p ++ moved w q))) ≡ f p q)
      → cover_three (crossed w F) x y z ≡ sum_by (λ p. sum_by (λ q. f p q) F) F
  unfolding crossed
  over_pairs x y z f same = cover_three-is (flat_map (λ p. map (λ q. p ++ moved w q) F) F) x y z
      ∙ sum_by-flat_map (λ b. one (holds x b && (holds y b && holds z b))) (λ p. map (λ q. p ++ moved w q) F) F
      ∙ sum_by-agree (IsSet w 2) _ (λ p. sum_by (λ q. f p q) F) F sets (λ p s.
      sum_by-map (λ b. one (holds x b && (holds y b && holds z b))) (λ q. p ++ moved w q) F
      ∙ sum_by-agree (IsSet w 2) _ (λ q. f p q) F sets (λ q t. same p q s t))

  pub all_low : (x y z : ℕ) → x < y → y < z → z < w → cover_three (crossed w F) x y z ≡ 0
  all_low x y z l m n = over_pairs x y z (λ p q. 0) (λ p q s t. one-false _ (λ e. not_three p x y z s.size l m
      (sym (ap₂ ◌&&◌ (holds_low w x p q (omega arith)) (ap₂ ◌&&◌ (holds_low w y p q (omega arith)) (holds_low w z p q n))) ∙ e)))
      ∙ sum_by-zero (λ p. sum_by (λ q. 0) F) F (each_all _ (λ p. sum_by-zero (λ q. 0) F (each_all _ (λ q. refl) F)) F)

  pub all_high : (x y z : ℕ) → x < y → y < z → cover_three (crossed w F) (x + w) (y + w) (z + w) ≡ 0
  all_high x y z l m = over_pairs (x + w) (y + w) (z + w) (λ p q. 0) (λ p q s t. one-false _ (λ e. not_three q x y z t.size l m
      (sym (ap₂ ◌&&◌ (holds_high w x p q s.below) (ap₂ ◌&&◌ (holds_high w y p q s.below) (holds_high w z p q s.below))) ∙ e)))
      ∙ sum_by-zero (λ p. sum_by (λ q. 0) F) F (each_all _ (λ p. sum_by-zero (λ q. 0) F (each_all _ (λ q. refl) F)) F)

  pub two_low : (x y z : ℕ) → x < w → y < w → replication F z ≡ 1 → cover_three (crossed w F) x y (z + w) ≡ cover F x y
  two_low x y z l m once = over_pairs x y (z + w) (λ p q. one (holds x p && holds y p) * one (holds z q)) (λ p q s t.
      ap one (ap₂ ◌&&◌ (holds_low w x p q l) (ap₂ ◌&&◌ (holds_low w y p q m) (holds_high w z p q s.below))) ∙ first_two (holds x p) (holds y p) (holds z q))
      ∙ sum_by-same _ (λ p. one (holds x p && holds y p)) F (each_all _ (λ p. sum_by-mul (one (holds x p && holds y p)) (λ q. one (holds z q)) F
      ∙ ap (λ n. one (holds x p && holds y p) * n) (sym (replication-is F z) ∙ once) ∙ omega arith) F)
      ∙ sym (cover-is F x y)

  pub one_low : (x y z : ℕ) → x < w → replication F x ≡ 1 → cover_three (crossed w F) x (y + w) (z + w) ≡ cover F y z
  one_low x y z l once = over_pairs x (y + w) (z + w) (λ p q. one (holds x p) * one (holds y q && holds z q)) (λ p q s t.
      ap one (ap₂ ◌&&◌ (holds_low w x p q l) (ap₂ ◌&&◌ (holds_high w y p q s.below) (holds_high w z p q s.below))) ∙ one-and (holds x p) (holds y q && holds z q))
      ∙ sum_by-same _ (λ p. cover F y z * one (holds x p)) F (each_all _ (λ p. sum_by-mul (one (holds x p)) (λ q. one (holds y q && holds z q)) F
      ∙ ap (λ n. one (holds x p) * n) (sym (cover-is F y z)) ∙ omega arith) F)
      ∙ sum_by-mul (cover F y z) (λ p. one (holds x p)) F ∙ ap (λ n. cover F y z * n) (sym (replication-is F x) ∙ once) ∙ omega arith

  pub crossed_sets : All (IsSet (w + w) 4) (crossed w F)
  unfolding crossed
  crossed_sets = All-flat_map_of (IsSet w 2) (IsSet (w + w) 4) (λ p. map (λ q. p ++ moved w q) F) F sets (λ p s.
      All-map_of (IsSet w 2) (IsSet (w + w) 4) (λ q. p ++ moved w q) F sets (λ q t. crossed_set w p q s t))
