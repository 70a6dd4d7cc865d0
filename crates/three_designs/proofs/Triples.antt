-- In how many blocks three points stand together.
use Rattle.std.proofs.Common.{List, ap₂, cond, map, refl, sym, ℕ, ◌&&◌, ◌++◌, ◌+◌, ◌<◌, ◌∙◌, ◌≡◌}
use Rattle.std.proofs.lemmas.List.Elements.{All-weaker}
use Rattle.std.proofs.lemmas.List.Sums.{sum_by-append}
use Rattle.std.specs.List.{sum_by}
use Rattle.std.specs.Prelude.{All, nat_le}
use Rattle.counting.proofs.Counts.{sum_below-same}
use Rattle.counting.proofs.Lists.{each_all, sum_by-join_below, sum_by-map, sum_by-same}
use Rattle.counting.proofs.Sorting.{sum_by-sort_by}
use Rattle.counting.specs.Sorting.{sort_by}
use Rattle.counting.specs.Sums.{join_below, one, sum_below}
use Rattle.design_base.proofs.Canonical.{IsPointSet, design_from_loose, holds-sort_by, set_from_block}
use Rattle.design_base.specs.Blocks.{IsBlock, IsDesign, cover, holds}
use Rattle.design_base.specs.Canonical.{canonical, lex_le}
use Rattle.three_designs.specs.StrengthThree.{IsSqs, cover_three}

pub cover_three-is : (B : List (List ℕ)) (x y z : ℕ) → cover_three B x y z ≡ sum_by (λ b. one (holds x b && (holds y b && holds z b))) B
unfolding cover_three one
cover_three-is B x y z = refl

pub cover_three-append : (B C : List (List ℕ)) (x y z : ℕ) → cover_three (B ++ C) x y z ≡ cover_three B x y z + cover_three C x y z
unfolding cover_three
cover_three-append B C x y z = sum_by-append (λ b. cond (holds x b && (holds y b && holds z b)) 1 0) B C

pub cover_three-join_below : (n : ℕ) (f : ℕ → List (List ℕ)) (x y z : ℕ) → cover_three (join_below n f) x y z ≡ sum_below n (λ i. cover_three (f i) x y z)
cover_three-join_below n f x y z = cover_three-is (join_below n f) x y z
    ∙ sum_by-join_below (λ b. one (holds x b && (holds y b && holds z b))) n f
    ∙ sum_below-same n _ (λ i. cover_three (f i) x y z) (λ i l. sym (cover_three-is (f i) x y z))

pub cover_three-canonical : (B : List (List ℕ)) (x y z : ℕ) → cover_three (canonical B) x y z ≡ cover_three B x y z
unfolding canonical
cover_three-canonical B x y z = cover_three-is (canonical B) x y z
    ∙ sum_by-sort_by lex_le (λ b. one (holds x b && (holds y b && holds z b))) (map (sort_by nat_le) B)
    ∙ sum_by-map (λ b. one (holds x b && (holds y b && holds z b))) (sort_by nat_le) B
    ∙ sum_by-same _ (λ b. one (holds x b && (holds y b && holds z b))) B (each_all _ (λ b. ap₂ (λ p q. one (p && q)) (holds-sort_by nat_le x b) (ap₂ ◌&&◌ (holds-sort_by nat_le y b) (holds-sort_by nat_le z b))) B)
    ∙ sym (cover_three-is B x y z)

-- so many different points below v
abbrev pub IsSet : ℕ → ℕ → List ℕ → Type 0
IsSet v k block = IsPointSet v (λ size. size ≡ k) block

-- before the canonical form: blocks of four different points, in any order
pub record IsLooseSqs (B : List (List ℕ)) (v : ℕ) : Type 0 where
  pub blocks : All (IsSet v 4) B
  pub triples : (x y z : ℕ) → x < y → y < z → z < v → cover_three B x y z ≡ 1

pub sqs_from_loose : (v : ℕ) (B : List (List ℕ)) → IsLooseSqs B v → IsSqs (canonical B) v
sqs_from_loose v B d =
    let pairs : IsDesign (canonical B) v (λ size. size ≡ 4) (cover B) = design_from_loose v (λ size. size ≡ 4) B (cover B) (record { blocks = d.blocks; pairs = λ x y l m. refl }) in
    record { blocks = pairs.blocks; triples = λ x y z l m n. cover_three-canonical B x y z ∙ d.triples x y z l m n }

pub loose_from_sqs : (v : ℕ) (B : List (List ℕ)) → IsSqs B v → IsLooseSqs B v
loose_from_sqs v B d = record { blocks = All-weaker (IsBlock v (λ size. size ≡ 4)) (IsSet v 4) (set_from_block v (λ size. size ≡ 4)) B d.blocks; triples = d.triples }
