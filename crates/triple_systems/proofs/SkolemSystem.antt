-- The Skolem construction gives a triple system.
use Rattle.std.proofs.Common.{List, ap, arith, inl, inr, refl, subst, sym, ℕ, ◌%◌, ◌*◌, ◌++◌, ◌+◌, ◌-◌, ◌/◌, ◌<◌, ◌∙◌, ◌≡◌, ◌≢◌, ◌≤◌}
use Rattle.counting.proofs.Booleans.{cases_eq, cases_lt}
use Rattle.std.proofs.lemmas.List.Elements.{All-append}
use Rattle.design_base.proofs.Canonical.{IsLoose, IsPointSet, design_from_loose}
use Rattle.design_base.proofs.Cover.{cover-append}
use Rattle.design_base.proofs.Places.{place-below, place-zero}
use Rattle.design_base.specs.Arrays.{place}
use Rattle.design_base.specs.Blocks.{IsBibd, cover}
use Rattle.design_base.specs.Canonical.{canonical}
use Rattle.triple_systems.proofs.Columns.{column_sets, columns_beyond, columns_fourth, columns_none, columns_one}
use Rattle.triple_systems.proofs.Levels.{IsBeside, three_groups_more}
use Rattle.triple_systems.proofs.SymmetricLevels.{above, level_sets, symmetric_above}
use Rattle.triple_systems.proofs.HalfIdempotent.{half_idempotent_high, half_idempotent_low, half_idempotent_square}
use Rattle.triple_systems.proofs.InfiniteTriples.{infinite_sets, infinite_none, infinite_one}
use Rattle.triple_systems.specs.Squares.{IsSymmetric, half_idempotent}
use Rattle.triple_systems.specs.Skolem.{skolem_blocks}
use Rattle.triple_systems.specs.declared.triples.Pairs.TheVariants.{Unordered}
use Rattle.triple_systems.specs.Triples.{columns, levels, infinite_triples}

module _ (t : ℕ) (pos : 0 < t) where
  abbrev n : ℕ
  n = 2 * t

  -- what stands beside the triples above pairs
  abbrev others : List (List ℕ)
  others = columns n t ++ infinite_triples n t t 3

  whole : (p q : ℕ) → cover others p q ≡ cover (columns n t) p q + cover (infinite_triples n t t 3) p q
  whole p q = cover-append (columns n t) (infinite_triples n t t 3) p q

  square : IsSymmetric n (half_idempotent t)
  square = half_idempotent_square t pos

  -- a point of the lower half and its product with itself are in a column, and one of the upper half and that are in a triple with the infinite point
  with_square : (c x y : ℕ) → c < 3 → x < n → y < n → y ≡ half_idempotent t x x → cover others (place n c x) (place n ((c + 1) % 3) y) ≡ 1
  with_square c x y k l m e = elim (cases_lt x t) [
    | inl a ↦ let f : y ≡ x = e ∙ half_idempotent_low t x a in omega (
      arith,
      whole (place n c x) (place n ((c + 1) % 3) y),
      columns_one n t (omega arith) c ((c + 1) % 3) x k (omega arith) a,
      ap (λ z. cover (columns n t) (place n c x) (place n ((c + 1) % 3) z)) f,
      infinite_none n t t (omega arith) c ((c + 1) % 3) x y l m (λ j b z w p q. omega arith),
    )
    | inr a ↦ let f : y ≡ x - t = e ∙ ap (λ z. half_idempotent t z z) (back x a) ∙ half_idempotent_high t (x - t) (omega arith) in omega (
      arith,
      whole (place n c x) (place n ((c + 1) % 3) y),
      columns_none n t (omega arith) c ((c + 1) % 3) x y l m (omega arith),
      infinite_one n t t (omega arith) c ((c + 1) % 3) x y c (x - t) l m k (omega arith) (inr (inl (refl, omega arith))) (inr (inr (refl, omega arith))) (λ j b z w p q. (omega arith, omega arith)),
    )
  ]
    where
      back : (x : ℕ) → t ≤ x → x ≡ x - t + t
      back x a = omega arith

  -- no other two points of three groups are
  apart : (c x y : ℕ) → c < 3 → x < n → y < n → y ≢ half_idempotent t x x → cover others (place n c x) (place n ((c + 1) % 3) y) ≡ 0
  apart c x y k l m ne = omega (
    arith,
    whole (place n c x) (place n ((c + 1) % 3) y),
    column_apart c x y k l m ne,
    infinite_none n t t (omega arith) c ((c + 1) % 3) x y l m (λ j b z w p q. let s : (b + t ≡ x) × (b ≡ y) = omega arith in ne (sym s.1 ∙ sym (ap (λ z. half_idempotent t z z) (sym s.0) ∙ half_idempotent_high t b w))),
  )
    where
      column_apart : (c x y : ℕ) → c < 3 → x < n → y < n → y ≢ half_idempotent t x x → cover (columns n t) (place n c x) (place n ((c + 1) % 3) y) ≡ 0
      column_apart c x y k l m ne = elim (cases_eq x y) [
        | inl e ↦ elim (cases_lt x t) [
          | inl a ↦ absurd (ne (sym e ∙ sym (half_idempotent_low t x a)))
          | inr a ↦ columns_beyond n t (omega arith) c ((c + 1) % 3) x y l m a
        ]
        | inr d ↦ columns_none n t (omega arith) c ((c + 1) % 3) x y l m d
      ]

  beside : IsBeside n (half_idempotent t) 1 others
  beside = record {
    same = λ c x y k l m. omega (
      arith,
      whole (place n c x) (place n c y),
      columns_none n t (omega arith) c c x y (omega arith) m (omega arith),
      infinite_none n t t (omega arith) c c x y (omega arith) m (λ j b z w p q. omega arith),
    );
    square = with_square;
    next = apart;
  }

  -- the infinite point stands with each point once
  with_infinite : (c x : ℕ) → c < 3 → x < n → cover others (place n c x) (place n 3 0) ≡ 1
  with_infinite c x k l = omega (
    arith,
    whole (place n c x) (place n 3 0),
    columns_fourth n t (omega arith) c 3 x 0 l (omega arith) (omega arith),
    elim (cases_lt x t) as (λ w. cover (infinite_triples n t t 3) (place n c x) (place n 3 0) ≡ 1) [
      | inl a ↦ infinite_one n t t (omega arith) c 3 x 0 ((c + 2) % 3) x l (omega arith) (omega arith) a (inr (inr (omega arith, refl))) (inl (refl, refl)) (λ j b z w p q. (omega arith, omega arith))
      | inr a ↦ infinite_one n t t (omega arith) c 3 x 0 c (x - t) l (omega arith) k (omega arith) (inr (inl (refl, omega arith))) (inl (refl, refl)) (λ j b z w p q. (omega arith, omega arith))
    ],
  )

  below : (i x : ℕ) → i < 3 → x < n → place n i x < 6 * t + 1
  below i x l m = omega (arith, place-below n 3 i x l m)

  skolem_loose : IsLoose (others ++ levels Unordered n (half_idempotent t) 3) (6 * t + 1) (λ s. s ≡ 3) (λ x y. 1)
  unfolding levels
  skolem_loose = record {
    blocks = All-append (IsPointSet (6 * t + 1) (λ s. s ≡ 3)) others (levels Unordered n (half_idempotent t) 3)
        (All-append (IsPointSet (6 * t + 1) (λ s. s ≡ 3)) (columns n t) (infinite_triples n t t 3) (column_sets n t (omega arith) (6 * t + 1) below) (infinite_sets n t t (omega arith) (6 * t + 1) below (omega (arith, place-zero n 3))))
        (level_sets n (half_idempotent t) square (6 * t + 1) below);
    pairs = λ p q l m. three_groups_more n (half_idempotent t) 1 (above n (half_idempotent t) square) (symmetric_above n (half_idempotent t) square) (omega arith) others beside with_infinite p q l (omega arith);
  }

pub skolem_design : (v : ℕ) → v % 6 ≡ 1 → 1 < v → IsBibd (canonical (skolem_blocks v)) v 3 1
unfolding skolem_blocks
skolem_design v shape l = subst (λ w. IsBibd (canonical (skolem_blocks w)) w 3 1) (sym (parts v shape)) (design_of (v / 6) (omega arith))
  where
    parts : (v : ℕ) → v % 6 ≡ 1 → v ≡ 6 * (v / 6) + 1
    parts v shape = omega arith

    third : (t : ℕ) → (6 * t + 1) / 3 ≡ 2 * t
    third t = omega arith

    half : (t : ℕ) → 2 * t / 2 ≡ t
    half t = omega arith

    design_of : (t : ℕ) → 0 < t → IsBibd (canonical (skolem_blocks (6 * t + 1))) (6 * t + 1) 3 1
    design_of t pos = rw (third t, half t) (design_from_loose (6 * t + 1) (λ s. s ≡ 3) _ (λ x y. 1) (skolem_loose t pos))
