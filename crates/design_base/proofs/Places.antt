-- Points of groups: point x of group i is i * n + x.
use Rattle.std.proofs.Common.{[], ap, ap₂, arith, cond, inl, inr, refl, sym, true, ℕ, ◌%◌, ◌&&◌, ◌*◌, ◌+◌, ◌/◌, ◌<◌, ◌==◌, ◌∙◌, ◌∷◌, ◌≡◌, ◌≢◌, ◌⊎◌}
use Rattle.std.proofs.Math.Nat.{div-add-mod', div-mul-le_self, mod-lt}
use Rattle.counting.proofs.Booleans.{bool_same, both_equal, both_equal-from, cases_order, eq-eqb, eqb-true, ne_eqb}
use Rattle.std.proofs.lemmas.Nat.{div-mul-add, div_below, le-div, mod-mul-add, mul-add-lt, same_from_place}
use Rattle.design_base.proofs.Canonical.{IsPointSet, three_set}
use Rattle.design_base.proofs.Cover.{holds_three, holds_three-from}
use Rattle.design_base.specs.Arrays.{place}
use Rattle.design_base.specs.Blocks.{across, holds}

pub same_place : (n i j x y : ℕ) → x < n → y < n → place n i x ≡ place n j y → (i ≡ j) × (x ≡ y)
unfolding place
same_place n i j x y l m e = same_from_place i x j y n l m e

pub place-below : (n u i x : ℕ) → i < u → x < n → place n i x < u * n
unfolding place
place-below n u i x l m = omega (arith, mul-add-lt i n x u l m)

pub place-rises : (n i j x y : ℕ) → i < j → x < n → place n i x < place n j y
unfolding place
place-rises n i j x y l m = omega (arith, mul-add-lt i n x j l m)

pub place-rises_inside : (n i x y : ℕ) → x < y → place n i x < place n i y
unfolding place
place-rises_inside n i x y l = omega arith

-- the covers of a GDD, by places
pub across-apart : (n c x d y : ℕ) → x < n → y < n → c ≢ d → across n (place n c x) (place n d y) ≡ 1
unfolding place across
across-apart n c x d y l m ne = rw (div-mul-add c n x l, div-mul-add d n y m) (ap (λ t. cond t 0 1) (ne_eqb c d ne))

pub across-inside : (n c x y : ℕ) → x < n → y < n → across n (place n c x) (place n c y) ≡ 0
unfolding place across
across-inside n c x y l m = rw (div-mul-add c n x l, div-mul-add c n y m) (ap (λ t. cond t 0 1) (eq-eqb c c refl))

pub place-zero : (n i : ℕ) → place n i 0 ≡ i * n
unfolding place
place-zero n i = omega arith

pub place_of : (n p : ℕ) → place n (p / n) (p % n) ≡ p
unfolding place
place_of n p = div-add-mod' p n

module _ (P : ℕ → ℕ → Type 0) (n u : ℕ) (pos : 0 < n) where
  -- what holds of two points of different groups and of two of one group holds of all p < q below u * n
  pub by_places : ((c d x y : ℕ) → c < d → d < u → x < n → y < n → P (place n c x) (place n d y)) → ((c x y : ℕ) → c < u → x < y → y < n → P (place n c x) (place n c y)) → (p q : ℕ) → p < q → q < u * n → P p q
  by_places apart inside p q l m =
      rw (← place_of n p, ← place_of n q) (elim (cases_order (p / n) (q / n)) [
        | inl e ↦ rw (← e) (inside (p / n) (p % n) (q % n) (div_below p n u pos (omega arith)) (omega (arith, place_of n p, place_of n q, ap (λ c. place n c (q % n)) e, same e)) (mod-lt q pos))
        | inr (inl w) ↦ apart (p / n) (q / n) (p % n) (q % n) w (div_below q n u pos m) (mod-lt p pos) (mod-lt q pos)
        | inr (inr w) ↦ absurd (omega (arith, le-div (p / n) q n pos (omega (arith, div-mul-le_self p n))))
      ])
    where
      same : p / n ≡ q / n → p % n < q % n
      same e = omega (arith, div-add-mod' p n, div-add-mod' q n, ap (λ c. c * n) e)

  -- the same, where the order does not matter
  pub by_places_apart : ((c x d y : ℕ) → c < u → d < u → x < n → y < n → (c ≢ d) ⊎ (x ≢ y) → P (place n c x) (place n d y)) → (p q : ℕ) → p < q → q < u * n → P p q
  by_places_apart h = by_places (λ c d x y l m a b. h c x d y (omega arith) m a b (inl (omega arith))) (λ c x y l m a. h c x c y l l (omega arith) a (inr (omega arith)))

-- the point (x,c) in a block of the three points (p,i), (q,j), (r,k)
abbrev pub Stands : ℕ → ℕ → ℕ → ℕ → ℕ → ℕ → ℕ → ℕ → Type 0
Stands i p j q k r c x = ((i ≡ c) × (p ≡ x)) ⊎ (((j ≡ c) × (q ≡ x)) ⊎ ((k ≡ c) × (r ≡ x)))

pub stands : (n i p j q k r c x : ℕ) → p < n → q < n → r < n → x < n → holds (place n c x) (place n i p ∷ (place n j q ∷ (place n k r ∷ []))) ≡ true → Stands i p j q k r c x
stands n i p j q k r c x a b d l h = elim (holds_three (place n c x) (place n i p) (place n j q) (place n k r) h) [
  | inl e ↦ inl (same_place n i c p x a l e)
  | inr (inl e) ↦ inr (inl (same_place n j c q x b l e))
  | inr (inr e) ↦ inr (inr (same_place n k c r x d l e))
]

pub stands-from : (n i p j q k r c x : ℕ) → Stands i p j q k r c x → holds (place n c x) (place n i p ∷ (place n j q ∷ (place n k r ∷ []))) ≡ true
stands-from n i p j q k r c x (inl e) = holds_three-from (place n c x) (place n i p) (place n j q) (place n k r) (inl (ap₂ (place n) e.0 e.1))
stands-from n i p j q k r c x (inr (inl e)) = holds_three-from (place n c x) (place n i p) (place n j q) (place n k r) (inr (inl (ap₂ (place n) e.0 e.1)))
stands-from n i p j q k r c x (inr (inr e)) = holds_three-from (place n c x) (place n i p) (place n j q) (place n k r) (inr (inr (ap₂ (place n) e.0 e.1)))

apart_places : (n i j x y : ℕ) → x < n → y < n → (i ≢ j) ⊎ (x ≢ y) → place n i x ≢ place n j y
apart_places n i j x y l m h e = let s = same_place n i j x y l m e in omega arith

pub set_of_places : (v n i p j q k r : ℕ) → p < n → q < n → r < n → (i ≢ j) ⊎ (p ≢ q) → (i ≢ k) ⊎ (p ≢ r) → (j ≢ k) ⊎ (q ≢ r) → place n i p < v → place n j q < v → place n k r < v → IsPointSet v (λ s. s ≡ 3) (place n i p ∷ (place n j q ∷ (place n k r ∷ [])))
set_of_places v n i p j q k r a b c d e f l m o = three_set v (place n i p) (place n j q) (place n k r) (apart_places n i j p q a b d) (apart_places n i k p r a c e) (apart_places n j k q r b c f) l m o

-- a test of a place is a test of its row and its column
pub place_test : (b x u p : ℕ) → u < b → (x * b + u == p) ≡ ((x == p / b) && (u == p % b))
place_test b x u p l = bool_same _ _
    (λ h. let e : x * b + u ≡ p = eqb-true (x * b + u) p h in both_equal-from x u (p / b) (p % b) (sym (div-mul-add x b u l) ∙ ap (λ n. n / b) e) (sym (mod-mul-add x b u l) ∙ ap (λ n. n % b) e))
    (λ h. let e = both_equal x u (p / b) (p % b) h in eq-eqb (x * b + u) p (ap₂ (λ x u. x * b + u) e.0 e.1 ∙ div-add-mod' p b))
