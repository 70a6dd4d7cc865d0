-- Which points the triples above the pairs of one group hold.
use Rattle.std.proofs.Common.{Bool, List, ap, ap₂, arith, inl, inr, refl, subst, suc, sym, true, zero, ℕ, ◌&&◌, ◌++◌, ◌<◌, ◌==◌, ◌∙◌, ◌≡◌, ◌≢◌, ◌≤◌, ◌⊎◌}
use Rattle.counting.proofs.Booleans.{and_from, both, cases_order, cond-false, ne_eqb}
use Rattle.std.proofs.lemmas.List.Elements.{All-from_recursion}
use Rattle.std.specs.Prelude.{All}
use Rattle.counting.proofs.Counts.{count_pairs, pairs_none, pairs_one}
use Rattle.counting.proofs.Ranges.{All-join_below, each_below}
use Rattle.counting.specs.Sums.{join_below, list_below}
use Rattle.design_base.proofs.Canonical.{IsPointSet}
use Rattle.design_base.proofs.Cover.{cover-pairs, cover-turn}
use Rattle.design_base.proofs.Places.{set_of_places}
use Rattle.design_base.specs.Arrays.{place}
use Rattle.design_base.specs.Blocks.{cover, holds}
use Rattle.triple_systems.proofs.Meets.{Meets, meets, meets-from}
use Rattle.triple_systems.specs.Squares.{IsSymmetric}
use Rattle.triple_systems.specs.declared.triples.Pairs.TheVariants.{Unordered}
use Rattle.triple_systems.specs.Triples.{triple, triples_above, triples_with}

-- the numbers below y need no test that they are others
module _ (n : ℕ) (op : ℕ → ℕ → ℕ) (i j : ℕ) where
  smaller_with : (y m : ℕ) → m ≤ y → triples_with n op i j y m ≡ list_below m (λ x. triple n i j x y (op x y))
  unfolding triples_with join_below
  smaller_with y zero le = refl
  smaller_with y (suc m) le = ap₂ (λ s t. s ++ t) (smaller_with y m (omega arith)) (cond-false (m == y) _ _ (ne_eqb m y (omega arith)))

  -- so the triples above unordered pairs are those above the pairs x < y
  pub unordered_triples : (m : ℕ) → triples_above Unordered n op i j m ≡ join_below m (λ y. list_below y (λ x. triple n i j x y (op x y)))
  unfolding triples_above join_below
  unordered_triples zero = refl
  unordered_triples (suc m) = ap₂ (λ s t. s ++ t) (unordered_triples m) (smaller_with m m (omega arith))

module _ (n : ℕ) (op : ℕ → ℕ → ℕ) (square : IsSymmetric n op) (i j : ℕ) (apart : i ≢ j) where
  above_meets : (c x p q : ℕ) → x < n → p < q → q < n → holds (place n c x) (triple n i j p q (op p q)) ≡ true → Meets n op i j c x p q
  above_meets c x p q l a b h = meets n op i j c x p q l (omega arith) b (square.latin.small p q (omega arith) b) h

  -- the triples that hold (x,c) and (y,d) are counted by the pairs
  abbrev Both : ℕ → ℕ → ℕ → ℕ → ℕ → ℕ → Bool
  Both c x d y p q = holds (place n c x) (triple n i j p q (op p q)) && holds (place n d y) (triple n i j p q (op p q))

  counted : (c x d y : ℕ) → cover (triples_above Unordered n op i j n) (place n c x) (place n d y) ≡ count_pairs n (Both c x d y)
  counted c x d y = ap (λ B. cover B (place n c x) (place n d y)) (unordered_triples n op i j n) ∙ cover-pairs n (λ p q. triple n i j p q (op p q)) (place n c x) (place n d y)

  -- two points that one pair alone meets, and two that none does
  covers_one : (c x d y a b : ℕ) → x < n → y < n → a < b → b < n → Meets n op i j c x a b → Meets n op i j d y a b → ((p q : ℕ) → p < q → q < n → Meets n op i j c x p q → Meets n op i j d y p q → (p ≡ a) × (q ≡ b)) → cover (triples_above Unordered n op i j n) (place n c x) (place n d y) ≡ 1
  covers_one c x d y a b l m s t u v w = counted c x d y ∙ pairs_one n a b (Both c x d y) s t (and_from _ _ (meets-from n op i j c x a b u) (meets-from n op i j d y a b v))
      (λ p q k z h. let hs = both _ _ h in w p q k z (above_meets c x p q l k z hs.0) (above_meets d y p q m k z hs.1))

  covers_none : (c x d y : ℕ) → x < n → y < n → ((p q : ℕ) → p < q → q < n → Meets n op i j c x p q → Meets n op i j d y p q → ⊥) → cover (triples_above Unordered n op i j n) (place n c x) (place n d y) ≡ 0
  covers_none c x d y l m w = counted c x d y ∙ pairs_none n (Both c x d y)
      (λ p q k z h. let hs = both _ _ h in w p q k z (above_meets c x p q l k z hs.0) (above_meets d y p q m k z hs.1))

  -- two points of the pairs' group stand together once
  lower_pair_lt : (x y : ℕ) → x < y → y < n → cover (triples_above Unordered n op i j n) (place n i x) (place n i y) ≡ 1
  lower_pair_lt x y l m = covers_one i x i y x y (omega arith) m l m (inl (refl, inl refl)) (inl (refl, inr refl)) (λ p q k z u v. omega arith)

  pub lower_pair : (x y : ℕ) → x < n → y < n → x ≢ y → cover (triples_above Unordered n op i j n) (place n i x) (place n i y) ≡ 1
  lower_pair x y l m d = elim (cases_order x y) [
    | inl w ↦ absurd (d w)
    | inr (inl w) ↦ lower_pair_lt x y w m
    | inr (inr w) ↦ cover-turn (triples_above Unordered n op i j n) (place n i x) (place n i y) ∙ lower_pair_lt y x w l
  ]

  -- a point and its product with itself don't
  pub square_pair : (x : ℕ) → x < n → cover (triples_above Unordered n op i j n) (place n i x) (place n j (op x x)) ≡ 0
  square_pair x l = covers_none i x j (op x x) l (square.latin.small x x l l) (λ p q k z u v. grind (arith, square.latin.row_cancels x q x, square.latin.row_cancels x p x, square.turns p x))

  -- a point x and the product of x and another point do once
  pub rising_pair : (x y z : ℕ) → x < n → z < n → x ≢ z → op x z ≡ y → cover (triples_above Unordered n op i j n) (place n i x) (place n j y) ≡ 1
  rising_pair x y z l m d e = elim (cases_order x z) [
    | inl w ↦ absurd (d w)
    | inr (inl w) ↦ covers_one i x j y x z l below w m (inl (refl, inl refl)) (inr (refl, e)) (λ p q k t u v. let o = only p q k t u v in omega arith)
    | inr (inr w) ↦ covers_one i x j y z x l below w l (inl (refl, inr refl)) (inr (refl, square.turns z x m l ∙ e)) (λ p q k t u v. let o = only p q k t u v in omega arith)
  ]
    where
      below : y < n
      below = rw (← e) (square.latin.small x z l m)

      only : (p q : ℕ) → p < q → q < n → Meets n op i j i x p q → Meets n op i j j y p q → ((p ≡ x) × (q ≡ z)) ⊎ ((p ≡ z) × (q ≡ x))
      only p q k t u v = grind (arith, square.latin.row_cancels x q z, square.latin.row_cancels x p z, square.turns p x)

  -- two points of the products' group don't
  pub upper_pair : (x y : ℕ) → x < n → y < n → x ≢ y → cover (triples_above Unordered n op i j n) (place n j x) (place n j y) ≡ 0
  upper_pair x y l m d = covers_none j x j y l m (λ p q k z u v. omega arith)

  -- nor does a point of another group with any
  pub other_point : (c x d y : ℕ) → x < n → y < n → c ≢ i → c ≢ j → cover (triples_above Unordered n op i j n) (place n c x) (place n d y) ≡ 0
  other_point c x d y l m a b = covers_none c x d y l m (λ p q k z u v. omega arith)

  -- a triple has three different points
  pub triple_sets : (v : ℕ) → ((c x : ℕ) → (c ≡ i) ⊎ (c ≡ j) → x < n → place n c x < v) → All (IsPointSet v (λ s. s ≡ 3)) (triples_above Unordered n op i j n)
  triple_sets v below = subst (All S) (sym (unordered_triples n op i j n)) (All-join_below S n _ (λ y l. All-from_recursion S _ (each_below S y (λ x. triple n i j x y (op x y)) (λ x m.
      let z : op x y < n = square.latin.small x y (omega arith) l in
      set_of_places v n i x i y j (op x y) (omega arith) l z (inr (omega arith)) (inl apart) (inl apart)
      (below i x (inl refl) (omega arith)) (below i y (inl refl) l) (below j (op x y) (inr refl) z)))))
    where
      S : List ℕ → Type 0
      S = IsPointSet v (λ s. s ≡ 3)
