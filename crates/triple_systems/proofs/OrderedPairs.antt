-- Which points the triples above the ordered pairs of one group hold, where the products are in another group.
use Rattle.std.proofs.Common.{Bool, List, [], ap, arith, cond, false, inl, inr, not, refl, sym, true, ℕ, ◌%◌, ◌&&◌, ◌+◌, ◌<◌, ◌==◌, ◌∙◌, ◌∷◌, ◌≡◌, ◌≢◌, ◌⊎◌}
use Rattle.counting.proofs.Booleans.{and_from, both, cond_both, eqb-false, ne_eqb}
use Rattle.std.proofs.lemmas.List.Elements.{All-cons, All-nil}
use Rattle.std.specs.Prelude.{All}
use Rattle.counting.proofs.Counts.{grid_none, sum_below-same}
use Rattle.counting.proofs.Grids.{grid, grid_two}
use Rattle.counting.proofs.Ranges.{All-join_below}
use Rattle.counting.specs.Sums.{join_below, one}
use Rattle.design_base.proofs.Canonical.{IsPointSet}
use Rattle.design_base.proofs.Cover.{cover-join_below, cover-none, cover-single}
use Rattle.design_base.proofs.Places.{set_of_places}
use Rattle.design_base.specs.Arrays.{place}
use Rattle.design_base.specs.Blocks.{cover, holds}
use Rattle.triple_systems.proofs.Levels.{IsAbove}
use Rattle.triple_systems.proofs.Meets.{Meets, meets, meets-from}
use Rattle.triple_systems.specs.Squares.{IsIdempotent, IsLatin}
use Rattle.triple_systems.specs.declared.triples.Pairs.TheVariants.{Ordered}
use Rattle.triple_systems.specs.Triples.{levels, triple, triples_with, triples_above}

-- a block that stands only where a test fails
cover_unless : (t : Bool) (b : List ℕ) (x y : ℕ) → cover (cond t [] (b ∷ [])) x y ≡ one (not t && (holds x b && holds y b))
unfolding one
cover_unless true b x y = cover-none x y
cover_unless false b x y = cover-single b x y

-- a list of one block for each ordered pair of different numbers below n
pub cover-ordered_pairs : (n : ℕ) (f : ℕ → ℕ → List ℕ) (x y : ℕ) → cover (join_below n (λ q. join_below n (λ p. cond (p == q) [] (f p q ∷ [])))) x y ≡ grid n n (λ q p. one (not (p == q) && (holds x (f p q) && holds y (f p q))))
cover-ordered_pairs n f x y =
    cover-join_below n (λ q. join_below n (λ p. cond (p == q) [] (f p q ∷ []))) x y
    ∙ sum_below-same n _ _ (λ q l. cover-join_below n (λ p. cond (p == q) [] (f p q ∷ [])) x y ∙ sum_below-same n _ _ (λ p m. cover_unless (p == q) (f p q) x y))

-- a test after another that fails
after_not : (t u : Bool) → t ≡ false → u ≡ true → (not t && u) ≡ true
after_not true u e f = cc
after_not false u e f = f

not_parts : (t u : Bool) → (not t && u) ≡ true → (t ≡ false) × (u ≡ true)
not_parts true u e = cc
not_parts false u e = (refl, e)

module _ (n : ℕ) (op : ℕ → ℕ → ℕ) (square : IsLatin n op) (idempotent : IsIdempotent n op) (i j : ℕ) (apart : i ≢ j) where
  above_meets : (c x p q : ℕ) → x < n → p < n → q < n → holds (place n c x) (triple n i j p q (op p q)) ≡ true → Meets n op i j c x p q
  above_meets c x p q l a b h = meets n op i j c x p q l a b (square.small p q a b) h

  -- the triples that hold (x,c) and (y,d) are counted by the ordered pairs
  abbrev Both : ℕ → ℕ → ℕ → ℕ → ℕ → ℕ → Bool
  Both c x d y q p = not (p == q) && (holds (place n c x) (triple n i j p q (op p q)) && holds (place n d y) (triple n i j p q (op p q)))

  counted : (c x d y : ℕ) → cover (triples_above Ordered n op i j n) (place n c x) (place n d y) ≡ grid n n (λ q p. one (Both c x d y q p))
  unfolding triples_above triples_with
  counted c x d y = cover-ordered_pairs n (λ p q. triple n i j p q (op p q)) (place n c x) (place n d y)

  both-from : (c x d y q p : ℕ) → p ≢ q → Meets n op i j c x p q → Meets n op i j d y p q → Both c x d y q p ≡ true
  both-from c x d y q p ne u v = after_not _ _ (ne_eqb p q ne) (and_from _ _ (meets-from n op i j c x p q u) (meets-from n op i j d y p q v))

  covers_two : (c x d y a b f g : ℕ) → x < n → y < n → a < n → b < n → f < n → g < n → a ≢ b → f ≢ g → (b ≢ g) ⊎ (a ≢ f) → Meets n op i j c x a b → Meets n op i j d y a b → Meets n op i j c x f g → Meets n op i j d y f g →
      ((p q : ℕ) → p < n → q < n → p ≢ q → Meets n op i j c x p q → Meets n op i j d y p q → ((q ≡ b) × (p ≡ a)) ⊎ ((q ≡ g) × (p ≡ f))) → cover (triples_above Ordered n op i j n) (place n c x) (place n d y) ≡ 2
  covers_two c x d y a b f g l m la lb lf lg ab fg ne u v w z only = counted c x d y
      ∙ grid_two n n b a g f (Both c x d y) lb la lg lf ne (both-from c x d y b a ab u v) (both-from c x d y g f fg w z)
      (λ q p k h t. let ts = not_parts _ _ t in let hs = both _ _ ts.1 in only p q h k (eqb-false p q ts.0) (above_meets c x p q l h k hs.0) (above_meets d y p q m h k hs.1))

  covers_none : (c x d y : ℕ) → x < n → y < n → ((p q : ℕ) → p < n → q < n → p ≢ q → Meets n op i j c x p q → Meets n op i j d y p q → ⊥) → cover (triples_above Ordered n op i j n) (place n c x) (place n d y) ≡ 0
  covers_none c x d y l m none = counted c x d y ∙ grid_none n n (Both c x d y)
      (λ q p k h t. let ts = not_parts _ _ t in let hs = both _ _ ts.1 in none p q h k (eqb-false p q ts.0) (above_meets c x p q l h k hs.0) (above_meets d y p q m h k hs.1))

  -- a point and a product stand together above two pairs, in which the point is first and in which it is last
  risen : (x y : ℕ) → x < n → y < n → y ≢ op x x → cover (triples_above Ordered n op i j n) (place n i x) (place n j y) ≡ 2
  risen x y l m d =
      let a = square.row_solves x y l m in
      let b = square.column_solves x y l m in
      covers_two i x j y x a.0 b.0 x l m l a.1 b.1 l (other a.0 (λ e. d (sym a.2 ∙ ap (op x) (sym e)))) (other_left b.0 (λ e. d (sym b.2 ∙ ap (λ z. op z x) e)))
      (inl (other_left a.0 (λ e. d (sym a.2 ∙ ap (op x) e)))) (inl (refl, inl refl)) (inr (refl, a.2)) (inl (refl, inr refl)) (inr (refl, b.2))
      (λ p q h k ne u v. only a.0 b.0 a.1 b.1 a.2 b.2 p q h k ne u v)
    where
      other : (z : ℕ) → (x ≡ z → ⊥) → x ≢ z
      other z f = f

      other_left : (z : ℕ) → (z ≡ x → ⊥) → z ≢ x
      other_left z f = f

      only : (a b : ℕ) → a < n → b < n → op x a ≡ y → op b x ≡ y → (p q : ℕ) → p < n → q < n → p ≢ q → Meets n op i j i x p q → Meets n op i j j y p q → ((q ≡ a) × (p ≡ x)) ⊎ ((q ≡ x) × (p ≡ b))
      only a b la lb ea eb p q h k ne u v = grind (arith, square.row_cancels x q a, square.column_cancels x p b)

  ordered_sets : (v : ℕ) → ((c x : ℕ) → (c ≡ i) ⊎ (c ≡ j) → x < n → place n c x < v) → All (IsPointSet v (λ s. s ≡ 3)) (triples_above Ordered n op i j n)
  unfolding triples_above triples_with
  ordered_sets v below = All-join_below S n _ (λ y l. All-join_below S n _ (λ x m. cond_both (x == y) _ _ (All S) (λ e. All-nil S) (λ e.
      All-cons S (triple n i j x y (op x y)) [] (set_of_places v n i x i y j (op x y) m l (square.small x y m l) (inr (eqb-false x y e)) (inl apart) (inl apart)
      (below i x (inl refl) m) (below i y (inl refl) l) (below j (op x y) (inr refl) (square.small x y m l))) (All-nil S))))
    where
      S : List ℕ → Type 0
      S = IsPointSet v (λ s. s ≡ 3)

  pub ordered_is_above : IsAbove n op 2 i j (triples_above Ordered n op i j n)
  ordered_is_above = record {
    lower = λ x y l m d. covers_two i x i y x y y x l m l m m l d (λ e. d (sym e)) (inr d) (inl (refl, inl refl)) (inl (refl, inr refl)) (inl (refl, inr refl)) (inl (refl, inl refl)) (λ p q h k ne u v. grind arith);
    rising = risen;
    square = λ x l. covers_none i x j (op x x) l (square.small x x l l) (λ p q h k ne u v. grind (arith, square.row_cancels x q x, square.column_cancels x p x));
    upper = λ x y l m d. covers_none j x j y l m (λ p q h k ne u v. omega arith);
    other = λ c x d y l m a b. covers_none c x d y l m (λ p q h k ne u v. omega arith);
  }

-- the same for the triples of all three groups
module _ (n : ℕ) (op : ℕ → ℕ → ℕ) (square : IsLatin n op) (idempotent : IsIdempotent n op) where
  abbrev pub ordered_level : ℕ → List (List ℕ)
  ordered_level i = triples_above Ordered n op i ((i + 1) % 3) n

  pub ordered_above : (i : ℕ) → i < 3 → IsAbove n op 2 i ((i + 1) % 3) (ordered_level i)
  ordered_above i l = ordered_is_above n op square idempotent i ((i + 1) % 3) (omega arith)

  pub ordered_level_sets : (v : ℕ) → ((i x : ℕ) → i < 3 → x < n → place n i x < v) → All (IsPointSet v (λ s. s ≡ 3)) (levels Ordered n op 3)
  unfolding levels
  ordered_level_sets v below = All-join_below (IsPointSet v (λ s. s ≡ 3)) 3 _ (λ i k. ordered_sets n op square idempotent i ((i + 1) % 3) (omega arith) v (λ c x w l. below c x (omega arith) l))
