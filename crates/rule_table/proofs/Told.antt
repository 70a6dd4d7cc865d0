-- What askers that tell their cells have learned, one call after another.
use Rattle.std.proofs.Common.{◌≡◌, ℕ, ◌<◌, ◌≤◌, ◌⊎◌, inl, inr, true, arith, sym}
use Rattle.std.specs.Prelude.{Option, Some, None}
use Rattle.design_base.specs.declared.query.Query.{Query}
use Rattle.design_base.specs.Cells.{cell_of}
use Rattle.design_base.specs.Limits.{in_bounds}
use Rattle.rule_terms.specs.Rank.{rank}
use Rattle.rule_table.specs.Told.{Cells, Has, Grows, Learns, IsCellBelow, ToldAfter, KeptAfter}

lower : (p q : Query) (i : ℕ) → rank p ≤ rank q → IsCellBelow p i → IsCellBelow q i
lower p q i h c = record { question = c.question; bounds = c.bounds; smaller = omega (arith, h, c.smaller); cell = c.cell }

pub grows_then : (q : Query) (x y z : Cells) → Grows q x y → Grows q y z → Grows q x z
grows_then q x y z g h = record { keeps = λ i k. h.keeps i (g.keeps i k); fresh = λ i k. back i (h.fresh i k) }
  where
    back : (i : ℕ) → Has y i ⊎ IsCellBelow q i → Has x i ⊎ IsCellBelow q i
    back i (inl k) = g.fresh i k
    back i (inr c) = inr c

pub learned_grows : (p q : Query) (x y : Cells) → in_bounds p ≡ true → rank p < rank q → Learns p x y → Grows q x y
learned_grows p q x y b l h = record { keeps = h.keeps; fresh = λ i k. by i (h.fresh i k) }
  where
    own : (i : ℕ) → i ≡ cell_of p → IsCellBelow q i
    own i e = record { question = p; bounds = b; smaller = l; cell = sym e }

    by : (i : ℕ) → (Has x i ⊎ (i ≡ cell_of p)) ⊎ IsCellBelow p i → Has x i ⊎ IsCellBelow q i
    by i (inl (inl k)) = inl k
    by i (inl (inr e)) = inr (own i e)
    by i (inr c) = inr (lower p q i (omega arith) c)

learns_then : (q : Query) (x y z : Cells) → Learns q x y → Grows q y z → Learns q x z
learns_then q x y z l g = record { keeps = λ i k. g.keeps i (l.keeps i k); own = g.keeps (cell_of q) l.own; fresh = λ i k. back i (g.fresh i k) }
  where
    back : (i : ℕ) → Has y i ⊎ IsCellBelow q i → (Has x i ⊎ (i ≡ cell_of q)) ⊎ IsCellBelow q i
    back i (inl k) = l.fresh i k
    back i (inr c) = inr c

-- no call
pub kept_same : (q : Query) (x : Option Cells) (a : ℕ) → KeptAfter q x x a a
kept_same q None a = tt
kept_same q (Some x) a = (record { keeps = λ i k. k; fresh = λ i k. inl k }, omega arith)

-- calls and then more calls
pub kept_then : (q : Query) (x y z : Option Cells) (a b c : ℕ) → KeptAfter q x y a b → KeptAfter q y z b c → KeptAfter q x z a c
kept_then q None y z a b c k l = tt
kept_then q (Some x) None z a b c k l = absurd k
kept_then q (Some x) (Some y) None a b c k l = absurd l
kept_then q (Some x) (Some y) (Some z) a b c k l = (grows_then q x y z k.0 l.0, omega (arith, k.1, l.1))

-- calls on behalf of a question of smaller rank
pub kept_below : (p q : Query) (x y : Option Cells) (a b : ℕ) → rank p ≤ rank q → KeptAfter p x y a b → KeptAfter q x y a b
kept_below p q None y a b l k = tt
kept_below p q (Some x) None a b l k = absurd k
kept_below p q (Some x) (Some y) a b l k = (record { keeps = k.0.keeps; fresh = λ i h. by i (k.0.fresh i h) }, k.1)
  where
    by : (i : ℕ) → Has x i ⊎ IsCellBelow p i → Has x i ⊎ IsCellBelow q i
    by i (inl h) = inl h
    by i (inr c) = inr (lower p q i l c)

-- one call, on a question of smaller rank
pub told_below : (p q : Query) (x y : Option Cells) (a b : ℕ) → in_bounds p ≡ true → rank p < rank q → ToldAfter p x y a b → KeptAfter q x y a b
told_below p q None y a b i l t = tt
told_below p q (Some x) None a b i l t = absurd t
told_below p q (Some x) (Some y) a b i l t = (learned_grows p q x y i l t.0, t.1)

-- one call, and then others on questions of smaller rank
pub told_then : (q : Query) (x y z : Option Cells) (a b c : ℕ) → ToldAfter q x y a b → KeptAfter q y z b c → ToldAfter q x z a c
told_then q None y z a b c t k = tt
told_then q (Some x) None z a b c t k = absurd t
told_then q (Some x) (Some y) None a b c t k = absurd k
told_then q (Some x) (Some y) (Some z) a b c t k = (learns_then q x y z t.0 k.0, omega (arith, t.1, k.1))
