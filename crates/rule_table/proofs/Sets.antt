-- Sets of cells, by what they have and how many.
use Rattle.std.proofs.Common.{◌≡◌, ◌⊎◌, ℕ, ◌+◌, ◌≤◌, Bool, true, false, ◌||◌, cond, List, [], ◌∷◌, ◌++◌, map, inl, inr, refl, sym, ap, ◌∙◌, subst, ⊎_elim, true≢false, eq-eqb, arith}
use Rattle.counting.proofs.Booleans.{bool_same}
use Rattle.std.specs.Prelude.{nat_eq}
use Rattle.std.specs.List.{list_any}
use Rattle.std.specs.Ordering.{nat_cmp}
use Rattle.std.specs.Cmp.{nat_cmp_total, unsigned_tied}
use Rattle.std.specs.FinSet as set
use Rattle.std.specs.FinSet.{nat_cmp-IsAntisymmetric}
use Rattle.design_base.specs.declared.query.Query.{Query}
use Rattle.design_base.specs.Cells.{cell_of}
use Rattle.rule_table.specs.Closure.{cells_of, is_at}
use Rattle.rule_table.specs.Told.{Cells, Has}

either_of : (a b : Bool) → (a || b) ≡ true → (a ≡ true) ⊎ (b ≡ true)
either_of true b e = inl refl
either_of false b e = inr e

left_of : (a b : Bool) → a ≡ true → (a || b) ≡ true
left_of true b e = refl
left_of false b e = absurd (true≢false (sym e))

right_of : (a b : Bool) → b ≡ true → (a || b) ≡ true
right_of true b e = refl
right_of false b e = e

-- one cell more
at_insert : (s : Cells) (k i : ℕ) → set.contains (set.insert s k) i ≡ (nat_eq i k || set.contains s i)
at_insert s k i = set.contains-insert nat_cmp_total s k i ∙ ap (λ b. b || set.contains s i) (unsigned_tied i k)

pub insert_has : (s : Cells) (k : ℕ) → Has (set.insert s k) k
insert_has s k = at_insert s k k ∙ left_of (nat_eq k k) (set.contains s k) (eq-eqb k k refl)

pub insert_keeps : (s : Cells) (k i : ℕ) → Has s i → Has (set.insert s k) i
insert_keeps s k i h = at_insert s k i ∙ right_of (nat_eq i k) (set.contains s i) h

pub insert_from : (s : Cells) (k i : ℕ) → Has (set.insert s k) i → (i ≡ k) ⊎ Has s i
insert_from s k i h = ⊎_elim (λ e. inl (grind arith)) (λ e. inr e) (either_of (nat_eq i k) (set.contains s i) (sym (at_insert s k i) ∙ h))

pub empty_has : (P : Type 0) (i : ℕ) → Has (set.empty) i → P
empty_has P i h = absurd (true≢false (sym h ∙ set.contains-empty nat_cmp i))

pub len_insert : (s : Cells) (k : ℕ) → (Has s k → ⊥) → set.len (set.insert s k) ≡ set.len s + 1
len_insert s k new = set.len-insert nat_cmp_total s k ∙ at (set.contains s k) new
  where
    at : (b : Bool) → (b ≡ true → ⊥) → cond b (set.len s) (set.len s + 1) ≡ set.len s + 1
    at true apart = absurd (apart refl)
    at false _ = refl

pub len_insert_le : (s : Cells) (k : ℕ) → set.len (set.insert s k) ≤ set.len s + 1
len_insert_le s k = subst (λ n. n ≤ set.len s + 1) (sym (set.len-insert nat_cmp_total s k)) (at (set.contains s k))
  where
    at : (b : Bool) → cond b (set.len s) (set.len s + 1) ≤ set.len s + 1
    at true = omega arith
    at false = omega arith

-- two sets together
pub union_left : (s t : Cells) (i : ℕ) → Has s i → Has (set.union s t) i
union_left s t i h = set.contains-union nat_cmp_total s t i ∙ left_of _ (set.contains t i) h

pub union_right : (s t : Cells) (i : ℕ) → Has t i → Has (set.union s t) i
union_right s t i h = set.contains-union nat_cmp_total s t i ∙ right_of (set.contains s i) _ h

pub union_from : (s t : Cells) (i : ℕ) → Has (set.union s t) i → Has s i ⊎ Has t i
union_from s t i h = either_of (set.contains s i) (set.contains t i) (sym (set.contains-union nat_cmp_total s t i) ∙ h)

-- sets with the same cells are the same
pub same_cells : (s t : Cells) → ((i : ℕ) → Has s i → Has t i) → ((i : ℕ) → Has t i → Has s i) → s ≡ t
same_cells s t f g = set.same_set nat_cmp_total nat_cmp-IsAntisymmetric s t (λ i. bool_same (set.contains s i) (set.contains t i) (f i) (g i))

-- a cell that is there already
pub insert_same : (s : Cells) (k : ℕ) → Has s k → set.insert s k ≡ s
insert_same s k h = same_cells (set.insert s k) s (λ i l. ⊎_elim (λ e. subst (λ n. Has s n) (sym e) h) (λ l. l) (insert_from s k i l)) (λ i l. insert_keeps s k i l)

-- the cells of questions
pub cells_any : (ps : List Query) (i : ℕ) → set.contains (cells_of ps) i ≡ list_any (is_at i) ps
cells_any ps i = set.contains-from_list_nat (map cell_of ps) i ∙ mapped ps
  where
    mapped : (ps : List Query) → list_any (λ y. nat_eq y i) (map cell_of ps) ≡ list_any (is_at i) ps
    mapped [] = refl
    mapped (p ∷ ps) = ap (λ b. nat_eq (cell_of p) i || b) (mapped ps)

any_append : (test : Query → Bool) (ps qs : List Query) → list_any test (ps ++ qs) ≡ (list_any test ps || list_any test qs)
any_append test [] qs = refl
any_append test (p ∷ ps) qs = ap (λ b. test p || b) (any_append test ps qs) ∙ assoc (test p) (list_any test ps) (list_any test qs)
  where
    assoc : (a b c : Bool) → (a || (b || c)) ≡ ((a || b) || c)
    assoc true b c = refl
    assoc false b c = refl

pub append_left : (ps qs : List Query) (i : ℕ) → Has (cells_of ps) i → Has (cells_of (ps ++ qs)) i
append_left ps qs i h = cells_any (ps ++ qs) i ∙ any_append (is_at i) ps qs ∙ left_of (list_any (is_at i) ps) (list_any (is_at i) qs) (sym (cells_any ps i) ∙ h)

pub append_right : (ps qs : List Query) (i : ℕ) → Has (cells_of qs) i → Has (cells_of (ps ++ qs)) i
append_right ps qs i h = cells_any (ps ++ qs) i ∙ any_append (is_at i) ps qs ∙ right_of (list_any (is_at i) ps) (list_any (is_at i) qs) (sym (cells_any qs i) ∙ h)

pub append_from : (ps qs : List Query) (i : ℕ) → Has (cells_of (ps ++ qs)) i → Has (cells_of ps) i ⊎ Has (cells_of qs) i
append_from ps qs i h =
    ⊎_elim (λ e. inl (cells_any ps i ∙ e)) (λ e. inr (cells_any qs i ∙ e))
    (either_of (list_any (is_at i) ps) (list_any (is_at i) qs) (sym (any_append (is_at i) ps qs) ∙ sym (cells_any (ps ++ qs) i) ∙ h))

-- lists in which the same cells stand
pub same_any : (ps qs : List Query) → ((i : ℕ) → list_any (is_at i) ps ≡ list_any (is_at i) qs) → cells_of ps ≡ cells_of qs
same_any ps qs h = set.same_set nat_cmp_total nat_cmp-IsAntisymmetric (cells_of ps) (cells_of qs) (λ i. cells_any ps i ∙ h i ∙ sym (cells_any qs i))
