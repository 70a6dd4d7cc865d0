-- Questions in bounds and their numbers lead to each other.
use Rattle.std.proofs.Common.{◌≡◌, ℕ, zero, suc, ◌+◌, ◌-◌, ◌*◌, ◌/◌, ◌%◌, ◌<◌, ◌≤◌, ◌⊎◌, inl, inr, Bool, true, false, List, [], ◌∷◌, arith, refl, ap, sym, ◌∙◌, cond}
use Rattle.std.specs.Prelude.{Option, Some, None, IfSome, option_and_then}
use Rattle.counting.proofs.Booleans.{cases_lt, le-ltb, lt-ltb}
use Rattle.std.proofs.Math.Path.{ap₂}
use Rattle.std.proofs.Math.Nat.{mul-le-mul_left, mul-le-mul_right}
use Rattle.design_base.specs.declared.limits.TheConstants.{COVER_MAX, GDD_K_MAX, PBD_S_MAX, POINTS_MAX, TD_N_MAX}
use Rattle.design_base.specs.declared.query.Group.{Group}
use Rattle.design_base.specs.declared.query.Group.TheVariants.{Cyclic, Field}
use Rattle.design_base.specs.declared.query.Query.{Query}
use Rattle.design_base.specs.declared.query.Query.TheVariants.{Td, Df, Bibd, Gdd, Pbd}
use Rattle.design_base.specs.Limits.{in_bounds}
use Rattle.design_base.specs.Cells.{td_cells, bibd_cells, gdd_cells, pbd_cells, group_number, triple_number, cell_of}
use Rattle.design_base.specs.Questions.{td_at, df_at, bibd_at, gdd_at, pbd_at, triple_at, group_at, gdd_number, placed, question_at, query_of}
use Rattle.design_base.proofs.Bounds.{td_numbers, df_numbers, bibd_numbers, gdd_numbers, pbd_numbers}

-- one kind, and those behind it
module _ (n : ℕ) (at : ℕ → Query) (rest : List (ℕ × (ℕ → Query))) where
  placed_here : (x : ℕ) → x < n → placed ((n, at) ∷ rest) x ≡ Some (at x)
  placed_here x h = ap (λ b. cond b (Some (at x)) (placed rest (x - n))) (lt-ltb x n h)

  placed_behind : (x : ℕ) → placed ((n, at) ∷ rest) (n + x) ≡ placed rest x
  placed_behind x =
      let e : n + x - n ≡ x = omega arith in
      ap (λ b. cond b (Some (at (n + x))) (placed rest (n + x - n))) (le-ltb (n + x) n (omega arith)) ∙ ap (placed rest) e

  placed_split : (x : ℕ) (q : Query) → placed ((n, at) ∷ rest) x ≡ Some q → ((x < n) × (at x ≡ q)) ⊎ ((n ≤ x) × (placed rest (x - n) ≡ Some q))
  placed_split x q e = by (cases_lt x n)
    where
      by : (x < n) ⊎ (n ≤ x) → ((x < n) × (at x ≡ q)) ⊎ ((n ≤ x) × (placed rest (x - n) ≡ Some q))
      by (inl h) = let s : Some (at x) ≡ Some q = sym (placed_here x h) ∙ e in inl (h, cc)
      by (inr h) = inr (h, sym (ap (λ b. cond b (Some (at x)) (placed rest (x - n))) (le-ltb x n h)) ∙ e)

three_alike : (f : ℕ → ℕ → ℕ → Query) (a b c x y z : ℕ) → a ≡ x → b ≡ y → c ≡ z → f a b c ≡ f x y z
three_alike f a b c x y z p q r = ap (λ t. f t b c) p ∙ ap (λ t. f x t c) q ∙ ap (λ t. f x y t) r

-- the digits of a place
middle_digits : (a b c : ℕ) → b < (POINTS_MAX - 1) → c < COVER_MAX → (((a * (POINTS_MAX - 1) + b) * COVER_MAX + c) / COVER_MAX ≡ a * (POINTS_MAX - 1) + b) × (((a * (POINTS_MAX - 1) + b) * COVER_MAX + c) % COVER_MAX ≡ c) × ((a * (POINTS_MAX - 1) + b) / (POINTS_MAX - 1) ≡ a) × ((a * (POINTS_MAX - 1) + b) % (POINTS_MAX - 1) ≡ b)
middle_digits a b c hb hc = (omega arith, omega arith, omega arith, omega arith)

-- the kinds behind a kind
abbrev behind_gdd : List (ℕ × (ℕ → Query))
behind_gdd = (pbd_cells, pbd_at) ∷ []

abbrev behind_bibd : List (ℕ × (ℕ → Query))
behind_bibd = (gdd_cells, gdd_at) ∷ behind_gdd

abbrev behind_df : List (ℕ × (ℕ → Query))
behind_df = (bibd_cells, bibd_at) ∷ behind_bibd

abbrev behind_td : List (ℕ × (ℕ → Query))
behind_td = (2 * bibd_cells, df_at) ∷ behind_df

at_td : (x : ℕ) → x < td_cells → question_at x ≡ Some (td_at x)
at_td x h = placed_here td_cells td_at behind_td x h

at_df : (x : ℕ) → x < 2 * bibd_cells → question_at (td_cells + x) ≡ Some (df_at x)
at_df x h = placed_behind td_cells td_at behind_td x ∙ placed_here (2 * bibd_cells) df_at behind_df x h

at_bibd : (x : ℕ) → x < bibd_cells → question_at (td_cells + (2 * bibd_cells + x)) ≡ Some (bibd_at x)
at_bibd x h = placed_behind td_cells td_at behind_td (2 * bibd_cells + x) ∙ placed_behind (2 * bibd_cells) df_at behind_df x ∙ placed_here bibd_cells bibd_at behind_bibd x h

at_gdd : (x : ℕ) → x < gdd_cells → question_at (td_cells + (2 * bibd_cells + (bibd_cells + x))) ≡ Some (gdd_at x)
at_gdd x h =
    placed_behind td_cells td_at behind_td (2 * bibd_cells + (bibd_cells + x)) ∙ placed_behind (2 * bibd_cells) df_at behind_df (bibd_cells + x)
    ∙ placed_behind bibd_cells bibd_at behind_bibd x ∙ placed_here gdd_cells gdd_at behind_gdd x h

at_pbd : (x : ℕ) → x < pbd_cells → question_at (td_cells + (2 * bibd_cells + (bibd_cells + (gdd_cells + x)))) ≡ Some (pbd_at x)
at_pbd x h =
    placed_behind td_cells td_at behind_td (2 * bibd_cells + (bibd_cells + (gdd_cells + x))) ∙ placed_behind (2 * bibd_cells) df_at behind_df (bibd_cells + (gdd_cells + x))
    ∙ placed_behind bibd_cells bibd_at behind_bibd (gdd_cells + x) ∙ placed_behind gdd_cells gdd_at behind_gdd x ∙ placed_here pbd_cells pbd_at [] x h

-- a question in bounds stands at its number
triple_back : (make : ℕ → ℕ → ℕ → Query) (v k l : ℕ) → 2 ≤ k → k ≤ v → v ≤ POINTS_MAX → 1 ≤ l → l ≤ COVER_MAX → triple_at make (triple_number v k l) ≡ make v k l
triple_back make v k l hk hv hp hl hc =
    let m = middle_digits (v - 2) (k - 2) (l - 1) (omega arith) (omega arith) in
    let p : triple_number v k l / COVER_MAX ≡ (v - 2) * (POINTS_MAX - 1) + (k - 2) = m.0 in
    let q : triple_number v k l / COVER_MAX / (POINTS_MAX - 1) ≡ v - 2 = ap (λ t. t / (POINTS_MAX - 1)) p ∙ m.2 in
    let r : triple_number v k l / COVER_MAX % (POINTS_MAX - 1) ≡ k - 2 = ap (λ t. t % (POINTS_MAX - 1)) p ∙ m.3 in
    let s : triple_number v k l % COVER_MAX ≡ l - 1 = m.1 in
    three_alike make (triple_number v k l / COVER_MAX / (POINTS_MAX - 1) + 2) (triple_number v k l / COVER_MAX % (POINTS_MAX - 1) + 2) (triple_number v k l % COVER_MAX + 1) v k l (omega arith) (omega arith) (omega arith)

triple_small : (v k l : ℕ) → 2 ≤ k → k ≤ v → v ≤ POINTS_MAX → 1 ≤ l → l ≤ COVER_MAX → triple_number v k l < bibd_cells
triple_small v k l hk hv hp hl hc = omega arith

group_back : (group : Group) (i : ℕ) → i ≡ group_number group → group_at i ≡ group
group_back Cyclic i e = rw e refl
group_back Field i e = rw e refl

group_small : (group : Group) → group_number group ≤ 1
group_small Cyclic = omega arith
group_small Field = omega arith

df_back : (group : Group) (v k l : ℕ) → 2 ≤ k → k ≤ v → v ≤ POINTS_MAX → 1 ≤ l → l ≤ COVER_MAX → df_at (group_number group * bibd_cells + triple_number v k l) ≡ Df group v k l
df_back group v k l hk hv hp hl hc =
    let t = triple_small v k l hk hv hp hl hc in
    let h : (group_number group * bibd_cells + triple_number v k l) / bibd_cells ≡ group_number group = omega (arith, t) in
    let i : (group_number group * bibd_cells + triple_number v k l) % bibd_cells ≡ triple_number v k l = omega (arith, t) in
    let g : group_at ((group_number group * bibd_cells + triple_number v k l) / bibd_cells) ≡ group = group_back group _ h in
    ap₂ (λ a x. triple_at (λ v k l. Df a v k l) x) g i ∙ triple_back (λ v k l. Df group v k l) v k l hk hv hp hl hc

pub gdd_small : (g u : ℕ) → 1 ≤ g → 2 ≤ u → g * u ≤ POINTS_MAX → (g ≤ POINTS_MAX / 2) × (u ≤ POINTS_MAX)
gdd_small g u lg lu h =
    let p : g * 2 ≤ g * u = mul-le-mul_left g lu in
    let q : 1 * u ≤ g * u = mul-le-mul_right u lg in
    (omega arith, omega arith)

gdd_digits : (a b c : ℕ) → b < (POINTS_MAX / 2) → c < (POINTS_MAX - 1) → (((a * (POINTS_MAX / 2) + b) * (POINTS_MAX - 1) + c) / (POINTS_MAX - 1) ≡ a * (POINTS_MAX / 2) + b) × (((a * (POINTS_MAX / 2) + b) * (POINTS_MAX - 1) + c) % (POINTS_MAX - 1) ≡ c) × ((a * (POINTS_MAX / 2) + b) / (POINTS_MAX / 2) ≡ a) × ((a * (POINTS_MAX / 2) + b) % (POINTS_MAX / 2) ≡ b)
gdd_digits a b c hb hc = (omega arith, omega arith, omega arith, omega arith)

gdd_back : (k g u : ℕ) → 2 ≤ k → 1 ≤ g → 2 ≤ u → g * u ≤ POINTS_MAX → gdd_at (gdd_number k g u) ≡ Gdd k g u
gdd_back k g u hk hg hu h =
    let f = gdd_small g u hg hu h in
    let m = gdd_digits (k - 2) (g - 1) (u - 2) (omega (arith, f)) (omega (arith, f)) in
    let p : gdd_number k g u / (POINTS_MAX - 1) ≡ (k - 2) * (POINTS_MAX / 2) + (g - 1) = m.0 in
    let q : gdd_number k g u / (POINTS_MAX - 1) / (POINTS_MAX / 2) ≡ k - 2 = ap (λ t. t / (POINTS_MAX / 2)) p ∙ m.2 in
    let r : gdd_number k g u / (POINTS_MAX - 1) % (POINTS_MAX / 2) ≡ g - 1 = ap (λ t. t % (POINTS_MAX / 2)) p ∙ m.3 in
    let s : gdd_number k g u % (POINTS_MAX - 1) ≡ u - 2 = m.1 in
    three_alike (λ k g u. Gdd k g u) (gdd_number k g u / (POINTS_MAX - 1) / (POINTS_MAX / 2) + 2) (gdd_number k g u / (POINTS_MAX - 1) % (POINTS_MAX / 2) + 1) (gdd_number k g u % (POINTS_MAX - 1) + 2) k g u (omega arith) (omega arith) (omega arith)

pub gdd_within : (k g u : ℕ) → 2 ≤ k → k ≤ GDD_K_MAX → 1 ≤ g → 2 ≤ u → g * u ≤ POINTS_MAX → gdd_number k g u < gdd_cells
gdd_within k g u hk hn hg hu h = omega (arith, gdd_small g u hg hu h)

question_at_cell : (q : Query) → in_bounds q ≡ true → question_at (cell_of q) ≡ Some q
unfolding cell_of
question_at_cell (Td k n) b =
    let d = td_numbers k n b in
    let first : ((k - 2) * TD_N_MAX + (n - 1)) / TD_N_MAX + 2 ≡ k = omega (arith, d) in
    let second : ((k - 2) * TD_N_MAX + (n - 1)) % TD_N_MAX + 1 ≡ n = omega (arith, d) in
    at_td ((k - 2) * TD_N_MAX + (n - 1)) (omega (arith, d)) ∙ ap Some (ap₂ (λ k n. Td k n) first second)
question_at_cell (Df group v k l) b =
    let d = df_numbers group v k l b in
    let t = triple_small v k l d.0 d.1 d.2 d.3 d.4 in
    let g = group_small group in
    let e : td_cells + group_number group * bibd_cells + triple_number v k l ≡ td_cells + (group_number group * bibd_cells + triple_number v k l) = omega arith in
    ap question_at e ∙ at_df (group_number group * bibd_cells + triple_number v k l) (omega (arith, t, g)) ∙ ap Some (df_back group v k l d.0 d.1 d.2 d.3 d.4)
question_at_cell (Bibd v k l) b =
    let d = bibd_numbers v k l b in
    let e : td_cells + 2 * bibd_cells + triple_number v k l ≡ td_cells + (2 * bibd_cells + triple_number v k l) = omega arith in
    ap question_at e ∙ at_bibd (triple_number v k l) (triple_small v k l d.0 d.1 d.2 d.3 d.4) ∙ ap Some (triple_back (λ v k l. Bibd v k l) v k l d.0 d.1 d.2 d.3 d.4)
question_at_cell (Gdd k g u) b =
    let d = gdd_numbers k g u b in
    let e : td_cells + 2 * bibd_cells + bibd_cells + ((k - 2) * (POINTS_MAX / 2) + (g - 1)) * (POINTS_MAX - 1) + (u - 2) ≡ td_cells + (2 * bibd_cells + (bibd_cells + gdd_number k g u)) = omega arith in
    ap question_at e ∙ at_gdd (gdd_number k g u) (gdd_within k g u d.0 d.1 d.2 d.3 d.4) ∙ ap Some (gdd_back k g u d.0 d.2 d.3 d.4)
question_at_cell (Pbd v s) b =
    let d = pbd_numbers v s b in
    let x : ℕ = (v - 2) * (PBD_S_MAX - 1) + (s - 2) in
    let e : td_cells + 2 * bibd_cells + bibd_cells + gdd_cells + (v - 2) * (PBD_S_MAX - 1) + (s - 2) ≡ td_cells + (2 * bibd_cells + (bibd_cells + (gdd_cells + ((v - 2) * (PBD_S_MAX - 1) + (s - 2))))) = omega arith in
    let first : ((v - 2) * (PBD_S_MAX - 1) + (s - 2)) / (PBD_S_MAX - 1) + 2 ≡ v = omega (arith, d) in
    let second : ((v - 2) * (PBD_S_MAX - 1) + (s - 2)) % (PBD_S_MAX - 1) + 2 ≡ s = omega (arith, d) in
    ap question_at e ∙ at_pbd ((v - 2) * (PBD_S_MAX - 1) + (s - 2)) (omega (arith, d)) ∙ ap Some (ap₂ (λ v s. Pbd v s) first second)

-- and what stands at a number has it
td_number : (x : ℕ) → cell_of (td_at x) ≡ x
unfolding cell_of
td_number x = omega arith

triple_forth : (x : ℕ) → triple_number (x / COVER_MAX / (POINTS_MAX - 1) + 2) (x / COVER_MAX % (POINTS_MAX - 1) + 2) (x % COVER_MAX + 1) ≡ x
triple_forth x = omega arith

group_forth : (i : ℕ) → i ≤ 1 → group_number (group_at i) ≡ i
group_forth zero h = refl
group_forth (suc zero) h = refl
group_forth (suc (suc i)) h = absurd (omega arith)

df_number : (x : ℕ) → x < 2 * bibd_cells → cell_of (df_at x) ≡ td_cells + x
unfolding cell_of
df_number x h =
    let g : group_number (group_at (x / bibd_cells)) ≡ x / bibd_cells = group_forth (x / bibd_cells) (omega arith) in
    let t = triple_forth (x % bibd_cells) in
    ap₂ (λ a b. td_cells + a * bibd_cells + b) g t ∙ (let e : td_cells + x / bibd_cells * bibd_cells + x % bibd_cells ≡ td_cells + x = omega arith in e)

bibd_number : (x : ℕ) → cell_of (bibd_at x) ≡ td_cells + 2 * bibd_cells + x
unfolding cell_of
bibd_number x = ap (λ b. td_cells + 2 * bibd_cells + b) (triple_forth x)

gdd_forth : (x : ℕ) → cell_of (gdd_at x) ≡ td_cells + 2 * bibd_cells + bibd_cells + x
unfolding cell_of
gdd_forth x = omega arith

pbd_number : (x : ℕ) → cell_of (pbd_at x) ≡ td_cells + 2 * bibd_cells + bibd_cells + gdd_cells + x
unfolding cell_of
pbd_number x = omega arith

cell_at_question : (cell : ℕ) (q : Query) → question_at cell ≡ Some q → cell_of q ≡ cell
cell_at_question cell q e = in_td (placed_split td_cells td_at behind_td cell q e)
  where
    in_pbd : (x : ℕ) → ((x < pbd_cells) × (pbd_at x ≡ q)) ⊎ ((pbd_cells ≤ x) × (None ≡ Some q)) → cell ≡ td_cells + 2 * bibd_cells + bibd_cells + gdd_cells + x → cell_of q ≡ cell
    in_pbd x (inl h) e = ap cell_of (sym h.1) ∙ pbd_number x ∙ sym e
    in_pbd x (inr h) e = let n : None ≡ Some q = h.1 in absurd (cc)

    in_gdd : (x : ℕ) → ((x < gdd_cells) × (gdd_at x ≡ q)) ⊎ ((gdd_cells ≤ x) × (placed behind_gdd (x - gdd_cells) ≡ Some q)) → cell ≡ td_cells + 2 * bibd_cells + bibd_cells + x → cell_of q ≡ cell
    in_gdd x (inl h) e = ap cell_of (sym h.1) ∙ gdd_forth x ∙ sym e
    in_gdd x (inr h) e = in_pbd (x - gdd_cells) (placed_split pbd_cells pbd_at [] (x - gdd_cells) q h.1) (omega (arith, e, h.0))

    in_bibd : (x : ℕ) → ((x < bibd_cells) × (bibd_at x ≡ q)) ⊎ ((bibd_cells ≤ x) × (placed behind_bibd (x - bibd_cells) ≡ Some q)) → cell ≡ td_cells + 2 * bibd_cells + x → cell_of q ≡ cell
    in_bibd x (inl h) e = ap cell_of (sym h.1) ∙ bibd_number x ∙ sym e
    in_bibd x (inr h) e = in_gdd (x - bibd_cells) (placed_split gdd_cells gdd_at behind_gdd (x - bibd_cells) q h.1) (omega (arith, e, h.0))

    in_df : (x : ℕ) → ((x < 2 * bibd_cells) × (df_at x ≡ q)) ⊎ ((2 * bibd_cells ≤ x) × (placed behind_df (x - 2 * bibd_cells) ≡ Some q)) → cell ≡ td_cells + x → cell_of q ≡ cell
    in_df x (inl h) e = ap cell_of (sym h.1) ∙ df_number x h.0 ∙ sym e
    in_df x (inr h) e = in_bibd (x - 2 * bibd_cells) (placed_split bibd_cells bibd_at behind_bibd (x - 2 * bibd_cells) q h.1) (omega (arith, e, h.0))

    in_td : ((cell < td_cells) × (td_at cell ≡ q)) ⊎ ((td_cells ≤ cell) × (placed behind_td (cell - td_cells) ≡ Some q)) → cell_of q ≡ cell
    in_td (inl h) = ap cell_of (sym h.1) ∙ td_number cell
    in_td (inr h) = in_df (cell - td_cells) (placed_split (2 * bibd_cells) df_at behind_df (cell - td_cells) q h.1) (omega (arith, h.0))

-- the question in bounds with its number is the question
pub query_of_cell : (q : Query) → in_bounds q ≡ true → query_of (cell_of q) ≡ Some q
unfolding query_of
query_of_cell q b = ap (option_and_then (λ q. cond (in_bounds q) (Some q) None)) (question_at_cell q b) ∙ ap (λ t. cond t (Some q) None) b

-- questions in bounds with one number are one
pub same_question : (p q : Query) → in_bounds p ≡ true → in_bounds q ≡ true → cell_of p ≡ cell_of q → p ≡ q
same_question p q b c e = let s : Some p ≡ Some q = sym (query_of_cell p b) ∙ ap query_of e ∙ query_of_cell q c in cc

-- and a question that was found is in bounds and has the number
pub cell_of_query : (cell : ℕ) (q : Query) → query_of cell ≡ Some q → (in_bounds q ≡ true) × (cell_of q ≡ cell)
unfolding query_of
cell_of_query cell q e = by (question_at cell) refl e
  where
    kept : (p : Query) → cond (in_bounds p) (Some p) None ≡ Some q → (b : Bool) → in_bounds p ≡ b → (in_bounds p ≡ true) × (p ≡ q)
    kept p e true h = let s : Some p ≡ Some q = sym (ap (λ t. cond t (Some p) None) h) ∙ e in (h, cc)
    kept p e false h = let s : None ≡ Some q = sym (ap (λ t. cond t (Some p) None) h) ∙ e in absurd (cc)

    by : (found : Option Query) → question_at cell ≡ found → option_and_then (λ q. cond (in_bounds q) (Some q) None) found ≡ Some q → (in_bounds q ≡ true) × (cell_of q ≡ cell)
    by None f e = let n : None ≡ Some q = e in absurd (cc)
    by (Some p) f e =
        let k = kept p e (in_bounds p) refl in
        (ap in_bounds (sym k.1) ∙ k.0, cell_at_question cell q (f ∙ ap Some k.1))

pub found_there : (cell : ℕ) (found : Option Query) → found ≡ query_of cell → IfSome found (λ q. (in_bounds q ≡ true) × (cell_of q ≡ cell))
found_there cell None e = tt
found_there cell (Some q) e = cell_of_query cell q (sym e)

pub only_there : (cell : ℕ) (found : Option Query) → found ≡ query_of cell → (q : Query) → in_bounds q ≡ true → cell_of q ≡ cell → found ≡ Some q
only_there cell found e q b c = e ∙ ap query_of (sym c) ∙ query_of_cell q b

pub ruleset question_laws = (found_there, only_there)

pub ruleset gdd_laws = (gdd_small, gdd_within)
