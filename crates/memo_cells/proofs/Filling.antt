-- What the word of a question says, and which changes of words and knowledge keep a memo lawful.
use Rattle.std.proofs.Common.{◌≡◌, ◌≢◌, ◌⊎◌, ℕ, zero, suc, ◌+◌, ◌<◌, List, [], ◌∷◌, length, true, cond, inl, inr, refl, sym, ap, ◌∙◌, subst, ⊎_elim, set, replicate, arith, eq-eqb, ne_eqb}
use Rattle.std.specs.Prelude.{slice_index, flat_map, Some}
use Rattle.std.specs.List.{AllByRecursion}
use Rattle.std.proofs.lemmas.List.{get_or-set_same, get_or-set_other}
use Rattle.std.specs.FinSet as sets
use mathlib.Core.Option.{some, some-injective, some-ne-none}
use lib.ListN.{get_elem?}
use Rattle.atomic_table.proofs.Lists.{at_set}
use Rattle.counting.proofs.Booleans.{cases_eq}
use Rattle.sparse_words.proofs.Paging.{zeros_at}
use Rattle.design_base.specs.declared.cells.TheConstants.{CELLS}
use Rattle.design_base.specs.declared.query.Query.{Query}
use Rattle.design_base.specs.declared.query.Query.TheVariants.{Td, Df, Bibd, Gdd, Pbd}
use Rattle.design_base.specs.declared.query.Group.TheVariants.{Cyclic, Field}
use Rattle.design_base.specs.Cells.{cell_of}
use Rattle.design_base.specs.Codes.{code, read_code}
use Rattle.design_base.specs.Limits.{in_bounds}
use Rattle.design_base.proofs.Bounds.{td_numbers, df_numbers, bibd_numbers, gdd_numbers, pbd_numbers}
use Rattle.design_base.proofs.Coding.{read_found, code_positive}
use Rattle.design_base.proofs.Numbering.{same_question, gdd_laws}
use Rattle.rule_terms.specs.Rank.{rank}
use Rattle.rule_table.specs.Asked.{asked}
use Rattle.rule_table.specs.Closure.{reached, closure, cells_of}
use Rattle.rule_table.specs.Noted.{IsNoted}
use Rattle.rule_table.specs.Told.{Cells, Has}
use Rattle.rule_table.specs.Verdicts.{verdict}
use Rattle.rule_table.proofs.Closures.{reached_unfolds, closure_cells}
use Rattle.rule_table.proofs.Each.{each-weaker}
use Rattle.rule_table.proofs.Passing.{IsBelow}
use Rattle.rule_table.proofs.Remembered.{no_notes, notes-set}
use Rattle.rule_table.proofs.Sets.{insert_from, empty_has, append_from}
use Rattle.rule_table.proofs.Works.{asked_fall}
use Rattle.memo_cells.specs.Core.{MayPublish}
use Rattle.memo_cells.specs.Knowledge.{Knowledge, no_knowledge, learned, published}
use Rattle.memo_cells.specs.Lawful.{IsFilled, AreFilled, IsGrounded, AreKnown, IsLawful}

-- a word that is not 0 is read as the verdict of the question in its cell, and is its code
pub noted_verdict : (q : Query) (word : ℕ) → in_bounds q ≡ true → IsNoted (cell_of q) word → read_code word ≡ Some (verdict q)
noted_verdict q word bounds noted = noted.word ∙ ap (λ p. Some (verdict p)) (same_question noted.question q noted.bounds bounds noted.cell)

pub noted_code : (q : Query) (word : ℕ) → in_bounds q ≡ true → IsNoted (cell_of q) word → code (verdict q) ≡ word
noted_code q word bounds noted = read_found word (Some (verdict q)) (sym (noted_verdict q word bounds noted))

-- each question in bounds has a cell
pub cell_within : (q : Query) → in_bounds q ≡ true → cell_of q < CELLS
unfolding cell_of
cell_within (Td k n) b = omega (arith, td_numbers k n b)
cell_within (Df Cyclic v k l) b = omega (arith, df_numbers Cyclic v k l b)
cell_within (Df Field v k l) b = omega (arith, df_numbers Field v k l b)
cell_within (Bibd v k l) b = omega (arith, bibd_numbers v k l b)
cell_within (Gdd k g u) b = grind (arith, gdd_laws, gdd_numbers k g u b)
cell_within (Pbd v s) b = omega (arith, pbd_numbers v s b)

-- the cells that a question of rank below n leads to are filled where its own is
abbrev Fills : List ℕ → ℕ → Type 0
Fills words n = (p : Query) → rank p < n → in_bounds p ≡ true → IsFilled words (cell_of p) → AreFilled words (cells_of (reached p))

all_filled : (words : List ℕ) (n : ℕ) → Fills words n → (ps : List Query) → AllByRecursion (IsBelow n) ps → AllByRecursion (λ p. IsFilled words (cell_of p)) ps
    → AreFilled words (cells_of (flat_map reached ps))
all_filled words n f [] below filled i h = empty_has (IsFilled words i) i h
all_filled words n f (p ∷ ps) below filled i h =
    ⊎_elim (λ k. f p below.0.1 below.0.0 filled.0 i k) (λ k. all_filled words n f ps below.1 filled.1 i k) (append_from (reached p) (flat_map reached ps) i h)

fills : (words : List ℕ) → ((q : Query) → in_bounds q ≡ true → IsFilled words (cell_of q) → IsGrounded words q) → (n : ℕ) → Fills words n
fills words grounded zero q below bounds filled i h = absurd (omega arith)
fills words grounded (suc n) q below bounds filled i h =
    let asks : AllByRecursion (IsBelow n) (asked q) = each-weaker (IsBelow (rank q)) (IsBelow n) (asked q) (λ p d. (d.0, omega (arith, d.1, below))) (asked_fall q bounds) in
    ⊎_elim
    (λ own. subst (IsFilled words) (sym own) filled)
    (λ further. all_filled words n (fills words grounded n) (asked q) asks (grounded q bounds filled) i further)
    (insert_from (cells_of (flat_map reached (asked q))) (cell_of q) i (subst (λ (ps : List Query). Has (cells_of ps) i) (reached_unfolds q bounds) h))

-- with the cell of a question those of its closure are filled
pub closure_filled : (words : List ℕ) (views : List Knowledge) (q : Query) → IsLawful words views → in_bounds q ≡ true → IsFilled words (cell_of q)
    → AreFilled words (cells_of (closure q))
closure_filled words views q law bounds filled i h =
    fills words law.grounded (rank q + 1) q (omega arith) bounds filled i (subst (λ (s : Cells). Has s i) (closure_cells q) h)

-- what is known after a word was found
pub learned-zero : (known : Cells) (cell found : ℕ) → found ≡ 0 → learned known cell found ≡ known
learned-zero known cell found e = ap (λ b. cond b known (sets.insert known cell)) (eq-eqb found 0 e)

pub learned-other : (known : Cells) (cell found : ℕ) → found ≢ 0 → learned known cell found ≡ sets.insert known cell
learned-other known cell found n = ap (λ b. cond b known (sets.insert known cell)) (ne_eqb found 0 n)

-- one filled cell more
pub inserted_filled : (words : List ℕ) (known : Cells) (cell : ℕ) → AreFilled words known → IsFilled words cell → AreFilled words (sets.insert known cell)
inserted_filled words known cell filled own i h = ⊎_elim (λ e. subst (IsFilled words) (sym e) own) (λ k. filled i k) (insert_from known cell i h)

pub learned_filled : (words : List ℕ) (known : Cells) (cell : ℕ) → AreFilled words known → AreFilled words (learned known cell (slice_index words cell))
learned_filled words known cell filled =
    ⊎_elim
    (λ e. subst (AreFilled words) (sym (learned-zero known cell (slice_index words cell) e)) filled)
    (λ n. subst (AreFilled words) (sym (learned-other known cell (slice_index words cell) n)) (inserted_filled words known cell filled n))
    (cases_eq (slice_index words cell) 0)

-- filled cells stay filled
abbrev pub StayFilled : List ℕ → List ℕ → Type 0
StayFilled words now = (i : ℕ) → IsFilled words i → IsFilled now i

-- one pass knows something else
pub known_after : (words now : List ℕ) (views : List Knowledge) (pass : ℕ) (w : Knowledge) → StayFilled words now → AreKnown words views → AreFilled now w.known → AreKnown now (set views pass w)
known_after words now views pass w stay known mine by v e i h =
    ⊎_elim (λ t. mine i (subst (λ (u : Knowledge). Has u.known i) (sym t.1) h)) (λ t. stay i (known by v t.1 i h)) (at_set views pass by w v e)

-- the knowledge changes alone
pub law_views : (words : List ℕ) (views now : List Knowledge) → IsLawful words views → AreKnown words now → IsLawful words now
law_views words views now law known = record { notes = law.notes; known = known; grounded = law.grounded }

pub law_view : (words : List ℕ) (views : List Knowledge) (pass : ℕ) (w : Knowledge) → IsLawful words views → AreFilled words w.known → IsLawful words (set views pass w)
law_view words views pass w law mine = law_views words views (set views pass w) law (known_after words words views pass w (λ i h. h) law.known mine)

-- a word that is written again
same_word : (words : List ℕ) (i : ℕ) → set words i (slice_index words i) ≡ words
same_word [] i = refl
same_word (w ∷ ws) zero = refl
same_word (w ∷ ws) (suc i) = ap (λ (l : List ℕ). w ∷ l) (same_word ws i)

pub law_same : (words : List ℕ) (views : List Knowledge) (cell pass : ℕ) (w : Knowledge) → IsLawful words views → AreFilled words w.known → IsLawful (set words cell (slice_index words cell)) (set views pass w)
law_same words views cell pass w law mine = subst (λ (ws : List ℕ). IsLawful ws (set views pass w)) (sym (same_word words cell)) (law_view words views pass w law mine)

set_filled : (words : List ℕ) (cell new : ℕ) → cell < length words → new ≢ 0 → IsFilled (set words cell new) cell
set_filled words cell new within nonzero = subst (λ n. n ≢ 0) (sym (get_or-set_same words cell new 0 within)) nonzero

set_stays : (words : List ℕ) (cell new : ℕ) → cell < length words → new ≢ 0 → StayFilled words (set words cell new)
set_stays words cell new within nonzero i h =
    ⊎_elim
    (λ e. subst (IsFilled (set words cell new)) (sym e) (set_filled words cell new within nonzero))
    (λ n. subst (λ k. k ≢ 0) (sym (get_or-set_other words cell i new 0 n)) h)
    (cases_eq i cell)

-- a verdict is set, where what it asks for is known
pub law_set : (words : List ℕ) (views : List Knowledge) (q : Query) (cell word pass : ℕ) (v : Knowledge) → IsLawful words views → get_elem? views pass ≡ some v → cell ≡ cell_of q
    → MayPublish v q word → IsLawful (set words cell word) (set views pass (published v cell))
law_set words views q cell word pass v law at is may = record {
  notes = notes-set words q cell word law.notes within is may.bounds may.told;
  known = known_after words now views pass (published v cell) stay law.known (inserted_filled now v.known cell (λ i h. stay i (law.known pass v at i h)) own);
  grounded = λ p b filled. by p b filled (cases_eq (cell_of p) cell);
}
  where
    now : List ℕ
    now = set words cell word

    nonzero : word ≢ 0
    nonzero z = let e : code (verdict q) ≡ word = read_found word (Some (verdict q)) (sym may.told) in omega (arith, z, e, code_positive (verdict q))

    within : cell < length words
    within = omega (arith, is, cell_within q may.bounds, law.notes.count)

    stay : StayFilled words (set words cell word)
    stay = set_stays words cell word within nonzero

    own : IsFilled (set words cell word) cell
    own = set_filled words cell word within nonzero

    here : IsGrounded (set words cell word) q
    here = each-weaker (λ p. Has v.known (cell_of p)) (λ p. IsFilled (set words cell word) (cell_of p)) (asked q) (λ p h. stay (cell_of p) (law.known pass v at (cell_of p) h)) may.grounded

    by : (p : Query) → in_bounds p ≡ true → IsFilled (set words cell word) (cell_of p) → (cell_of p ≡ cell) ⊎ (cell_of p ≢ cell) → IsGrounded (set words cell word) p
    by p b filled (inl e) = subst (IsGrounded (set words cell word)) (same_question q p may.bounds b (sym (e ∙ is))) here
    by p b filled (inr n) =
        each-weaker (λ r. IsFilled words (cell_of r)) (λ r. IsFilled (set words cell word) (cell_of r)) (asked p) (λ r h. stay (cell_of r) h)
        (law.grounded p b (subst (λ k. k ≢ 0) (get_or-set_other words cell (cell_of p) word 0 n) filled))

-- nothing is filled at the start
pub law_begins : (n : ℕ) (words : List ℕ) → n ≡ CELLS → words ≡ replicate n 0 → IsLawful words (no_knowledge ∷ [])
law_begins n words count is = record {
  notes = no_notes n words count is;
  known = λ by v e i h. knows by v e i h;
  grounded = λ q b filled. absurd (filled (ap (λ (l : List ℕ). slice_index l (cell_of q)) is ∙ zeros_at n (cell_of q)));
}
  where
    knows : AreKnown words (no_knowledge ∷ [])
    knows zero v e i h = empty_has (IsFilled words i) i (subst (λ (u : Knowledge). Has u.known i) (sym (some-injective _ _ e)) h)
    knows (suc by) v e i h = absurd (some-ne-none v (sym e))
