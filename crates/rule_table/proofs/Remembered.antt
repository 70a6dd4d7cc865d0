-- The cells whose word is not 0, before and after a write; and what was learned when a verdict is noted.
use Rattle.std.proofs.Common.{◌≡◌, ◌≢◌, ◌⊎◌, ℕ, zero, suc, ◌+◌, ◌<◌, ◌≤◌, List, [], ◌∷◌, length, true, cond, inl, inr, refl, sym, ap, ◌∙◌, subst, ⊎_elim, set, replicate, arith, eq-eqb, ne_eqb}
use Rattle.sparse_words.proofs.Paging.{zeros_at}
use Rattle.std.specs.Prelude.{slice_index, Some}
use Rattle.counting.proofs.Booleans.{cases_eq}
use Rattle.std.proofs.lemmas.List.{length-replicate, length-set, get_or-set_same, get_or-set_other}
use Rattle.std.specs.FinSet as sets
use Rattle.std.specs.Ordering.{nat_cmp}
use Rattle.design_base.specs.declared.cells.TheConstants.{CELLS}
use Rattle.design_base.specs.declared.query.Query.{Query}
use Rattle.design_base.specs.Cells.{cell_of}
use Rattle.design_base.specs.Codes.{read_code}
use Rattle.design_base.specs.Limits.{in_bounds}
use Rattle.design_base.proofs.Numbering.{same_question}
use Rattle.rule_terms.specs.Rank.{rank}
use Rattle.rule_table.specs.Noted.{noted_from, noted, IsNoted, AreNotes, AreMarks}
use Rattle.rule_table.specs.Told.{Cells, Has, Grows, Learns, IsCounted, IsCellBelow}
use Rattle.rule_table.specs.Verdicts.{verdict}
use Rattle.rule_table.proofs.Sets.{insert_has, insert_keeps, insert_from, empty_has, same_cells, len_insert, len_insert_le}

noted-zero : (i w : ℕ) (ws : List ℕ) → w ≡ 0 → noted_from i (w ∷ ws) ≡ noted_from (suc i) ws
unfolding noted_from
noted-zero i w ws e = ap (λ b. cond b (noted_from (suc i) ws) (sets.insert (noted_from (suc i) ws) i)) (eq-eqb w 0 e)

noted-other : (i w : ℕ) (ws : List ℕ) → w ≢ 0 → noted_from i (w ∷ ws) ≡ sets.insert (noted_from (suc i) ws) i
unfolding noted_from
noted-other i w ws n = ap (λ b. cond b (noted_from (suc i) ws) (sets.insert (noted_from (suc i) ws) i)) (ne_eqb w 0 n)

noted_has : (ws : List ℕ) (i k : ℕ) → slice_index ws k ≢ 0 → Has (noted_from i ws) (i + k)
noted_has [] i k h = absurd (h refl)
noted_has (w ∷ ws) i zero h =
    let e : i ≡ i + 0 = omega arith in
    subst (λ (s : Cells). Has s (i + 0)) (sym (noted-other i w ws h)) (subst (λ n. Has (sets.insert (noted_from (suc i) ws) i) n) e (insert_has (noted_from (suc i) ws) i))
noted_has (w ∷ ws) i (suc k) h =
    let e : suc i + k ≡ i + suc k = omega arith in
    at (subst (λ n. Has (noted_from (suc i) ws) n) e (noted_has ws (suc i) k h)) (cases_eq w 0)
  where
    at : Has (noted_from (suc i) ws) (i + suc k) → (w ≡ 0) ⊎ (w ≢ 0) → Has (noted_from i (w ∷ ws)) (i + suc k)
    at f (inl z) = subst (λ (s : Cells). Has s (i + suc k)) (sym (noted-zero i w ws z)) f
    at f (inr n) = subst (λ (s : Cells). Has s (i + suc k)) (sym (noted-other i w ws n)) (insert_keeps (noted_from (suc i) ws) i (i + suc k) f)

-- where a noted place is
abbrev IsPlace : List ℕ → ℕ → ℕ → Type 0
IsPlace ws i j = (k : ℕ) × (j ≡ i + k) × (slice_index ws k ≢ 0)

noted_only : (ws : List ℕ) (i j : ℕ) → Has (noted_from i ws) j → IsPlace ws i j
unfolding noted_from
noted_only [] i j h = empty_has (IsPlace [] i j) j h
noted_only (w ∷ ws) i j h = at (cases_eq w 0) (noted_only ws (suc i) j)
  where
    later : IsPlace ws (suc i) j → IsPlace (w ∷ ws) i j
    later t = let e : j ≡ suc i + t.0 = t.1 in (suc t.0, (let d : j ≡ i + suc t.0 = omega arith in d), t.2)

    at : (w ≡ 0) ⊎ (w ≢ 0) → (Has (noted_from (suc i) ws) j → IsPlace ws (suc i) j) → IsPlace (w ∷ ws) i j
    at (inl z) f = later (f (subst (λ (s : Cells). Has s j) (noted-zero i w ws z) h))
    at (inr n) f =
        ⊎_elim
        (λ (e : j ≡ i). (zero, (let d : j ≡ i + 0 = omega arith in d), n))
        (λ k. later (f k))
        (insert_from (noted_from (suc i) ws) i j (subst (λ (s : Cells). Has s j) (noted-other i w ws n) h))

-- a cell is noted exactly where its word is not 0
pub written_noted : (ws : List ℕ) (i : ℕ) → slice_index ws i ≢ 0 → Has (noted ws) i
unfolding noted
written_noted ws i h = let e : 0 + i ≡ i = omega arith in subst (λ n. Has (noted_from 0 ws) n) e (noted_has ws 0 i h)

pub noted_written : (ws : List ℕ) (i : ℕ) → Has (noted ws) i → slice_index ws i ≢ 0
unfolding noted
noted_written ws i h = let t = noted_only ws 0 i h in let d : i ≡ 0 + t.0 = t.1 in let e : t.0 ≡ i = omega arith in subst (λ n. slice_index ws n ≢ 0) e t.2

pub noted-set : (ws : List ℕ) (i m : ℕ) → i < length ws → m ≢ 0 → noted (set ws i m) ≡ sets.insert (noted ws) i
noted-set ws i m within nonzero = same_cells (noted (set ws i m)) (sets.insert (noted ws) i) to from
  where
    to : (j : ℕ) → Has (noted (set ws i m)) j → Has (sets.insert (noted ws) i) j
    to j h = elim (cases_eq j i) [
      | inl e ↦ subst (λ k. Has (sets.insert (noted ws) i) k) (sym e) (insert_has (noted ws) i)
      | inr n ↦ insert_keeps (noted ws) i j (written_noted ws j (subst (λ k. k ≢ 0) (get_or-set_other ws i j m 0 n) (noted_written (set ws i m) j h)))
    ]

    own : (j : ℕ) → j ≡ i → Has (noted (set ws i m)) j
    own j e = written_noted (set ws i m) j (subst (λ k. slice_index (set ws i m) k ≢ 0) (sym e) (subst (λ k. k ≢ 0) (sym (get_or-set_same ws i m 0 within)) nonzero))

    from : (j : ℕ) → Has (sets.insert (noted ws) i) j → Has (noted (set ws i m)) j
    from j h = elim (cases_eq j i) [
      | inl e ↦ own j e
      | inr n ↦ ⊎_elim (λ e. absurd (n e)) (λ k. written_noted (set ws i m) j (subst (λ x. x ≢ 0) (sym (get_or-set_other ws i j m 0 n)) (noted_written ws j k))) (insert_from (noted ws) i j h)
    ]

pub none_noted : (n : ℕ) (ws : List ℕ) → ws ≡ replicate n 0 → noted ws ≡ sets.empty
none_noted n ws is =
    same_cells (noted ws) sets.empty
    (λ i h. absurd (noted_written ws i h (ap (λ (l : List ℕ). slice_index l i) is ∙ zeros_at n i))) (λ i h. empty_has (Has (noted ws) i) i h)

pub no_notes : (n : ℕ) (ws : List ℕ) → n ≡ CELLS → ws ≡ replicate n 0 → AreNotes ws
no_notes n ws count is = record {
  count = ap length is ∙ length-replicate n 0 ∙ count;
  verdicts = λ i nonzero. absurd (nonzero (ap (λ (l : List ℕ). slice_index l i) is ∙ zeros_at n i));
}

pub no_marks : (n : ℕ) (ws : List ℕ) → n ≡ CELLS → ws ≡ replicate n 0 → AreMarks ws 0
no_marks n ws count is = record {
  cells = ap length is ∙ length-replicate n 0 ∙ count;
  count = sym (ap sets.len (none_noted n ws is) ∙ sets.len-empty nat_cmp);
}

-- one more is noted
pub notes-set : (ws : List ℕ) (q : Query) (i m : ℕ) → AreNotes ws → i < length ws → i ≡ cell_of q → in_bounds q ≡ true → read_code m ≡ Some (verdict q) → AreNotes (set ws i m)
notes-set ws q i m a within own b is = record {
  count = length-set ws i m ∙ a.count;
  verdicts = λ j n. at j n (cases_eq j i);
}
  where
    at : (j : ℕ) → slice_index (set ws i m) j ≢ 0 → (j ≡ i) ⊎ (j ≢ i) → IsNoted j (slice_index (set ws i m) j)
    at j n (inl e) = record {
      question = q;
      bounds = b;
      cell = sym (e ∙ own);
      word = ap read_code (ap (slice_index (set ws i m)) e ∙ get_or-set_same ws i m 0 within) ∙ is;
    }
    at j n (inr o) =
        let e : slice_index (set ws i m) j ≡ slice_index ws j = get_or-set_other ws i j m 0 o in
        subst (IsNoted j) (sym e) (a.verdicts j (λ z. n (e ∙ z)))

noted_few : (ws : List ℕ) (i : ℕ) → sets.len (noted_from i ws) ≤ length ws
unfolding noted_from
noted_few [] i = let e : sets.len {R = nat_cmp} sets.empty ≡ 0 = sets.len-empty nat_cmp in omega (arith, e)
noted_few (w ∷ ws) i = at (cases_eq w 0) (noted_few ws (suc i))
  where
    at : (w ≡ 0) ⊎ (w ≢ 0) → sets.len (noted_from (suc i) ws) ≤ length ws → sets.len (noted_from i (w ∷ ws)) ≤ suc (length ws)
    at (inl z) h = omega (arith, ap sets.len (noted-zero i w ws z), h)
    at (inr n) h = omega (arith, ap sets.len (noted-other i w ws n), len_insert_le (noted_from (suc i) ws) i, h)

pub marks_few : (ws : List ℕ) (marked : ℕ) → AreMarks ws marked → marked ≤ CELLS
unfolding noted
marks_few ws marked a = omega (arith, a.count, a.cells, noted_few ws 0)

pub marks-set : (ws : List ℕ) (marked i m : ℕ) → AreMarks ws marked → i < length ws → m ≢ 0 → (Has (noted ws) i → ⊥) → AreMarks (set ws i m) (marked + 1)
marks-set ws marked i m a within nonzero other = record {
  cells = length-set ws i m ∙ a.cells;
  count = omega (arith, a.count, ap sets.len (noted-set ws i m within nonzero), len_insert (noted ws) i other);
}

-- what is read
pub word_read : (ws : List ℕ) (q : Query) (w : ℕ) → AreNotes ws → in_bounds q ≡ true → w ≡ slice_index ws (cell_of q) → w ≢ 0 → read_code w ≡ Some (verdict q)
word_read ws q w a b is n =
    let r = a.verdicts (cell_of q) (λ e. n (is ∙ e)) in
    ap read_code is ∙ r.word ∙ ap (λ p. Some (verdict p)) (same_question r.question q r.bounds b r.cell)

-- the question's own cell is noted
pub note_ends : (q : Query) (old now : Cells) (start steps : ℕ) → in_bounds q ≡ true → Grows q old now → IsCounted old now (start + 1) steps → (Has old (cell_of q) → ⊥)
    → Learns q old (sets.insert now (cell_of q)) × IsCounted old (sets.insert now (cell_of q)) start steps
note_ends q old now start steps b g counted new = (
  record {
    keeps = λ i h. insert_keeps now (cell_of q) i (g.keeps i h);
    own = insert_has now (cell_of q);
    fresh = λ i h. ⊎_elim (λ own. inl (inr own)) (λ k. ⊎_elim (λ was. inl (inl was)) (λ below. inr below) (g.fresh i k)) (insert_from now (cell_of q) i h);
  },
  omega (arith, counted, len_insert now (cell_of q) still_new),
)
  where
    not_below : IsCellBelow q (cell_of q) → ⊥
    not_below c = omega (arith, c.smaller, ap rank (same_question c.question q c.bounds b c.cell))

    still_new : Has now (cell_of q) → ⊥
    still_new h = ⊎_elim new not_below (g.fresh (cell_of q) h)

-- nothing was learned where it was known
pub known_learns : (q : Query) (old : Cells) → Has old (cell_of q) → Learns q old old
known_learns q old h = record { keeps = λ i k. k; own = h; fresh = λ i k. inl (inl k) }
