-- A visit in the midst of its walk.
use Rattle.std.proofs.Common.{◌≡◌, ℕ, ◌<◌, true, List, [], ◌∷◌, ◌++◌, sym, ap, ◌∙◌, subst, ⊎_elim, arith}
use Rattle.std.specs.Prelude.{Option, flat_map}
use Rattle.std.specs.FinSet as set
use Rattle.std.proofs.lemmas.List.{append-nil}
use Rattle.std.proofs.lemmas.List.Concat.{flat_map-append}
use Rattle.design_base.specs.declared.query.Query.{Query}
use Rattle.design_base.specs.Cells.{cell_of}
use Rattle.design_base.specs.Limits.{in_bounds}
use Rattle.design_base.proofs.Numbering.{same_question}
use Rattle.rule_terms.specs.Rank.{rank}
use Rattle.rule_table.specs.Asked.{asked}
use Rattle.rule_table.specs.Closure.{reached, closure, cells_of, with_closure, IsClosed}
use Rattle.rule_table.specs.Progress.{Progress, answered_next}
use Rattle.rule_table.specs.Told.{Cells, Has, ToldAfter, KeptAfter}
use Rattle.rule_table.proofs.Closures.{reached_unfolds, closure_cells}
use Rattle.rule_table.proofs.Sets.{same_cells, insert_has, insert_keeps, insert_from, empty_has, union_left, union_right, union_from, append_left, append_right, append_from, cells_any}
use Rattle.rule_table.proofs.Told.{kept_then, kept_below, told_below}

-- the marks are those from before and the closures of what was answered
pub record Visiting (q : Query) (old : Cells) (e : Progress) (now : Cells) : Type 0 where
  pub question : e.question ≡ q
  pub marks : now ≡ set.union old (cells_of (flat_map reached e.answered))
  pub closed : IsClosed now

nothing_more : (s : Cells) → set.union s (cells_of []) ≡ s
nothing_more s =
    same_cells (set.union s (cells_of [])) s (λ i h. ⊎_elim (λ k. k) (λ k. none i k) (union_from s (cells_of []) i h)) (λ i h. union_left s (cells_of []) i h)
  where
    none : (i : ℕ) → Has (cells_of []) i → Has s i
    none i k = absurd (cc (sym (cells_any [] i) ∙ k))

more_and_more : (s : Cells) (ps qs : List Query) → set.union (set.union s (cells_of ps)) (cells_of qs) ≡ set.union s (cells_of (ps ++ qs))
more_and_more s ps qs = same_cells (set.union (set.union s (cells_of ps)) (cells_of qs)) (set.union s (cells_of (ps ++ qs))) to from
  where
    to : (i : ℕ) → Has (set.union (set.union s (cells_of ps)) (cells_of qs)) i → Has (set.union s (cells_of (ps ++ qs))) i
    to i h =
        ⊎_elim
        (λ k. ⊎_elim (λ l. union_left s (cells_of (ps ++ qs)) i l) (λ l. union_right s (cells_of (ps ++ qs)) i (append_left ps qs i l)) (union_from s (cells_of ps) i k))
        (λ k. union_right s (cells_of (ps ++ qs)) i (append_right ps qs i k))
        (union_from (set.union s (cells_of ps)) (cells_of qs) i h)

    from : (i : ℕ) → Has (set.union s (cells_of (ps ++ qs))) i → Has (set.union (set.union s (cells_of ps)) (cells_of qs)) i
    from i h =
        ⊎_elim
        (λ k. union_left (set.union s (cells_of ps)) (cells_of qs) i (union_left s (cells_of ps) i k))
        (λ k. ⊎_elim
        (λ l. union_left (set.union s (cells_of ps)) (cells_of qs) i (union_right s (cells_of ps) i l))
        (λ l. union_right (set.union s (cells_of ps)) (cells_of qs) i l)
        (append_from ps qs i k))
        (union_from s (cells_of (ps ++ qs)) i h)

-- no marks are closed
pub none_closed : (s : Cells) → s ≡ set.empty → IsClosed s
none_closed s none q b h i k = empty_has (Has s i) (cell_of q) (subst (λ (s : Cells). Has s (cell_of q)) none h)

-- before the first answer
pub visit_begins : (q : Query) (old : Cells) (e : Progress) → e.question ≡ q → e.answered ≡ [] → IsClosed old → Visiting q old e old
visit_begins q old e is none closed = record {
  question = is;
  marks = sym (ap (λ (ps : List Query). set.union old (cells_of (flat_map reached ps))) none ∙ nothing_more old);
  closed = closed;
}

-- one premise more was visited
pub visit_goes_on : (q p : Query) (old : Cells) (e : Progress) (now next : Cells) → Visiting q old e now → next ≡ with_closure now p → IsClosed next → Visiting q old (answered_next e p) next
visit_goes_on q p old e now next v m closed = record {
  question = v.question;
  marks = m ∙ ap (set.union now) (closure_cells p) ∙ ap (λ (s : Cells). set.union s (cells_of (reached p))) v.marks
      ∙ more_and_more old (flat_map reached e.answered) (reached p) ∙ ap (λ ps. set.union old (cells_of ps)) pushed;
  closed = closed;
}
  where
    pushed : flat_map reached e.answered ++ reached p ≡ flat_map reached (e.answered ++ p ∷ [])
    pushed = sym (flat_map-append reached e.answered (p ∷ []) ∙ ap (λ ps. flat_map reached e.answered ++ ps) (append-nil (reached p)))

-- the question itself is marked
pub visit_ends : (q : Query) (old : Cells) (e : Progress) (now : Cells) → in_bounds q ≡ true → Visiting q old e now → e.answered ≡ asked e.question → set.insert now (cell_of q) ≡ with_closure old q
visit_ends q old e now b v done =
    same_cells (set.insert now (cell_of q)) (with_closure old q) to from
  where
    all : cells_of (closure q) ≡ cells_of (q ∷ flat_map reached e.answered)
    all = closure_cells q ∙ ap cells_of (reached_unfolds q b ∙ ap (λ ps. q ∷ flat_map reached ps) (sym (done ∙ ap asked v.question)))

    to : (i : ℕ) → Has (set.insert now (cell_of q)) i → Has (with_closure old q) i
    to i h =
        ⊎_elim
        (λ s. union_right old (cells_of (closure q)) i (subst (λ (s : Cells). Has s i) (sym all) (subst (λ n. Has (cells_of (q ∷ flat_map reached e.answered)) n) (sym s) (insert_has (cells_of (flat_map reached e.answered)) (cell_of q)))))
        (λ k. ⊎_elim
        (λ l. union_left old (cells_of (closure q)) i l)
        (λ l. union_right old (cells_of (closure q)) i (subst (λ (s : Cells). Has s i) (sym all) (insert_keeps (cells_of (flat_map reached e.answered)) (cell_of q) i l)))
        (union_from old (cells_of (flat_map reached e.answered)) i (subst (λ (s : Cells). Has s i) v.marks k)))
        (insert_from now (cell_of q) i h)

    from : (i : ℕ) → Has (with_closure old q) i → Has (set.insert now (cell_of q)) i
    from i h =
        ⊎_elim
        (λ l. insert_keeps now (cell_of q) i (subst (λ (s : Cells). Has s i) (sym v.marks) (union_left old (cells_of (flat_map reached e.answered)) i l)))
        (λ l. ⊎_elim
        (λ n. subst (λ n. Has (set.insert now (cell_of q)) n) (sym n) (insert_has now (cell_of q)))
        (λ k. insert_keeps now (cell_of q) i (subst (λ (s : Cells). Has s i) (sym v.marks) (union_right old (cells_of (flat_map reached e.answered)) i k)))
        (insert_from (cells_of (flat_map reached e.answered)) (cell_of q) i (subst (λ (s : Cells). Has s i) all l)))
        (union_from old (cells_of (closure q)) i h)

-- and the marks are closed then
pub visit_closes : (q : Query) (old : Cells) (e : Progress) (now : Cells) → in_bounds q ≡ true → Visiting q old e now → e.answered ≡ asked e.question → IsClosed (set.insert now (cell_of q))
visit_closes q old e now b v done p c h i k =
    ⊎_elim
    (λ s. let same = same_question p q c b s in
    subst (λ (s : Cells). Has s i) (sym (visit_ends q old e now b v done)) (union_right old (cells_of (closure q)) i (subst (λ (x : Query). Has (cells_of (closure x)) i) same k)))
    (λ l. insert_keeps now (cell_of q) i (v.closed p c l i k))
    (insert_from now (cell_of q) (cell_of p) h)

-- a question that is marked already
pub visited_already : (q : Query) (old : Cells) → in_bounds q ≡ true → IsClosed old → Has old (cell_of q) → old ≡ with_closure old q
visited_already q old b closed h =
    same_cells old (with_closure old q) (λ i k. union_left old (cells_of (closure q)) i k)
    (λ i k. ⊎_elim (λ l. l) (λ l. closed q b h i l) (union_from old (cells_of (closure q)) i k))

-- an answer, and then a visit
pub kept_on : (p q : Query) (w x y z : Option Cells) (a b c d : ℕ) → in_bounds p ≡ true → rank p < rank q → KeptAfter q w x a b → ToldAfter p x y b c → KeptAfter p y z c d → KeptAfter q w z a d
kept_on p q w x y z a b c d i l k t m =
    kept_then q w y z a c d (kept_then q w x y a b c k (told_below p q x y b c i l t)) (kept_below p q y z c d (omega arith) m)
