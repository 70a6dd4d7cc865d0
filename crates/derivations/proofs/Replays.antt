-- A sound derivation replays to a list that meets its last question.
use Rattle.std.proofs.Common.{◌≡◌, ℕ, zero, suc, ◌+◌, ◌-◌, ◌<◌, Bool, true, false, ◌&&◌, List, [], ◌∷◌, ◌++◌, refl, sym, subst, arith, length, map, append_assoc, length-append}
use Rattle.std.proofs.lemmas.List.{append-nil}
use Rattle.std.specs.Prelude.{Option, Some, None, slice_get, slice_index_or}
use Rattle.std.specs.List.{list_all}
use Rattle.counting.proofs.Booleans.{both}
use Rattle.design_base.specs.declared.query.Query.{Query}
use Rattle.design_base.specs.Limits.{in_bounds}
use Rattle.design_base.specs.Meets.{Meets}
use Rattle.design_base.specs.Same.{same_query}
use Rattle.rule_table.specs.Candidates.{premises}
use Rattle.derivations.specs.Blocks.{blocks}
use Rattle.derivations.specs.AllMeet.{AllMeet}
use Rattle.derivations.specs.declared.line.Line.{Line}
use Rattle.derivations.specs.Derivations.{comes_before, question_at, answers, lists_named, lists_from, replayed, IsSound, last_question, fault}
use Rattle.derivations.proofs.Numbers.{before_of}
use Rattle.design_base.proofs.Same.{query_same}
use Rattle.derivations.proofs.Meeting.{step_meets}
use Rattle.derivations.proofs.Fine.{AreFine, all_fine}

abbrev pub Answered : List Line → List (List (List ℕ)) → Type 0
Answered D done = AllMeet (map (λ l. l.query) D) done

pub snoc_answered : (D : List Line) (done : List (List (List ℕ))) (l : Line) (B : List (List ℕ)) → Answered D done → Meets l.query B → Answered (D ++ l ∷ []) (done ++ B ∷ [])
snoc_answered [] [] l B a m = (m, tt)
snoc_answered [] (C ∷ Cs) l B a m = absurd a
snoc_answered (d ∷ ds) [] l B a m = absurd a
snoc_answered (d ∷ ds) (C ∷ Cs) l B a m = (a.0, snoc_answered ds Cs l B a.1 m)

pub meets_at : (D rest : List Line) (done : List (List (List ℕ))) → Answered D done → (j : ℕ) → j < length D → (q : Query)
    → ◌≡◌ {A = Option Query} (elim (slice_get (D ++ rest) j) [ Some l ↦ Some l.query | None ↦ None ]) (Some q) → Meets q (slice_index_or done j [])
meets_at [] rest done a j h q e = absurd (omega arith)
meets_at (d ∷ ds) rest [] a j h q e = absurd a
meets_at (d ∷ ds) rest (C ∷ Cs) a zero h q e = let f : d.query ≡ q = cc in subst (λ x. Meets x C) f a.0
meets_at (d ∷ ds) rest (C ∷ Cs) a (suc j) h q e = meets_at ds rest Cs a.1 j (omega arith) q e

pub named_meet : (D rest : List Line) (done : List (List (List ℕ))) → Answered D done → (i : ℕ) → i ≡ length D + 1 → (is : List ℕ) (ps : List Query)
    → list_all (comes_before i) is ≡ true → answers (D ++ rest) is ps ≡ true → AllMeet ps (lists_named done is)
unfolding answers
named_meet D rest done a i n [] [] b e = tt
named_meet D rest done a i n [] (p ∷ ps) b e = cc
named_meet D rest done a i n (j ∷ is) [] b e = cc
named_meet D rest done a i n (j ∷ is) (p ∷ ps) b e =
    let c = both (comes_before i j) (list_all (comes_before i) is) b in
    named (question_at (D ++ rest) j) refl (before_of i j c.0) (named_meet D rest done a i n is ps c.1) e
  where
    named : (o : Option Query) → o ≡ question_at (D ++ rest) j → (0 < j) × (j < i) → (answers (D ++ rest) is ps ≡ true → AllMeet ps (lists_named done is))
        → ◌≡◌ {A = Bool} (elim o [ Some q ↦ same_query q p && answers (D ++ rest) is ps | None ↦ false ]) true
        → Meets p (slice_index_or done (j - 1) []) × AllMeet ps (lists_named done is)
    named None o w r e = cc
    named (Some q) o w r e =
        let t = both (same_query q p) (answers (D ++ rest) is ps) e in
        let f : q ≡ p = query_same q p t.0 in
        (subst (λ x. Meets x (slice_index_or done (j - 1) [])) f (meets_at D rest done a (j - 1) (omega arith) q (sym o)), r t.1)

-- behind lines that are answered, the lists of lines without a fault meet their questions
lists_meet : (D rest : List Line) (done : List (List (List ℕ))) (i : ℕ) (named : List ℕ) → i ≡ length D + 1 → Answered D done
    → AreFine (D ++ rest) i named rest → Answered (D ++ rest) (lists_from done rest)
unfolding lists_from
lists_meet D [] done i named n a f = subst (λ E. Answered E done) (sym (append-nil D)) a
lists_meet D (l ∷ rest) done i named n a f =
    let B : List (List ℕ) = blocks l.query l.step (lists_named done l.from) in
    let m : Meets l.query B = step_meets l.query l.step (lists_named done l.from) f.0.bounds f.0.candidate
    (named_meet D (l ∷ rest) done a i n l.from (premises l.query l.step) f.0.backward f.0.answered) in
    let e : (D ++ l ∷ []) ++ rest ≡ D ++ l ∷ rest = simp append_assoc in
    subst (λ E. Answered E (lists_from (done ++ B ∷ []) rest)) e
    (lists_meet (D ++ l ∷ []) rest (done ++ B ∷ []) (i + 1) (l.from ++ named) (simp length-append (omega arith)) (snoc_answered D done l B a m)
    (subst (λ E. AreFine E (i + 1) (l.from ++ named) rest) (sym e) f.1))

-- the lists of a sound derivation meet the questions of its lines
pub sound_lists_meet : (D : List Line) → IsSound D → Answered D (lists_from [] D)
unfolding fault
sound_lists_meet D s = lists_meet [] D [] 1 [] (refl) tt (all_fine D 1 [] D s.no_fault)

-- Any sound derivation replays to a list that meets the definition of its last question.
pub replayed_meets : (D : List Line) → IsSound D → (q : Query) → last_question D ≡ Some q → Meets q (replayed D)
unfolding replayed
replayed_meets D s q e =
    let a = sound_lists_meet D s in
    let p = s.some_line in
    meets_at D [] (lists_from [] D) a (length D - 1) (omega arith) q (subst (λ E. question_at E (length D) ≡ Some q) (sym (append-nil D)) e)

-- the questions of lines without a fault are in bounds
fine_bounds : (D : List Line) (i : ℕ) (named : List ℕ) (ls : List Line) → AreFine D i named ls → (j : ℕ) (l : Line) → slice_get ls j ≡ Some l → in_bounds l.query ≡ true
fine_bounds D i named [] f j m e = cc
fine_bounds D i named (l ∷ rest) f zero m e = let same : l ≡ m = cc in subst (λ x. in_bounds x.query ≡ true) same f.0.bounds
fine_bounds D i named (l ∷ rest) f (suc j) m e = fine_bounds D (i + 1) (l.from ++ named) rest f.1 j m e

pub sound_bounds : (D : List Line) → IsSound D → (j : ℕ) (l : Line) → slice_get D j ≡ Some l → in_bounds l.query ≡ true
unfolding fault
sound_bounds D s = fine_bounds D 1 [] D (all_fine D 1 [] D s.no_fault)
