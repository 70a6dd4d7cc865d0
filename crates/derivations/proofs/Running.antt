-- Replaying, one line after another.
use Rattle.std.proofs.Common.{◌≡◌, ◌≢◌, ℕ, zero, suc, ◌+◌, ◌-◌, ◌<◌, ◌≤◌, ◌⊎◌, inl, inr, true, false, List, [], ◌∷◌, ◌++◌, arith, refl, ap, sym, subst, ◌∙◌, length, get_or, drop, take, add-one, drop-cons, append_assoc, length-append}
use Rattle.std.specs.Prelude.{slice_index_or, Option, Some, None, All}
use Rattle.std.specs.List.{list_all}
use Rattle.std.proofs.Math.Seq.{get_or-append_seam, take-length}
use Rattle.counting.proofs.Booleans.{both, cases_lt, false_from_ne_true}
use Rattle.std.proofs.lemmas.List.{append-nil, drop_all, get_or_append_left}
use Rattle.counting.specs.Search.{is_among}
use Rattle.design_base.specs.declared.query.Query.{Query}
use Rattle.design_base.specs.Meets.{Meets}
use Rattle.rule_table.specs.Candidates.{premises}
use Rattle.derivations.specs.declared.line.Line.{Line}
use Rattle.derivations.specs.Blocks.{blocks}
use Rattle.derivations.specs.AllMeet.{AllMeet}
use Rattle.derivations.specs.Derivations.{comes_before, question_at, answers, lists_named, lists_from, replayed, IsSound, last_question, fault}
use Rattle.derivations.specs.Kept.{IsKept, kept_lists}
use Rattle.derivations.proofs.Keeping.{Kept, are_kept, kept_are, others_kept}
use Rattle.derivations.proofs.Fine.{IsFine, AreFine, all_fine}
use Rattle.derivations.proofs.Replays.{Answered, snoc_answered, named_meet, meets_at}
use Rattle.derivations.proofs.Numbers.{In, before_of, in_cons, in_nil}

pub record Running (D : List Line) (k : ℕ) (kept : List (Option (List (List ℕ)))) : Type 0 where
  pub before : List Line
  pub lists : List (List (List ℕ))
  pub named : List ℕ
  pub whole : D ≡ before ++ drop k D
  pub count : length before ≡ k
  pub answered : Answered before lists
  pub fine : AreFine D (k + 1) named (drop k D)
  pub rest : lists_from [] D ≡ lists_from lists (drop k D)
  pub left : Kept lists named kept
  pub below : (j : ℕ) → In j named → j < k

pub running_begins : (D : List Line) → IsSound D → Running D 0 []
unfolding fault
running_begins D s = record {
  before = [];
  lists = [];
  named = [];
  whole = refl;
  count = refl;
  answered = tt;
  fine = all_fine D 1 [] D s.no_fault;
  rest = refl;
  left = record { size = refl; held = λ j h n. absurd (omega arith) };
  below = λ j h. absurd (in_nil j h);
}

answered-length : (D : List Line) (done : List (List (List ℕ))) → Answered D done → length done ≡ length D
answered-length [] [] a = refl
answered-length [] (C ∷ Cs) a = absurd a
answered-length (d ∷ ds) [] a = absurd a
answered-length (d ∷ ds) (C ∷ Cs) a = ap suc (answered-length ds Cs a.1)

at_place : (D : List Line) (k : ℕ) (l : Line) → k < length D → l ≡ get_or D k l → drop k D ≡ l ∷ drop (k + 1) D
at_place D k l h e = rw (add-one, drop-cons D k l) (ap (λ y. y ∷ drop (suc k) D) (sym e))

-- what is known of the next line
pub record Next (D : List Line) (k : ℕ) (l : Line) (kept : List (Option (List (List ℕ)))) (lists : List (List (List ℕ))) (named : List ℕ) : Type 0 where
  pub fine : IsFine D (k + 1) named l
  pub ingredients : AllMeet (premises l.query l.step) (lists_named lists l.from)
  pub each : All (λ j. (0 < j) × (j ≤ length kept)) l.from

tested : (i : ℕ) (xs : List ℕ) → list_all (comes_before i) xs ≡ true → (k d : ℕ) → k < length xs → (0 < get_or xs k d) × (get_or xs k d < i)
tested i [] e k d h = absurd (omega arith)
tested i (x ∷ xs) e zero d h = before_of i x (both (comes_before i x) (list_all (comes_before i) xs) e).0
tested i (x ∷ xs) e (suc k) d h = tested i xs (both (comes_before i x) (list_all (comes_before i) xs) e).1 k d (omega arith)

next_line : (D : List Line) (k : ℕ) (l : Line) (kept : List (Option (List (List ℕ)))) → k < length D → l ≡ get_or D k l → (r : Running D k kept) → Next D k l kept r.lists r.named
next_line D k l kept h e r =
    let d : drop k D ≡ l ∷ drop (k + 1) D = at_place D k l h e in
    let f : AreFine D (k + 1) r.named (l ∷ drop (k + 1) D) = subst (λ ys. AreFine D (k + 1) r.named ys) d r.fine in
    let w : answers (r.before ++ drop k D) l.from (premises l.query l.step) ≡ true = subst (λ E. answers E l.from (premises l.query l.step) ≡ true) r.whole f.0.answered in
    record {
      fine = f.0;
      ingredients = named_meet r.before (drop k D) r.lists r.answered (k + 1) (omega (arith, r.count)) l.from (premises l.query l.step) f.0.backward w;
      each = λ j d h. let t = tested (k + 1) l.from f.0.backward j d h in (t.0, omega (arith, t.1, r.left.size, answered-length r.before r.lists r.answered, r.count));
    }

snoc_last : (X : Type 0) (xs : List X) (x d : X) (j : ℕ) → j ≡ length xs → get_or (xs ++ x ∷ []) j d ≡ x
snoc_last X xs x d j e = ap (λ i. get_or (xs ++ x ∷ []) i d) e ∙ get_or-append_seam xs x [] d

in_either : (j : ℕ) (xs ys : List ℕ) → In j (xs ++ ys) → ((k : ℕ) × (k < length xs) × (get_or xs k 0 ≡ j)) ⊎ In j ys
in_either j [] ys h = inr h
in_either j (x ∷ xs) ys h = elim (in_cons j x (xs ++ ys) h) [
  | inl e ↦ inl (0, omega arith, sym e)
  | inr w ↦ elim (in_either j xs ys w) [ inl t ↦ inl (suc t.0, omega (arith, t.1), t.2) | inr v ↦ inr v ]
]

pub running_goes_on : (D : List Line) (k : ℕ) (l : Line) (kept kept' : List (Option (List (List ℕ)))) (B : List (List ℕ)) → k < length D → l ≡ get_or D k l → (r : Running D k kept)
    → length kept' ≡ length kept → ((j : ℕ) → All (λ i. i ≢ j + 1) l.from → slice_index_or kept' j None ≡ slice_index_or kept j None) → B ≡ blocks l.query l.step (lists_named r.lists l.from) → Meets l.query B → Running D (k + 1) (kept' ++ Some B ∷ [])
unfolding lists_from
running_goes_on D k l kept kept' B h e r size same b m =
    let d : drop k D ≡ l ∷ drop (k + 1) D = at_place D k l h e in
    let f : AreFine D (k + 1) r.named (l ∷ drop (k + 1) D) = subst (λ ys. AreFine D (k + 1) r.named ys) d r.fine in
    let t : Kept r.lists (l.from ++ r.named) kept' = others_kept r.lists r.named l.from kept kept' r.left size same in
    let n : length r.lists ≡ k = answered-length r.before r.lists r.answered ∙ r.count in
    record {
      before = r.before ++ l ∷ [];
      lists = r.lists ++ B ∷ [];
      named = l.from ++ r.named;
      whole = r.whole ∙ ap (λ ys. r.before ++ ys) d ∙ simp append_assoc;
      count = simp length-append (omega (arith, r.count));
      answered = snoc_answered r.before r.lists l B r.answered m;
      fine = f.1;
      rest = r.rest ∙ ap (λ ys. lists_from r.lists ys) d ∙ ap (λ C. lists_from (r.lists ++ C ∷ []) (drop (k + 1) D)) (sym b);
      left = record {
        size = simp length-append (omega (arith, t.size));
        held = λ j i a. held t n j i a;
      };
      below = λ j i. elim (in_either j l.from r.named i) [
        | inl w ↦ (let s = tested (k + 1) l.from f.0.backward w.0 0 w.1 in omega (arith, s.1, w.2))
        | inr w ↦ omega (arith, r.below j w)
      ];
    }
  where
    held : Kept r.lists (l.from ++ r.named) kept' → length r.lists ≡ k → (j : ℕ) → j < length (r.lists ++ B ∷ []) → is_among (j + 1) (l.from ++ r.named) ≡ false → slice_index_or (kept' ++ Some B ∷ []) j None ≡ Some (slice_index_or (r.lists ++ B ∷ []) j [])
    held t n j i a = elim (cases_lt j (length r.lists)) [
      | inl w ↦ get_or_append_left kept' (Some B ∷ []) None j (omega (arith, t.size)) ∙ t.held j w a ∙ ap Some (sym (get_or_append_left r.lists (B ∷ []) [] j w))
      | inr w ↦ (let q : j ≡ length r.lists = omega (arith, length-append r.lists (B ∷ [])) in
          snoc_last (Option (List (List ℕ))) kept' (Some B) None j (q ∙ sym t.size) ∙ ap Some (sym (snoc_last (List (List ℕ)) r.lists B [] j q)))
    ]

pub running_ends : (D : List Line) (k : ℕ) (kept : List (Option (List (List ℕ)))) → k ≡ length D → 0 < length D → Running D k kept
    → (length kept ≡ length D) × (slice_index_or kept (length D - 1) None ≡ Some (replayed D))
unfolding lists_from replayed
running_ends D k kept e h r =
    let n : length r.lists ≡ k = answered-length r.before r.lists r.answered ∙ r.count in
    let d : drop k D ≡ [] = drop_all k D (omega arith) in
    let a : r.lists ≡ lists_from [] D = sym (r.rest ∙ ap (λ ys. lists_from r.lists ys) d) in
    let z : length D - 1 + 1 ≡ k = omega arith in (
      r.left.size ∙ n ∙ e,
      r.left.held (length D - 1) (omega arith) (ap (λ j. is_among j r.named) z ∙ false_from_ne_true (is_among k r.named) (λ i. omega (arith, r.below k i)))
          ∙ ap (λ (Ls : List (List (List ℕ))). Some (slice_index_or Ls (length D - 1) [])) a,
    )

-- and that list meets the last question
pub running_meets : (D : List Line) (k : ℕ) (kept : List (Option (List (List ℕ)))) → k ≡ length D → 0 < length D → Running D k kept → (q : Query) → last_question D ≡ Some q → Meets q (replayed D)
unfolding lists_from replayed
running_meets D k kept e h r q l =
    let d : drop k D ≡ [] = drop_all k D (omega arith) in
    let a : lists_from [] D ≡ r.lists = r.rest ∙ ap (λ ys. lists_from r.lists ys) d in
    let w : D ≡ r.before = r.whole ∙ ap (λ ys. r.before ++ ys) d ∙ append-nil r.before in
    let b : Answered D (lists_from [] D) = subst (λ Ls. Answered D Ls) (sym a) (subst (λ E. Answered E r.lists) (sym w) r.answered) in
    meets_at D [] (lists_from [] D) b (length D - 1) (omega arith) q (subst (λ E. question_at E (length D) ≡ Some q) (sym (append-nil D)) l)

-- what is known of the next line, where the kept lists go by another name
pub record Ready (D : List Line) (k : ℕ) (l : Line) (kept : List (Option (List (List ℕ)))) (lists : List (List (List ℕ))) (named : List ℕ) : Type 0 where
  pub fine : IsFine D (k + 1) named l
  pub each : All (λ j. (0 < j) × (j ≤ length kept)) l.from
  pub are_there : All (IsKept kept) l.from
  pub lists_are : kept_lists kept l.from ≡ lists_named lists l.from
  pub ingredients : AllMeet (premises l.query l.step) (kept_lists kept l.from)

pub ready : (D : List Line) (k : ℕ) (l : Line) (kept kept' : List (Option (List (List ℕ)))) → k < length D → l ≡ get_or D k l → kept' ≡ kept → (r : Running D k kept)
    → Ready D k l kept' r.lists r.named
ready D k l kept kept' h e g r =
    let n = next_line D k l kept h e r in
    let same : kept_lists kept l.from ≡ lists_named r.lists l.from = kept_are r.lists r.named l.from kept r.left n.fine.once n.each in
    subst (λ Ks. Ready D k l Ks r.lists r.named) (sym g) (record {
      fine = n.fine;
      each = n.each;
      are_there = are_kept r.lists r.named l.from kept r.left n.fine.once n.each;
      lists_are = same;
      ingredients = subst (AllMeet (premises l.query l.step)) (sym same) n.ingredients;
    })

-- a list that was lent whole
pub refilled : (X : Type 0) (n : ℕ) (xs ys : List X) → n ≡ length ys → length ys ≡ length xs → take n (ys ++ drop (length ys) xs) ≡ ys
refilled X n xs ys e f =
    let d : drop (length ys) xs ≡ [] = drop_all (length ys) xs (omega arith) in
    ap (λ zs. take n (ys ++ zs)) d ∙ ap (λ zs. take n zs) (append-nil ys) ∙ ap (λ m. take m ys) e ∙ take-length ys

-- the last of the kept lists is that of the last line
pub last_is : (D : List Line) (k n : ℕ) (kept : List (Option (List (List ℕ)))) (p : Option (Option (List (List ℕ)))) → k ≡ length D → 0 < length D → n ≡ length kept
    → ((d : Option (List (List ℕ))) → 0 < n → p ≡ Some (slice_index_or kept (n - 1) d)) → Running D k kept → p ≡ Some (Some (replayed D))
last_is D k n kept p e h f v r =
    let t = running_ends D k kept e h r in
    let i : n - 1 ≡ length D - 1 = omega (arith, t.0) in
    v None (omega (arith, t.0)) ∙ ap (λ j. Some (slice_index_or kept j None)) i ∙ ap Some t.1
