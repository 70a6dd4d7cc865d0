-- The derivation of a question with a Yes verdict is sound.
use Rattle.std.proofs.Common.{◌≡◌, ℕ, zero, suc, ◌+◌, ◌-◌, ◌<◌, ◌≤◌, ◌⊎◌, inl, inr, Bool, true, false, ◌&&◌, List, [], ◌∷◌, ◌++◌, refl, ap, sym, subst, ◌∙◌, arith, length, length-append}
use Rattle.std.specs.Prelude.{Option, Some, None, slice_get}
use Rattle.std.specs.List.{AllByRecursion}
use Rattle.counting.proofs.Booleans.{cases_lt}
use Rattle.std.specs.Cmp.Derive.{both_true}
use Rattle.counting.specs.Search.{is_among}
use Rattle.design_base.specs.declared.query.Query.{Query}
use Rattle.design_base.specs.declared.verdict.Verdict.{Verdict}
use Rattle.design_base.specs.declared.verdict.Verdict.TheVariants.{Yes, No, Unknown}
use Rattle.design_base.specs.Limits.{in_bounds}
use Rattle.design_base.specs.Steps.{Step}
use Rattle.design_base.specs.Same.{same_query}
use Rattle.rule_table.specs.Candidates.{is_candidate, premises}
use Rattle.rule_terms.specs.Rank.{rank}
use Rattle.rule_table.specs.Verdicts.{verdict, is_yes}
use Rattle.rule_table.proofs.Chosen.{IsProved, IsChosen, chosen_of}
use Rattle.derivations.specs.declared.line.Line.{Line}
use Rattle.derivations.specs.declared.line.Fault.{Fault}
use Rattle.derivations.specs.Derivations.{line, Part, parts, unfolded, unfolded_by, derivation, derivation_behind, question_at, answers, surplus_from, fault, IsSound, last_question}
use Rattle.derivations.specs.declared.line.LineFault.TheVariants.{Surplus}
use Rattle.design_base.specs.Meets.{Meets}
use Rattle.derivations.specs.Derivations.{replayed}
use Rattle.derivations.proofs.Replays.{replayed_meets}
use Rattle.design_base.proofs.Same.{query_is}
use Rattle.derivations.proofs.Fine.{AreFine, named_by, fine_goes_on}
use Rattle.derivations.proofs.Numbers.{In, repeats, once_used, in_cons, in_head, in_tail, in_nil, once_cons, once_head, once_tail, backward_of}

-- the lines U stand in D behind `before` others
abbrev pub Stands : List Line → ℕ → List Line → Type 0
Stands D before U = (k : ℕ) → k < length U → slice_get D (before + k) ≡ slice_get U k

abbrev pub Bounded : ℕ → List ℕ → Type 0
Bounded before named = (j : ℕ) → In j named → (0 < j) × (j ≤ before)

-- The lines U, behind `before` lines that name the numbers `named`, are without fault.
-- They name each of their own lines once, but for the `left` ones, which the lines behind them are to name.
pub record Settled (D : List Line) (before : ℕ) (named : List ℕ) (U : List Line) (left : List ℕ) : Type 0 where
  pub fine : AreFine D (before + 1) named U
  pub within : (j : ℕ) → In j (left ++ named_by named U) → In j named ⊎ ((before < j) × (j ≤ before + length U))
  pub keeps : (j : ℕ) → In j named → In j (left ++ named_by named U)
  pub covers : (j : ℕ) → before < j → j ≤ before + length U → In j (left ++ named_by named U)
  pub once : repeats (left ++ named_by named U) ≡ false

-- the same of the lines that lead to one question
pub record Leads (D : List Line) (before : ℕ) (named : List ℕ) (U : List Line) (q : Query) : Type 0 where
  pub settled : Settled D before named U ((before + length U) ∷ [])
  pub some : 0 < length U
  pub question : question_at D (before + length U) ≡ Some q

-- and of those that lead to several
pub record LeadTo (D : List Line) (before : ℕ) (named : List ℕ) (U : List Line) (numbers : List ℕ) (ps : List Query) : Type 0 where
  pub settled : Settled D before named U numbers
  pub answered : answers D numbers ps ≡ true

abbrev LeadsBy : (ℕ → Query → List Line) → Query → Type 0
LeadsBy f q = (D : List Line) (before : ℕ) (named : List ℕ) → Stands D before (f before q) → Bounded before named → repeats named ≡ false → Leads D before named (f before q) q

named_by-append : (named : List ℕ) (U V : List Line) → named_by named (U ++ V) ≡ named_by (named_by named U) V
unfolding named_by
named_by-append named [] V = refl
named_by-append named (l ∷ U) V = named_by-append (l.from ++ named) U V

fine-append : (D : List Line) (i k : ℕ) (named : List ℕ) (U V : List Line) → k ≡ i + length U → AreFine D i named U → AreFine D k (named_by named U) V → AreFine D i named (U ++ V)
unfolding named_by
fine-append D i k named [] V e f g = let h : k ≡ i = omega arith in subst (λ n. AreFine D n named V) h g
fine-append D i k named (l ∷ U) V e f g = (f.0, fine-append D (i + 1) k (l.from ++ named) U V (omega arith) f.1 g)

get-left : (U V : List Line) (k : ℕ) → k < length U → slice_get (U ++ V) k ≡ slice_get U k
get-left [] V k h = absurd (omega arith)
get-left (l ∷ U) V zero h = refl
get-left (l ∷ U) V (suc k) h = get-left U V k (omega arith)

get-right : (U V : List Line) (k n : ℕ) → n ≡ length U + k → slice_get (U ++ V) n ≡ slice_get V k
get-right [] V k n e = let h : n ≡ k = omega arith in ap (λ x. slice_get V x) h
get-right (l ∷ U) V k zero e = absurd (omega arith)
get-right (l ∷ U) V k (suc n) e = get-right U V k n (omega arith)

stands-left : (D : List Line) (before : ℕ) (U V : List Line) → Stands D before (U ++ V) → Stands D before U
stands-left D before U V s k h = s k (simp length-append (omega arith)) ∙ get-left U V k h

stands-right : (D : List Line) (before : ℕ) (U V : List Line) → Stands D before (U ++ V) → Stands D (before + length U) V
stands-right D before U V s k h =
    let e : before + length U + k ≡ before + (length U + k) = omega arith in
    ap (λ n. slice_get D n) e ∙ s (length U + k) (simp length-append (omega arith)) ∙ get-right U V k (length U + k) refl

-- the record, where X is what the lines name
settled_as : (D : List Line) (before : ℕ) (named : List ℕ) (U : List Line) (left X : List ℕ) → X ≡ named_by named U → AreFine D (before + 1) named U
    → ((j : ℕ) → In j (left ++ X) → In j named ⊎ ((before < j) × (j ≤ before + length U)))
    → ((j : ℕ) → In j named → In j (left ++ X))
    → ((j : ℕ) → before < j → j ≤ before + length U → In j (left ++ X))
    → repeats (left ++ X) ≡ false
    → Settled D before named U left
settled_as D before named U left X e fine within keeps covers once = record {
  fine = fine;
  within = λ j h. within j (subst (λ Y. In j (left ++ Y)) (sym e) h);
  keeps = λ j h. subst (λ Y. In j (left ++ Y)) e (keeps j h);
  covers = λ j h k. subst (λ Y. In j (left ++ Y)) e (covers j h k);
  once = subst (λ Y. repeats (left ++ Y) ≡ false) e once;
}

answers_cons : (D : List Line) (i : ℕ) (is : List ℕ) (p : Query) (ps : List Query) → question_at D i ≡ Some p → answers D is ps ≡ true → answers D (i ∷ is) (p ∷ ps) ≡ true
unfolding answers
answers_cons D i is p ps e a = split (question_at D i) e
  where
    split : (o : Option Query) → o ≡ Some p → ◌≡◌ {A = Bool} (elim o [ Some q ↦ same_query q p && answers D is ps | None ↦ false ]) true
    split None e = cc
    split (Some q) e =
        let f : p ≡ q = cc in
        both_true (subst (λ x. same_query x p ≡ true) f (query_is p)) a

-- the lines for the first question, and then those for the others
together : (D : List Line) (before m : ℕ) (named : List ℕ) (own lines : List Line) (numbers : List ℕ) (p : Query) (ps : List Query) → m ≡ before + length own
    → repeats named ≡ false → Bounded before named
    → Leads D before named own p → LeadTo D m (named_by named own) lines numbers ps
    → LeadTo D before named (own ++ lines) (m ∷ numbers) (p ∷ ps)
together D before m named own lines numbers p ps e o b first others =
    let named1 : List ℕ = named_by named own in
    let X : List ℕ = named_by named1 lines in
    let all : List ℕ = numbers ++ X in
    let n : length (own ++ lines) ≡ length own + length lines = length-append own lines in
    let once1 : repeats (m ∷ named1) ≡ false = subst (λ k. repeats (k ∷ named1) ≡ false) (sym e) first.settled.once in
    let within1 = λ (j : ℕ) (h : In j (m ∷ named1)). first.settled.within j (subst (λ k. In j (k ∷ named1)) e h) in
    let covers1 = λ (j : ℕ) (h : before < j) (k : j ≤ before + length own). subst (λ k. In j (k ∷ named1)) (sym e) (first.settled.covers j h k) in
    let keeps1 = λ (j : ℕ) (h : In j named). subst (λ k. In j (k ∷ named1)) (sym e) (first.settled.keeps j h) in
    let new : In m all → ⊥ = λ h. elim (others.settled.within m h) [ inl w ↦ once_head m named1 once1 w | inr w ↦ omega arith ] in
    record {
      settled = settled_as D before named (own ++ lines) (m ∷ numbers) X (sym (named_by-append named own lines))
          (fine-append D (before + 1) (m + 1) named own lines (omega arith) first.settled.fine others.settled.fine)
          (λ j h. elim (in_cons j m all h) [
            | inl w ↦ (let c : before < j = omega (arith, first.some) in inr (c, omega arith))
            | inr w ↦ elim (others.settled.within j w) [
              | inl v ↦ elim (within1 j (in_tail j m named1 v)) [ inl u ↦ inl u | inr u ↦ inr (u.0, omega (arith, u.1)) ]
              | inr v ↦ inr (omega (arith, v.0), omega (arith, v.1))
            ]
          ])
          (λ j h. moved j m named1 all others.settled.keeps (keeps1 j h))
          (λ j h k. elim (cases_lt (before + length own) j) [
            | inr w ↦ moved j m named1 all others.settled.keeps (covers1 j h w)
            | inl w ↦ in_tail j m all (others.settled.covers j (omega arith) (omega arith))
          ])
          (once_cons m all new others.settled.once);
      answered = answers_cons D m numbers p ps (ap (λ k. question_at D k) e ∙ first.question) others.answered;
    }
  where
    moved : (j m : ℕ) (named1 all : List ℕ) → ((j : ℕ) → In j named1 → In j all) → In j (m ∷ named1) → In j (m ∷ all)
    moved j m named1 all keeps h = elim (in_cons j m named1 h) [ inl w ↦ subst (λ x. In x (m ∷ all)) (sym w) (in_head m all) | inr w ↦ in_tail j m all (keeps j w) ]

-- the lines for several questions, behind one another
several : (f : ℕ → Query → List Line) (r : ℕ) → ((p : Query) → IsProved r p → LeadsBy f p) → (ps : List Query) → AllByRecursion (IsProved r) ps
    → (D : List Line) (before : ℕ) (named : List ℕ) → Stands D before (parts f before ps).lines → Bounded before named → repeats named ≡ false
    → LeadTo D before named (parts f before ps).lines (parts f before ps).numbers ps
unfolding parts named_by answers
several f r H [] a D before named s b o = record {
  settled = record {
    fine = tt;
    within = λ j h. inl h;
    keeps = λ j h. h;
    covers = λ j h k. absurd (omega arith);
    once = o;
  };
  answered = refl;
}
several f r H (p ∷ ps) a D before named s b o =
    let own : List Line = f before p in
    let m : ℕ = before + length own in
    let rest : Part = parts f m ps in
    let first = H p a.0 D before named (stands-left D before own rest.lines s) b o in
    let named1 : List ℕ = named_by named own in
    let b1 : Bounded m named1 = λ j h. elim (first.settled.within j (in_tail j m named1 h)) [ inl w ↦ (let t = b j w in (t.0, omega (arith, t.1))) | inr w ↦ (omega (arith, w.0), w.1) ] in
    let others = several f r H ps a.1 D m named1 (stands-right D before own rest.lines s) b1 (once_tail m named1 first.settled.once) in
    together D before m named own rest.lines rest.numbers p ps refl o b first others

-- the lines for the premises, and then the question's own
own_line : (D : List Line) (before : ℕ) (named : List ℕ) (U : List Line) (q : Query) (t : Step) (numbers : List ℕ) → in_bounds q ≡ true → is_candidate q t ≡ true
    → Bounded before named → LeadTo D before named U numbers (premises q t) → Stands D before (U ++ line q t numbers ∷ []) → Leads D before named (U ++ line q t numbers ∷ []) q
unfolding named_by
own_line D before named U q t numbers b c w a s =
    let l : Line = line q t numbers in
    let X : List ℕ = numbers ++ named_by named U in
    let n : length (U ++ l ∷ []) ≡ length U + 1 = length-append U (l ∷ []) ∙ (omega arith) in
    let m : ℕ = before + length (U ++ l ∷ []) in
    let bounded = λ (j : ℕ) (h : In j X). bound j (w j) (a.settled.within j h) in
    record {
      settled = settled_as D before named (U ++ l ∷ []) (m ∷ []) X (sym (named_by-append named U (l ∷ [])))
          (fine-append D (before + 1) (before + 1 + length U) named U (l ∷ []) refl a.settled.fine (
            record {
              bounds = b;
              candidate = c;
              backward = backward_of (before + 1 + length U) numbers (named_by named U) (λ j h. (((bounded j h).0), omega (arith, (bounded j h).1)));
              answered = a.answered;
              once = once_used numbers (named_by named U) a.settled.once;
            },
            tt,
          ))
          (λ j h. elim (in_cons j m X h) [
            | inl v ↦ (let d : before < j = omega arith in inr (d, omega arith))
            | inr v ↦ elim (a.settled.within j v) [ inl u ↦ inl u | inr u ↦ inr (u.0, omega (arith, u.1)) ]
          ])
          (λ j h. in_tail j m X (a.settled.keeps j h))
          (λ j h k. elim (cases_lt (before + length U) j) [
            | inr v ↦ in_tail j m X (a.settled.covers j h v)
            | inl v ↦ (let d : m ≡ j = omega arith in subst (λ x. In x (m ∷ X)) d (in_head m X))
          ])
          (once_cons m X (λ h. let d = bounded m h in omega (arith, d.1)) a.settled.once);
      some = omega arith;
      question = last_at D before U l m n s;
    }
  where
    bound : (j : ℕ) → (In j named → (0 < j) × (j ≤ before)) → In j named ⊎ ((before < j) × (j ≤ before + length U)) → (0 < j) × (j ≤ before + length U)
    bound j w (inl h) = let t = w h in (t.0, omega (arith, t.1))
    bound j w (inr h) = (omega (arith, h.0), h.1)

    last_at : (D : List Line) (before : ℕ) (U : List Line) (l : Line) (m : ℕ) → length (U ++ l ∷ []) ≡ length U + 1 → Stands D before (U ++ l ∷ [])
        → question_at D (before + length (U ++ l ∷ [])) ≡ Some l.query
    last_at D before U l m n s =
        let e : before + length (U ++ l ∷ []) - 1 ≡ before + length U = omega arith in
        let g : slice_get D (before + length (U ++ l ∷ []) - 1) ≡ Some l = ap (λ k. slice_get D k) e ∙ s (length U) (omega arith) ∙ get-right U (l ∷ []) 0 (length U) (omega arith) in
        ap (λ o. elim o [ Some l ↦ Some l.query | None ↦ None ]) g

-- the lines that lead to a question with a Yes verdict
leads : (n : ℕ) (q : Query) → in_bounds q ≡ true → rank q < n → is_yes (verdict q) ≡ true → LeadsBy (unfolded n) q
unfolding unfolded named_by
leads zero q b h y D before named s w o = absurd (omega arith)
leads (suc n) q b h y D before named s w o =
    by_verdict (verdict q) refl y s
    (λ p a. leads n p a.0 (omega (arith, a.1)) a.2)
  where
    by_step : (t : Step) → IsChosen q t → ((p : Query) → IsProved (rank q) p → LeadsBy (unfolded n) p) → Stands D before (unfolded_by (unfolded n) before q (Yes t))
        → Leads D before named (unfolded_by (unfolded n) before q (Yes t)) q
    by_step t c H s =
        let part : Part = parts (unfolded n) before (premises q t) in
        let l : Line = line q t part.numbers in
        let a = several (unfolded n) (rank q) H (premises q t) c.proved D before named (stands-left D before part.lines (l ∷ []) s) w o in
        own_line D before named part.lines q t part.numbers b c.candidate w a s

    by_verdict : (v : Verdict) → v ≡ verdict q → is_yes v ≡ true → Stands D before (unfolded_by (unfolded n) before q v)
        → ((p : Query) → IsProved (rank q) p → LeadsBy (unfolded n) p) → Leads D before named (unfolded_by (unfolded n) before q v) q
    by_verdict (Yes t) e y s H = by_step t (chosen_of q t b (sym e)) H s
    by_verdict (No c) e y s H = cc
    by_verdict Unknown e y s H = cc

-- each line but the last is named
no_surplus : (i : ℕ) (named : List ℕ) (D : List Line) → ((j : ℕ) → i ≤ j → j + 1 < i + length D → In j named) → surplus_from i named D ≡ None
unfolding surplus_from
no_surplus i named [] h = refl
no_surplus i named (l ∷ []) h = refl
no_surplus i named (l ∷ m ∷ rest) h =
    split (is_among i named) (h i (omega arith) (omega arith)) (no_surplus (i + 1) named (m ∷ rest) (λ j a b. h j (omega arith) (omega arith)))
  where
    split : (b : Bool) → b ≡ true → surplus_from (i + 1) named (m ∷ rest) ≡ None
        → ◌≡◌ {A = Option Fault} (elim b [ true ↦ surplus_from (i + 1) named (m ∷ rest) | false ↦ Some (record { number = i; fault = Surplus }) ]) None
    split true e r = r
    split false e r = cc

-- lines that lead to a question, from the first on, are a sound derivation of it
lead_soundly : (U : List Line) (q : Query) → Leads U 0 [] U q → IsSound U × (last_question U ≡ Some q)
unfolding fault
lead_soundly U q a = (record { some_line = a.some; no_fault = fine_goes_on U 1 [] U fine ∙ no_surplus 1 (named_by [] U) U named }, question)
  where
    zero_plus : (n : ℕ) → 0 + n ≡ n
    zero_plus n = omega arith

    fine : AreFine U 1 [] U
    fine = a.settled.fine

    named : (j : ℕ) → 1 ≤ j → j + 1 < 1 + length U → In j (named_by [] U)
    named j h k = elim (in_cons j (0 + length U) (named_by [] U) (a.settled.covers j (omega arith) (omega arith))) [ inl w ↦ absurd (omega arith) | inr w ↦ w ]

    question : last_question U ≡ Some q
    question = subst (λ n. question_at U n ≡ Some q) (zero_plus (length U)) a.question

-- The derivation of a question in bounds with a Yes verdict is sound, and its last question is the question.
pub derivation_is_sound : (q : Query) → in_bounds q ≡ true → is_yes (verdict q) ≡ true → IsSound (derivation q) × (last_question (derivation q) ≡ Some q)
unfolding derivation derivation_behind repeats
derivation_is_sound q b y =
    lead_soundly (derivation q) q
    (leads (rank q + 1) q b (omega arith) y (derivation q) 0 []
    (λ k h. let e : 0 + k ≡ k = omega arith in ap (λ n. slice_get (derivation q) n) e)
    (λ j h. absurd (in_nil j h)) refl)

-- A Yes verdict means that there is a design.
pub yes_has_a_design : (q : Query) → in_bounds q ≡ true → is_yes (verdict q) ≡ true → Meets q (replayed (derivation q))
yes_has_a_design q b y = let s = derivation_is_sound q b y in replayed_meets (derivation q) s.0 q s.1
