-- The turns of an evaluation: what it asks next, what it answers at the end, and where a verdict brings it.
use Rattle.std.proofs.Common.{◌≡◌, ℕ, zero, suc, ◌+◌, ◌-◌, ◌<◌, ◌≤◌, Bool, true, false, List, [], ◌∷◌, ◌++◌, arith, refl, length, ap, sym, ◌∙◌, subst, take, drop, append_assoc, length-append, length-drop, get_or}
use Rattle.std.specs.Prelude.{Option, Some, None}
use Rattle.std.specs.List.{AllByRecursion}
use Rattle.std.proofs.lemmas.List.{append_cancel_left, append-nil, take_at, drop_more, drop_all, drop-drop}
use Rattle.counting.specs.Search.{first_in, each_passes}
use Rattle.design_base.specs.declared.limits.TheConstants.{PREMISES_MAX}
use Rattle.design_base.specs.declared.query.Query.{Query}
use Rattle.design_base.specs.declared.verdict.Criterion.{Criterion}
use Rattle.design_base.specs.declared.verdict.Verdict.{Verdict}
use Rattle.design_base.specs.declared.verdict.Verdict.TheVariants.{Yes, No, Unknown}
use Rattle.design_base.specs.Limits.{in_bounds}
use Rattle.design_base.specs.Rules.{rules}
use Rattle.design_base.specs.Steps.{Step}
use Rattle.criteria.specs.Criteria.{criterion_of}
use Rattle.rule_table.specs.Asked.{asked, asked_by, asked_through}
use Rattle.rule_table.specs.Candidates.{candidates, premises, is_candidate}
use Rattle.rule_table.specs.Progress.{Progress, AsksNext, IsPlace, IsSound, TellsNext, answered_next, are_yes, asked_from, asked_still, first_proved, found_from, progress}
use Rattle.rule_terms.specs.Rank.{rank}
use Rattle.rule_table.specs.Verdicts.{first_step, is_yes, verdict, yes_or_unknown}
use Rattle.rule_table.specs.Walks.{head, steps_after, steps_from, steps_of}
use Rattle.rule_table.proofs.Followed.{from_first, from_next}
use Rattle.rule_table.proofs.Each.{each-both}
use Rattle.rule_table.proofs.Meanings.{judged_by, verdict_by}
use Rattle.rule_table.proofs.Passing.{IsBelow, candidates_are, candidates_fall, premises_few}

-- the questions asked for, by the criterion

abbrev asked_as : Query → Option Criterion → List Query
asked_as q (Some c) = []
asked_as q None = asked_by q (candidates q)

asked-as : (q : Query) → asked q ≡ asked_as q (criterion_of q)
unfolding asked
asked-as q = by (criterion_of q)
  where
    by : (o : Option Criterion) → ◌≡◌ {A = List Query} (elim o [ Some c ↦ [] | None ↦ asked_by q (candidates q) ]) (asked_as q o)
    by (Some c) = refl
    by None = refl

-- what is behind a place in a list

module _ {X : Type 0} where
  each-drop : (P : X → Type 0) (i : ℕ) (xs : List X) → AllByRecursion P xs → AllByRecursion P (drop i xs)
  each-drop P zero xs a = a
  each-drop P (suc i) [] a = tt
  each-drop P (suc i) (x ∷ xs) a = each-drop P i xs a.1

  drop-next : (i : ℕ) (xs more : List X) (x : X) → drop i xs ≡ x ∷ more → drop (i + 1) xs ≡ more
  drop-next i xs more x e = sym (drop-drop 1 i xs) ∙ ap (drop 1) e

-- what was answered stands in front of what is left
answered_is : (q : Query) (c : Option Criterion) (next : Option Step) (i : ℕ) (front : List Query) → asked q ≡ front ++ asked_still q c next i
    → (progress q c next i).answered ≡ front
unfolding progress
answered_is q c next i front e =
    let l : length (asked q) ≡ length front + length (asked_still q c next i) = ap length e ∙ length-append front (asked_still q c next i) in
    let n : length front ≡ length (asked q) - length (asked_still q c next i) = omega arith in
    ap (take (length (asked q) - length (asked_still q c next i))) e ∙ take_at front (asked_still q c next i) (length (asked q) - length (asked_still q c next i)) n

-- where nothing is left, all were answered
all_answered : (q : Query) (c : Option Criterion) (next : Option Step) (i : ℕ) → IsPlace q c next i → asked_still q c next i ≡ [] → (progress q c next i).answered ≡ asked q
all_answered q c next i h e =
    let b = h.asked_before in
    answered_is q c next i b.0 b.1 ∙ sym (b.1 ∙ ap (λ l. b.0 ++ l) e ∙ append-nil b.0)

-- the end, as seen of an evaluation

pub record IsDone (e : Progress) (v : Verdict) : Type 0 where
  pub right : v ≡ verdict e.question
  pub complete : e.answered ≡ asked e.question

done_as : (q : Query) (c : Option Criterion) (next : Option Step) (i : ℕ) (v : Verdict) → IsPlace q c next i → v ≡ judged_by q c → asked_still q c next i ≡ [] → IsDone (progress q c next i) v
unfolding progress
done_as q c next i v h e k = record {
  right = e ∙ ap (judged_by q) h.reason ∙ sym (verdict_by q h.bounds);
  complete = all_answered q c next i h k;
}

pub no_done : (e : Progress) (q : Query) (c : Option Criterion) (next : Option Step) (i : ℕ) (r : Criterion) → progress q c next i ≡ e → IsPlace q c next i → c ≡ Some r → IsDone e (No r)
unfolding asked_still
no_done e q (Some s) next i r view h k = subst (λ (e : Progress). IsDone e (No r)) view (done_as q (Some s) next i (No r) h (cc) refl)
no_done e q None next i r view h k = absurd (cc)

pub unknown_done : (e : Progress) (q : Query) (c : Option Criterion) (next : Option Step) (i : ℕ) → progress q c next i ≡ e → IsPlace q c next i → c ≡ None → next ≡ None → IsDone e Unknown
unfolding asked_still asked_from found_from
unknown_done e q None None i view h k n =
    subst (λ (e : Progress). IsDone e Unknown) view (done_as q None None i Unknown h (ap yes_or_unknown (sym (h.found refl))) refl)
unknown_done e q (Some c) next i view h k n = absurd (cc)
unknown_done e q None (Some s) i view h k n = absurd (cc)

pub yes_done : (e : Progress) (q : Query) (c : Option Criterion) (next : Option Step) (i : ℕ) (s : Step) (xs : List Query) → progress q c next i ≡ e → IsPlace q c next i
    → c ≡ None → next ≡ Some s → xs ≡ premises q s → length xs ≤ i → IsDone e (Yes s)
unfolding asked_still asked_from found_from each_passes asked_through
yes_done e q None (Some t) i s xs view h k n x l =
    let same : t ≡ s = cc in
    let g : drop i (premises q t) ≡ [] = ap (λ u. drop i (premises q u)) same ∙ ap (drop i) (sym x) ∙ drop_all i xs l in
    let f : first_step verdict q ≡ Some t = h.found refl ∙ ap (λ l. elim (are_yes l) [ true ↦ Some t | false ↦ first_proved q (steps_after q t) ]) g in
    subst (λ (e : Progress). IsDone e (Yes s)) view
    (done_as q None (Some t) i (Yes s) h (ap (λ u. Yes u) (sym same) ∙ ap yes_or_unknown (sym f)) (ap (λ l. asked_through l (λ _. asked_by q (steps_after q t))) g))
yes_done e q (Some c) next i s xs view h k n x l = absurd (cc)
yes_done e q None None i s xs view h k n x l = absurd (cc)

-- what is asked next

-- what is asked behind a premise whose verdict is Yes or not
abbrev still_after : Query → Step → List Query → Bool → List Query
still_after q s more true = asked_through more (λ _. asked_by q (steps_after q s))
still_after q s more false = asked_by q (steps_after q s)

still_front : (q : Query) (s : Step) (i : ℕ) (p : Query) (more : List Query) → drop i (premises q s) ≡ p ∷ more → asked_still q None (Some s) i ≡ p ∷ still_after q s more (is_yes (verdict p))
unfolding asked_still asked_from asked_through
still_front q s i p more g = ap (λ l. asked_through l (λ _. asked_by q (steps_after q s))) g ∙ ap (λ l. p ∷ l) (by (is_yes (verdict p)))
  where
    by : (b : Bool) → ◌≡◌ {A = List Query} (elim b [ true ↦ asked_through more (λ _. asked_by q (steps_after q s)) | false ↦ asked_by q (steps_after q s) ]) (still_after q s more b)
    by true = refl
    by false = refl

-- a premise that is asked for
pub record IsWanted (e : Progress) (p : Query) : Type 0 where
  pub bounds : in_bounds p ≡ true
  pub smaller : rank p < rank e.question
  pub left : 0 < e.left
  pub next : AsksNext e p

pub premise_wanted : (e : Progress) (q : Query) (c : Option Criterion) (next : Option Step) (i : ℕ) (s : Step) (xs : List Query) (p : Query) → progress q c next i ≡ e → IsPlace q c next i
    → c ≡ None → next ≡ Some s → xs ≡ premises q s → i < length xs → p ≡ get_or xs i p → IsWanted e p
unfolding progress
premise_wanted e q None (Some t) i s xs p view h k n x l at =
    let same : s ≡ t = cc in
    let more : List Query = drop (i + 1) xs in
    let g : drop i (premises q t) ≡ p ∷ more = ap (drop i) (sym (x ∙ ap (premises q) same)) ∙ drop_more xs i p l ∙ ap (λ r. r ∷ more) (sym at) in
    let f = still_front q t i p more g in
    let b = h.asked_before in
    let w = (subst (AllByRecursion (IsBelow (rank q))) g (each-drop (IsBelow (rank q)) i (premises q t) h.sound.0.1)).0 in
    let n : length (asked_still q None (Some t) i) ≡ suc (length (still_after q t more (is_yes (verdict p)))) = ap length f in
    subst (λ (e : Progress). IsWanted e p) view (record {
      bounds = w.0;
      smaller = w.1;
      left = omega (arith, n);
      next = (still_after q t more (is_yes (verdict p)), b.1 ∙ (λ j. sym (answered_is q None (Some t) i b.0 b.1) j ++ f j));
    })
premise_wanted e q (Some c) next i s xs p view h k n x l at = absurd (cc)
premise_wanted e q None None i s xs p view h k n x l at = absurd (cc)

pub sound_at : (q : Query) (c : Option Criterion) (next : Option Step) (i : ℕ) (s : Step) → IsPlace q c next i → next ≡ Some s → IsSound q s
sound_at q c (Some t) i s h n = (let same : t ≡ s = cc in subst (IsSound q) same h.sound.0)
sound_at q c None i s h n = absurd (cc)

-- where the next premise stands

-- what is left is that premise and what follows it
next_still : (q : Query) (c : Option Criterion) (next : Option Step) (i : ℕ) (p : Query) → IsPlace q c next i → (n : AsksNext (progress q c next i) p) → asked_still q c next i ≡ p ∷ n.0
unfolding progress
next_still q c next i p h n =
    let b = h.asked_before in
    append_cancel_left b.0 (asked_still q c next i) (p ∷ n.0) (sym b.1 ∙ n.1 ∙ ap (λ l. l ++ p ∷ n.0) (answered_is q c next i b.0 b.1))

-- there is one next premise
one_next : (q : Query) (c : Option Criterion) (next : Option Step) (i : ℕ) (p r : Query) → IsPlace q c next i → AsksNext (progress q c next i) p → AsksNext (progress q c next i) r → p ≡ r
one_next q c next i p r h n m = (let k : p ∷ n.0 ≡ r ∷ m.0 = sym (next_still q c next i p h n) ∙ next_still q c next i r h m in cc)

no_criterion : (q : Query) (c : Option Criterion) (next : Option Step) (i : ℕ) (p : Query) → IsPlace q c next i → AsksNext (progress q c next i) p → c ≡ None
unfolding asked_still
no_criterion q None next i p h n = refl
no_criterion q (Some c) next i p h n = absurd (let e : [] ≡ p ∷ n.0 = next_still q (Some c) next i p h n in cc)

-- the premise of the candidate
next_premise : (q : Query) (s : Step) (i : ℕ) (p : Query) → IsPlace q None (Some s) i → (n : AsksNext (progress q None (Some s) i) p)
    → (more : List Query) × (drop i (premises q s) ≡ p ∷ more) × (n.0 ≡ still_after q s more (is_yes (verdict p)))
unfolding asked_still asked_from asked_through
next_premise q s i p h n = by (drop i (premises q s)) refl
  where
    by : (l : List Query) → drop i (premises q s) ≡ l → (more : List Query) × (drop i (premises q s) ≡ p ∷ more) × (n.0 ≡ still_after q s more (is_yes (verdict p)))
    by [] e = absurd (let k : asked_through [] (λ _. asked_by q (steps_after q s)) ≡ p ∷ n.0 = ap (λ l. asked_through l (λ _. asked_by q (steps_after q s))) (sym e) ∙ next_still q None (Some s) i p h n in cc)
    by (r ∷ more) e =
        let k : r ∷ still_after q s more (is_yes (verdict r)) ≡ p ∷ n.0 = sym (still_front q s i r more e) ∙ next_still q None (Some s) i p h n in
        let kp : r ≡ p = cc in
        let kn : still_after q s more (is_yes (verdict r)) ≡ n.0 = cc in
        (more, e ∙ ap (λ x. x ∷ more) kp, sym kn ∙ ap (λ x. still_after q s more (is_yes (verdict x))) kp)

pub none_next : (e : Progress) (q : Query) (c : Option Criterion) (next : Option Step) (i : ℕ) (p : Query) → progress q c next i ≡ e → IsPlace q c next i → next ≡ None → AsksNext e p → ⊥
unfolding asked_still asked_from
none_next e q c next i p view h k n = by c next h (subst (λ (e : Progress). AsksNext e p) (sym view) n) k
  where
    by : (c : Option Criterion) (next : Option Step) → IsPlace q c next i → AsksNext (progress q c next i) p → next ≡ None → ⊥
    by None None h n k = (let e : [] ≡ p ∷ n.0 = next_still q None None i p h n in cc)
    by (Some c) None h n k = (let e : [] ≡ p ∷ n.0 = next_still q (Some c) None i p h n in cc)
    by c (Some s) h n k = (cc)

pub place_small : (e : Progress) (q : Query) (c : Option Criterion) (next : Option Step) (i : ℕ) (s : Step) (told : Verdict) → progress q c next i ≡ e → IsPlace q c next i → next ≡ Some s
    → TellsNext e told → i < PREMISES_MAX
place_small e q c next i s told view h k t =
    let n = subst (λ (e : Progress). AsksNext e t.0) (sym view) t.1 in by c next h n (no_criterion q c next i t.0 h n) k
  where
    by : (c : Option Criterion) (next : Option Step) → IsPlace q c next i → AsksNext (progress q c next i) t.0 → c ≡ None → next ≡ Some s → i < PREMISES_MAX
    by None (Some u) h n e k =
        let m = next_premise q u i t.0 h n in
        let l : length (drop i (premises q u)) ≡ suc (length m.0) = ap length m.1 in
        omega (arith, l, premises_few q u h.bounds h.sound.0.0, length-drop i (premises q u))
    by None None h n e k = absurd (cc)
    by (Some c) next h n e k = absurd (cc)

-- where a verdict brings an evaluation

-- it comes to this place, with this premise answered
pub record Comes (e : Progress) (q : Query) (c : Option Criterion) (next : Option Step) (i : ℕ) : Type 0 where
  pub place : IsPlace q c next i
  pub answered : (p : Query) → AsksNext e p → progress q c next i ≡ answered_next e p

-- one answer on
advanced : (q : Query) (c : Option Criterion) (next later : Option Step) (i j : ℕ) (p : Query) → IsPlace q c next i → (n : AsksNext (progress q c next i) p) → asked_still q c later j ≡ n.0
    → ((front : List Query) × (asked q ≡ front ++ asked_still q c later j)) × (progress q c later j ≡ answered_next (progress q c next i) p)
unfolding progress
advanced q c next later i j p h n e =
    let b = h.asked_before in
    let s = next_still q c next i p h n in
    let w : asked q ≡ (b.0 ++ p ∷ []) ++ asked_still q c later j
    = b.1 ∙ ap (λ l. b.0 ++ l) (s ∙ ap (λ l. p ∷ l) (sym e)) ∙ sym (append_assoc b.0 (p ∷ []) (asked_still q c later j)) in
    let a : (progress q c later j).answered ≡ (progress q c next i).answered ++ p ∷ []
    = answered_is q c later j (b.0 ++ p ∷ []) w ∙ ap (λ l. l ++ p ∷ []) (sym (answered_is q c next i b.0 b.1)) in
    let ls : length (asked_still q c next i) ≡ suc (length n.0) = ap length s in
    let le : length (asked_still q c later j) ≡ length n.0 = ap length e in
    let l : length (asked_still q c later j) ≡ length (asked_still q c next i) - 1 = omega arith in
    (((b.0 ++ p ∷ []), w), λ k. record { question = q; answered = a k; left = l k })

-- at a premise that is Yes, or not, the candidate found is as behind it
module _ (q : Query) (s : Step) (p : Query) where
  abbrev found_at : List Query → Option Step
  found_at ps = elim (are_yes ps) [ true ↦ Some s | false ↦ first_proved q (steps_after q s) ]

  tested : (ps : List Query) (b : Bool) → is_yes (verdict p) ≡ b → are_yes (p ∷ ps) ≡ elim b as (λ _. Bool) [ true ↦ are_yes ps | false ↦ false ]
  unfolding each_passes
  tested ps b y = ap (λ b. elim b as (λ _. Bool) [ true ↦ are_yes ps | false ↦ false ]) y

  passed : (ps : List Query) → is_yes (verdict p) ≡ true → found_at (p ∷ ps) ≡ found_at ps
  passed ps y = ap (λ b. elim b as (λ _. Option Step) [ true ↦ Some s | false ↦ first_proved q (steps_after q s) ]) (tested ps true y)

  failed : (ps : List Query) → is_yes (verdict p) ≡ false → found_at (p ∷ ps) ≡ first_proved q (steps_after q s)
  failed ps y = ap (λ b. elim b as (λ _. Option Step) [ true ↦ Some s | false ↦ first_proved q (steps_after q s) ]) (tested ps false y)

-- from a candidate on
asked_on : (q : Query) (next : Option Step) → asked_by q (steps_from q next) ≡ asked_from q next 0
unfolding asked_from asked_by
asked_on q None = refl
asked_on q (Some s) = refl

found_on : (q : Query) (next : Option Step) → first_proved q (steps_from q next) ≡ found_from q next 0
unfolding found_from first_in
found_on q None = refl
found_on q (Some s) = refl

yes_on : (q : Query) (s : Step) (i : ℕ) (p : Query) → IsPlace q None (Some s) i → AsksNext (progress q None (Some s) i) p → is_yes (verdict p) ≡ true
    → IsPlace q None (Some s) (i + 1) × (progress q None (Some s) (i + 1) ≡ answered_next (progress q None (Some s) i) p)
unfolding asked_still asked_from found_from
yes_on q s i p h n y =
    let m = next_premise q s i p h n in
    let g : drop (i + 1) (premises q s) ≡ m.0 = drop-next i (premises q s) m.0 p m.1 in
    let e : asked_still q None (Some s) (i + 1) ≡ n.0 = ap (λ l. asked_through l (λ _. asked_by q (steps_after q s))) g ∙ ap (still_after q s m.0) (sym y) ∙ sym m.2 in
    let a = advanced q None (Some s) (Some s) i (i + 1) p h n e in
    let f : first_step verdict q ≡ found_from q (Some s) (i + 1)
    = h.found refl ∙ ap (found_at q s p) m.1 ∙ passed q s p m.0 y ∙ ap (found_at q s p) (sym g) in
    (record { bounds = h.bounds; reason = h.reason; asked_before = a.0; found = λ _. f; sound = h.sound }, a.1)

other_on : (q : Query) (s : Step) (i : ℕ) (p : Query) (later : Option Step) → IsPlace q None (Some s) i → AsksNext (progress q None (Some s) i) p → is_yes (verdict p) ≡ false
    → later ≡ head (steps_after q s) → IsPlace q None later 0 × (progress q None later 0 ≡ answered_next (progress q None (Some s) i) p)
unfolding asked_still found_from
other_on q s i p later h n y k =
    let m = next_premise q s i p h n in
    let step : s ∷ steps_after q s ≡ s ∷ steps_from q later = from_next q s later h.bounds k in
    let on : steps_after q s ≡ steps_from q later = cc in
    let e : asked_still q None later 0 ≡ n.0 = sym (asked_on q later) ∙ ap (asked_by q) (sym on) ∙ ap (still_after q s m.0) (sym y) ∙ sym m.2 in
    let a = advanced q None (Some s) later i 0 p h n e in
    let f : first_step verdict q ≡ found_from q later 0
    = h.found refl ∙ ap (found_at q s p) m.1 ∙ failed q s p m.0 y ∙ ap (first_proved q) on ∙ found_on q later in
    (record { bounds = h.bounds; reason = h.reason; asked_before = a.0; found = λ _. f; sound = subst (λ (l : List Step). AllByRecursion (IsSound q) l) on h.sound.1 }, a.1)

brought : (e : Progress) (q : Query) (c : Option Criterion) (next later : Option Step) (i j : ℕ) (told : Verdict) → progress q c next i ≡ e → IsPlace q c next i → TellsNext e told
    → ((p : Query) → AsksNext (progress q c next i) p → verdict p ≡ told → IsPlace q c later j × (progress q c later j ≡ answered_next (progress q c next i) p)) → Comes e q c later j
brought e q c next later i j told view h t on = subst (λ (e : Progress). TellsNext e told → Comes e q c later j) view by t
  where
    by : TellsNext (progress q c next i) told → Comes (progress q c next i) q c later j
    by t =
        let r = on t.0 t.1 (sym t.2) in
        record { place = r.0; answered = λ p n. r.1 ∙ ap (answered_next (progress q c next i)) (one_next q c next i t.0 p h t.1 n) }

-- on Yes it comes to the next premise
pub yes_told : (e : Progress) (q : Query) (c : Option Criterion) (next : Option Step) (i : ℕ) (s : Step) (told : Verdict) (t : Step) → progress q c next i ≡ e → IsPlace q c next i → next ≡ Some s
    → TellsNext e told → told ≡ Yes t → Comes e q c next (i + 1)
yes_told e q (Some c) next i s told t view h k n y =
    brought e q (Some c) next next i (i + 1) told view h n (λ p n v. absurd (let d : Some c ≡ None = no_criterion q (Some c) next i p h n in cc))
yes_told e q None None i s told t view h k n y = absurd (cc)
yes_told e q None (Some u) i s told t view h k n y = brought e q None (Some u) (Some u) i (i + 1) told view h n (λ p n v. yes_on q u i p h n (ap is_yes (v ∙ y)))

not_yes : (v : Verdict) → ((t : Step) → v ≡ Yes t → ⊥) → is_yes v ≡ false
not_yes (Yes s) h = absurd (h s refl)
not_yes (No c) h = refl
not_yes Unknown h = refl

-- on another verdict it comes to the next candidate
pub other_told : (e : Progress) (q : Query) (c : Option Criterion) (next : Option Step) (i : ℕ) (s : Step) (told : Verdict) (later : Option Step) → progress q c next i ≡ e → IsPlace q c next i
    → next ≡ Some s → TellsNext e told → ((t : Step) → told ≡ Yes t → ⊥) → later ≡ head (steps_after q s) → Comes e q c later 0
other_told e q (Some c) next i s told later view h k n y l =
    brought e q (Some c) next later i 0 told view h n (λ p n v. absurd (let d : Some c ≡ None = no_criterion q (Some c) next i p h n in cc))
other_told e q None None i s told later view h k n y l = absurd (cc)
other_told e q None (Some u) i s told later view h k n y l =
    let same : s ≡ u = cc in
    brought e q None (Some u) later i 0 told view h n (λ p n v. other_on q u i p later h n (ap is_yes v ∙ not_yes told y) (l ∙ ap (λ x. head (steps_after q x)) same))

-- the beginning

pub record Begins (q : Query) (c : Option Criterion) (next : Option Step) : Type 0 where
  pub place : IsPlace q c next 0
  pub question : (progress q c next 0).question ≡ q
  pub answered : (progress q c next 0).answered ≡ []

pub begins_no : (q : Query) (c : Option Criterion) (r : Criterion) → in_bounds q ≡ true → c ≡ criterion_of q → c ≡ Some r → Begins q (Some r) None
unfolding asked_still progress
begins_no q c r b e d =
    let k : Some r ≡ criterion_of q = sym d ∙ e in
    let nothing : asked q ≡ [] = asked-as q ∙ ap (asked_as q) (sym k) in
    record {
      place = record { bounds = b; reason = k; asked_before = ([], nothing); found = λ x. absurd (cc); sound = tt };
      question = refl;
      answered = answered_is q (Some r) None 0 [] nothing;
    }

pub begins : (q : Query) (c : Option Criterion) (next : Option Step) → in_bounds q ≡ true → c ≡ criterion_of q → c ≡ None → next ≡ head (steps_of q (drop 0 rules)) → Begins q None next
unfolding asked_still progress
begins q c next b e d k =
    let n : None ≡ criterion_of q = sym d ∙ e in
    let on : candidates q ≡ steps_from q next = sym (from_first q next b k) in
    let all : asked q ≡ asked_still q None next 0 = asked-as q ∙ ap (asked_as q) (sym n) ∙ ap (asked_by q) on ∙ asked_on q next in
    let f : first_step verdict q ≡ found_from q next 0 = ap (first_proved q) on ∙ found_on q next in
    let s : AllByRecursion (IsSound q) (candidates q)
    = each-both (λ s. is_candidate q s ≡ true) (λ s. AllByRecursion (IsBelow (rank q)) (premises q s)) (candidates q) (candidates_are q b) (candidates_fall q b) in
    record {
      place = record { bounds = b; reason = n; asked_before = ([], all); found = λ _. f; sound = subst (λ (l : List Step). AllByRecursion (IsSound q) l) on s };
      question = refl;
      answered = answered_is q None next 0 [] all;
    }
