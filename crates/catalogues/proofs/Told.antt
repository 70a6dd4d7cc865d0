-- Where all catalogues tell their entries, they are afterwards the walk's.
use Rattle.std.proofs.Common.{List, [], add-one, ap, ap₂, arith, cond, false, inl, inr, length, map, not, refl, subst, suc, sym, true, zero, ℕ, ◌++◌, ◌+◌, ◌∙◌, ◌∷◌, ◌≡◌, ◌⊎◌, slice_set, Bool}
use Rattle.std.proofs.lemmas.List.{append-nil, append_assoc, drop-drop, length-append, length-map, map-set}
use Rattle.std.proofs.lemmas.Option.{slice_get-map, slice_get_past}
use Rattle.std.proofs.Math.Seq.{drop-length}
use Rattle.std.specs.Option.{option_map}
use Rattle.std.specs.Prelude.{IfSome, None, Option, Result, Some, drop, filter, slice_get}
use Rattle.std.specs.declared.result.Result.TheVariants.{Err, Ok}
use Rattle.design_base.specs.declared.query.Query.{Query}
use Rattle.catalogues.specs.declared.outcome.Rejected.{Rejected}
use Rattle.catalogues.proofs.Held.{all_told, length_told, told_head, told_of}
use Rattle.catalogues.proofs.Walks.{after, after_before, walk_end, walk_fit, walk_none, walk_unfit}
use Rattle.catalogues.specs.Consulted.{AreTold, before, consulted, walk}
use Rattle.catalogues.proofs.Offers.{IsAnswer, IsToldAnswer, lawful, told}
use Rattle.catalogues.specs.Consults.{Begun, Consults, Drops, Notes, Passed, StepAt, WalksTo}
use Rattle.catalogues.specs.Entries.{IsSpent, Seen, no_entry, take_out}
use Rattle.catalogues.specs.declared.catalogue.Entry.{Entry}
use Rattle.catalogues.specs.declared.catalogue.OfferEnd.{OfferEnd}
use Rattle.catalogues.specs.declared.outcome.Offered.{Offered}
use Rattle.catalogues.specs.declared.outcome.Offered.TheVariants.{Fit, Nothing, Unfit}

-- ---- the place between what is done and what is left
get_seam : {X : Type 0} (done rest : List X) (x : X) → slice_get (done ++ x ∷ rest) (length done) ≡ Some x
get_seam [] rest x = refl
get_seam (y ∷ done) rest x = get_seam done rest x

set_seam : {X Y : Type 0} (f : X → Y) (done rest : List X) (x y : X) → slice_set (map f (done ++ x ∷ rest)) (length done) (f y) ≡ map f (done ++ y ∷ rest)
set_seam f [] rest x y = refl
set_seam f (z ∷ done) rest x y = ap (λ zs. f z ∷ zs) (set_seam f done rest x y)

opened : (done suffix : List (List Entry)) (o : Option (List Entry)) → slice_get (all_told (done ++ suffix)) (length done) ≡ Some o → (es : List Entry) × (rest : List (List Entry)) × (suffix ≡ es ∷ rest) × (o ≡ Some es)
opened done [] o e = absurd (nothing (sym (slice_get_past (all_told (done ++ [])) (length done) (omega (arith, length-map (done ++ []) (λ es. Some es), length-append done []))) ∙ e))
  where
    nothing : None ≡ Some o → ⊥
    nothing e = cc
opened done (es ∷ rest) o e = (es, rest, refl, same (sym e ∙ slice_get-map (λ es. Some es) (done ++ es ∷ rest) (length done) ∙ ap (option_map (λ es. Some es)) (get_seam done rest es)))
  where
    same : Some o ≡ Some (Some es) → o ≡ Some es
    same e = cc

-- ---- after i catalogues
record Midway (q : Query) (i : ℕ) (lists : List (List Entry)) (mid : List Seen) (R : List Rejected) : Type 0 where
  done : List (List Entry)
  size : length done ≡ i
  now : told_of mid ≡ all_told (done ++ drop i lists)
  walks : walk q 1 lists ≡ after R done (walk q (i + 1) (drop i lists))

-- the catalogue at place i, and what it tells
record Place (q : Query) (i : ℕ) (lists : List (List Entry)) (mid new : List Seen) (R : List Rejected) (answer : Result Offered OfferEnd) : Type 0 where
  done : List (List Entry)
  size : length done ≡ i
  es : List Entry
  rest : List (List Entry)
  left : drop (i + 1) lists ≡ rest
  is : Option (List Entry)
  now : told_of new ≡ slice_set (all_told (done ++ es ∷ rest)) i is
  walks : walk q 1 lists ≡ after R done (walk q (i + 1) (es ∷ rest))
  lawful : IsToldAnswer q es is answer

place_of : (q : Query) (i : ℕ) (lists : List (List Entry)) (mid new : List Seen) (R : List Rejected) (answer : Result Offered OfferEnd) → Midway q i lists mid R → StepAt q i mid new answer → Place q i lists mid new R answer
place_of q i lists mid new R answer m s =
    let g : slice_get (told_of mid) i ≡ Some s.was.told = slice_get-map (λ s. s.told) mid i ∙ ap (option_map (λ s. s.told)) s.at in
    let o = opened m.done (drop i lists) s.was.told (subst (λ k. slice_get (all_told (m.done ++ drop i lists)) k ≡ Some s.was.told) (sym m.size) (ap (λ t. slice_get t i) (sym m.now) ∙ g)) in record {
      done = m.done;
      size = m.size;
      es = o.0;
      rest = o.1;
      left = sym (drop-drop 1 i lists) ∙ ap (drop 1) o.2;
      is = s.is.told;
      now = ap told_of s.after ∙ map-set (λ s. s.told) mid i s.is ∙ ap (λ t. slice_set t i s.is.told) (m.now ∙ ap (λ suffix. all_told (m.done ++ suffix)) o.2);
      walks = m.walks ∙ ap (λ suffix. after R m.done (walk q (i + 1) suffix)) o.2;
      lawful = subst (λ t. IfSome t (λ es. IsToldAnswer q es s.is.told answer)) o.3 (told q s.was s.is answer s.asks);
    }

-- one more that offered no valid list
module _ (q : Query) (i : ℕ) (lists : List (List Entry)) (mid new : List Seen) (R S : List Rejected) (answer : Result Offered OfferEnd) (p : Place q i lists mid new R answer) where
  onward : (fs : List Entry) → p.is ≡ Some fs → walk q (i + 1) (p.es ∷ p.rest) ≡ before S fs (walk q (i + 1 + 1) p.rest) → Midway q (i + 1) lists new (R ++ S)
  onward fs e w = record {
    done = p.done ++ fs ∷ [];
    size = omega (arith, length-append p.done (fs ∷ []), p.size);
    now = p.now ∙ ap (λ o. slice_set (all_told (p.done ++ p.es ∷ p.rest)) i o) e
        ∙ ap (λ k. slice_set (all_told (p.done ++ p.es ∷ p.rest)) k (Some fs)) (sym p.size)
        ∙ set_seam (λ es. Some es) p.done p.rest p.es fs
        ∙ ap all_told (sym (append_assoc p.done (fs ∷ []) p.rest))
        ∙ ap (λ rest. all_told ((p.done ++ fs ∷ []) ++ rest)) (sym p.left);
    walks = p.walks ∙ ap (after R p.done) w ∙ after_before R S p.done fs (walk q (i + 1 + 1) p.rest) ∙ ap (λ rest. after (R ++ S) (p.done ++ fs ∷ []) (walk q (i + 1 + 1) rest)) (sym p.left);
  }

module _ (q : Query) (i : ℕ) (lists : List (List Entry)) (mid new : List Seen) (S R : List Rejected) where
  by_answer : (answer : Result Offered OfferEnd) → Place q i lists mid new S answer → IsAnswer q answer → Notes i answer S R → Midway q (i + 1) lists new R
  by_answer (Ok Nothing) p lawful n = subst (Midway q (i + 1) lists new) (append-nil S ∙ sym n) (onward q i lists mid new S [] (Ok Nothing) p (take_out q p.es).entries p.lawful.1 (walk_none q (i + 1) p.es p.rest p.lawful.0))
  by_answer (Ok (Unfit found)) p lawful n = let h = p.lawful in subst (Midway q (i + 1) lists new) (sym n) (onward q i lists mid new S ((record { number = i + 1; finding = found }) ∷ []) (Ok (Unfit found)) p (take_out q p.es).entries h.3
      (walk_unfit q (i + 1) p.es p.rest h.0 found h.1 h.2 lawful.unfit))
  by_answer (Ok (Fit C)) p lawful n = absurd n
  by_answer (Err end) p lawful n = absurd n

  midway_more : Midway q i lists mid S → Passed q i mid new S R → Midway q (i + 1) lists new R
  midway_more m p = by_answer p.answer (place_of q i lists mid new S p.answer m p.asks) (lawful q p.asks.was p.asks.is p.answer p.asks.asks) p.notes

begun_told : (q : Query) (i : ℕ) (old mid : List Seen) (lists : List (List Entry)) (R : List Rejected) → told_of old ≡ all_told lists → Begun q i old mid R → Midway q i lists mid R
unfolding Begun after
begun_told q zero old mid lists R e b = record { done = []; size = refl; now = ap told_of b.0 ∙ e; walks = ap (λ R. after R [] (walk q 1 lists)) (sym b.1) }
begun_told q (suc i) old mid lists R e b = subst (λ n. Midway q n lists mid R) (add-one i) (midway_more q i lists b.0 mid b.1 R (begun_told q i old b.0 lists b.1 e b.2) b.3)

-- ---- the spent catalogues are dropped
abbrev pub unspent : List (List Entry) → List (List Entry)
unspent ws = filter (λ es. not (no_entry es)) ws

told_drops : (i : ℕ) (old new : List Seen) (ws : List (List Entry)) → told_of old ≡ all_told ws → Drops None i old new → told_of new ≡ all_told (unspent ws)
unfolding Drops
told_drops i [] new [] e d = ap told_of d
told_drops i [] new (w ∷ ws) e d = absurd (apart e)
  where
    apart : [] ≡ Some w ∷ all_told ws → ⊥
    apart e = cc
told_drops i (s ∷ old) new [] e d = absurd (apart e)
  where
    apart : s.told ∷ told_of old ≡ [] → ⊥
    apart e = cc
told_drops i (s ∷ old) new (w ∷ ws) e (inl d) = let h = told_head s old w ws e in
    ap told_of d.1.1 ∙ ap₂ (λ o os. o ∷ os) h.0 (told_drops (i + 1) old d.1.0 ws h.1 d.1.2) ∙ ap all_told (kept (no_entry w) (stay d.0 h.0))
  where
    stay : (None ≡ Some (i + 1)) ⊎ IsSpent s false → s.told ≡ Some w → no_entry w ≡ false
    stay (inl e) f = absurd (nothing e)
      where
        nothing : None ≡ Some (i + 1) → ⊥
        nothing e = cc
    stay (inr h) f = sym (subst (λ t. IfSome t (λ es. false ≡ no_entry es)) f h.1)

    kept : (t : Bool) → t ≡ false → w ∷ unspent ws ≡ cond (not t) (w ∷ unspent ws) (unspent ws)
    kept true e = cc
    kept false e = refl
told_drops i (s ∷ old) new (w ∷ ws) e (inr d) = let h = told_head s old w ws e in
    told_drops (i + 1) old new ws h.1 d.1 ∙ ap all_told (gone (no_entry w) (sym (subst (λ t. IfSome t (λ es. true ≡ no_entry es)) h.0 d.0.1.1)))
  where
    gone : (t : Bool) → t ≡ true → unspent ws ≡ cond (not t) (w ∷ unspent ws) (unspent ws)
    gone true e = refl
    gone false e = cc

-- ---- the end of the walk
walked : (q : Query) (old new : List Seen) (lists : List (List Entry)) (R : List Rejected) (valid : Option (ℕ × List (List ℕ))) → told_of old ≡ all_told lists → WalksTo q old new R valid → told_of new ≡ all_told (walk q 1 lists).lists
unfolding after
walked q old new lists R None e b =
    let m = begun_told q (length old) old new lists R e b in
    let nothing : drop (length old) lists ≡ [] = ap (λ k. drop k lists) (length_told old lists e) ∙ drop-length lists in
    m.now ∙ ap (λ left. all_told (m.done ++ left)) nothing
    ∙ sym (ap (λ w. all_told w.lists) (m.walks ∙ ap (λ left. after R m.done (walk q (length old + 1) left)) nothing ∙ ap (after R m.done) (walk_end q (length old + 1))))
walked q old new lists R (Some c) e r =
    let p = place_of q r.place lists r.before new R (Ok (Fit c.1)) (begun_told q r.place old r.before lists R e r.begun) r.asks in
    let h = p.lawful in
    p.now ∙ ap (λ o. slice_set (all_told (p.done ++ p.es ∷ p.rest)) r.place o) h.3
    ∙ ap (λ k. slice_set (all_told (p.done ++ p.es ∷ p.rest)) k (Some (take_out q p.es).entries)) (sym p.size)
    ∙ set_seam (λ es. Some es) p.done p.rest p.es (take_out q p.es).entries
    ∙ sym (ap (λ w. all_told w.lists) (p.walks ∙ ap (after R p.done) (walk_fit q (r.place + 1) p.es p.rest h.0 c.1 h.1 h.2 (lawful q r.asks.was r.asks.is (Ok (Fit c.1)) r.asks.asks).passes)))

pub told_after : (q : Query) (old new : List Seen) (lists : List (List Entry)) (R : List Rejected) (valid : Option (ℕ × List (List ℕ))) → AreTold old lists → Consults q old new R valid → AreTold new (consulted q lists).lists
told_after q old new lists R valid e c = told_drops 0 c.after new (walk q 1 lists).lists (walked q old c.after lists R valid e c.walks) c.drops
