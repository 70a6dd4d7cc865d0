-- What is found of catalogues, whether they tell their entries or not, is what the walk finds of some entries of theirs.
use Rattle.std.proofs.Common.{List, [], ap, ap₂, arith, cond, inl, length, not, refl, subst, suc, sym, add-one, zero, ℕ, ◌++◌, ◌+◌, ◌∙◌, ◌∷◌, ◌≡◌}
use Rattle.std.proofs.Math.Seq.{drop-length}
use Rattle.std.proofs.lemmas.List.{append-nil, append_assoc}
use Rattle.std.proofs.lemmas.Option.{same_Some}
use Rattle.std.specs.Prelude.{IfSome, None, Option, Result, Some, drop, nat_lt, slice_get}
use Rattle.std.specs.declared.result.Result.TheVariants.{Err, Ok}
use Rattle.design_base.proofs.Same.{query_is}
use Rattle.design_base.specs.Canonical.{canonical}
use Rattle.design_base.specs.declared.query.Query.{Query}
use Rattle.catalogues.proofs.Failed.{unasked}
use Rattle.catalogues.proofs.Held.{held_first, held_none, some_held}
use Rattle.catalogues.proofs.Offers.{IsAnswer, IsToldAnswer, lawful, told}
use Rattle.catalogues.proofs.Taken.{taken_none, taken_some}
use Rattle.catalogues.proofs.Told.{told_after}
use Rattle.catalogues.proofs.Walks.{after, after_before, walk_end, walk_fit, walk_none, walk_unfit}
use Rattle.catalogues.specs.Consulted.{AreHeld, IsConsulted, IsHeld, Walk, before, walk}
use Rattle.catalogues.specs.Consults.{Begun, Consults, Notes, Passed, WalksTo}
use Rattle.catalogues.specs.Entries.{Seen, place_of, take_out}
use Rattle.catalogues.specs.declared.catalogue.Entry.{Entry}
use Rattle.catalogues.specs.declared.catalogue.OfferEnd.{OfferEnd}
use Rattle.catalogues.specs.declared.catalogue.OfferEnd.TheVariants.{Failed, Memory}
use Rattle.catalogues.specs.declared.outcome.Offered.{Offered}
use Rattle.catalogues.specs.declared.outcome.Offered.TheVariants.{Fit, Nothing, Unfit}
use Rattle.catalogues.specs.declared.outcome.Rejected.{Rejected}

-- ---- entries that suit an answer
-- they are those that are told, and what the answer says of them holds
record Suits (q : Query) (told : Option (List Entry)) (answer : Result Offered OfferEnd) : Type 0 where
  es : List Entry
  held : IsHeld told es
  new : Option (List Entry)
  says : IsToldAnswer q es new answer

abbrev alone : Query → List (List ℕ) → List Entry
alone q B = (record { query = q; blocks = B }) ∷ []

taken_alone : (q : Query) (B : List (List ℕ)) → (take_out q (alone q B)).blocks ≡ Some B
taken_alone q B = sym (taken_some q (alone q B) [] 0 (record { query = q; blocks = B }) first (omega arith) refl refl).0
  where
    first : place_of q (alone q B) ≡ Some 0
    first = ap (λ t. cond (nat_lt (cond (not t) (1 + 0) 0) 1) (Some (cond (not t) (1 + 0) 0)) None) (query_is q)

-- where none are told, the offer is the only entry
made_up : (q : Query) (answer : Result Offered OfferEnd) → IsAnswer q answer → Suits q None answer
made_up q (Ok Nothing) a = record { es = []; held = tt; new = Some (take_out q []).entries; says = (sym (taken_none q [] refl).0, refl) }
made_up q (Ok (Unfit found)) a = record { es = alone q a.blocks; held = tt; new = Some (take_out q (alone q a.blocks)).entries; says = (a.blocks, taken_alone q a.blocks, a.found_is, refl) }
made_up q (Ok (Fit C)) a = record { es = alone q a.blocks; held = tt; new = Some (take_out q (alone q a.blocks)).entries; says = (a.blocks, taken_alone q a.blocks, a.form, refl) }
made_up q (Err Failed) a = record { es = []; held = tt; new = Some []; says = refl }
made_up q (Err Memory) a = record { es = []; held = tt; new = Some []; says = inl refl }

suits : (q : Query) (told new : Option (List Entry)) (answer : Result Offered OfferEnd) → IsAnswer q answer → IfSome told (λ es. IsToldAnswer q es new answer) → Suits q told answer
suits q None new answer a t = made_up q answer a
suits q (Some es) new answer a t = record { es = es; held = refl; new = new; says = t }

-- ---- after i catalogues
-- there are entries of the first i, behind which the walk goes on with the entries of the others
record Halfway (q : Query) (i : ℕ) (old : List Seen) (R : List Rejected) : Type 0 where
  front : List (List Entry)
  done : List (List Entry)
  held : (more : List (List Entry)) → AreHeld (drop i old) more → AreHeld old (front ++ more)
  walks : (more : List (List Entry)) → walk q 1 (front ++ more) ≡ after R done (walk q (i + 1) more)

drop_one : {X : Type 0} (xs : List X) (i : ℕ) (x : X) → slice_get xs i ≡ Some x → drop i xs ≡ x ∷ drop (suc i) xs
drop_one [] i x e = cc
drop_one (y ∷ xs) zero x e = ap (λ y. y ∷ xs) (same_Some y x e)
drop_one (y ∷ xs) (suc i) x e = drop_one xs i x e

module _ (q : Query) (i : ℕ) (old : List Seen) (was : Seen) (at : slice_get old i ≡ Some was) where
  -- entries of the one at place i, before those of the ones behind it
  held_at : (es : List Entry) (more : List (List Entry)) → IsHeld was.told es → AreHeld (drop (i + 1) old) more → AreHeld (drop i old) (es ∷ more)
  held_at es more h hs = subst (λ zs. AreHeld zs (es ∷ more)) (sym (drop_one old i was at ∙ ap (λ k. was ∷ drop k old) (sym (add-one i)))) (held_first was (drop (i + 1) old) es more h hs)

  onward : (S N R : List Rejected) (es stay : List Entry) → Halfway q i old S → R ≡ S ++ N → IsHeld was.told es →
      ((more : List (List Entry)) → walk q (i + 1) (es ∷ more) ≡ before N stay (walk q (i + 1 + 1) more)) → Halfway q (i + 1) old R
  onward S N R es stay w r h one = record {
    front = w.front ++ es ∷ [];
    done = w.done ++ stay ∷ [];
    held = λ more hs. subst (AreHeld old) (sym (append_assoc w.front (es ∷ []) more)) (w.held (es ∷ more) (held_at es more h hs));
    walks = λ more. ap (walk q 1) (append_assoc w.front (es ∷ []) more) ∙ w.walks (es ∷ more) ∙ ap (after S w.done) (one more)
        ∙ after_before S N w.done stay (walk q (i + 1 + 1) more) ∙ ap (λ R. after R (w.done ++ stay ∷ []) (walk q (i + 1 + 1) more)) (sym r);
  }

  by_answer : (S R : List Rejected) (answer : Result Offered OfferEnd) → Halfway q i old S → Suits q was.told answer → IsAnswer q answer → Notes i answer S R → Halfway q (i + 1) old R
  by_answer S R (Ok Nothing) w t a n = onward S [] R t.es (take_out q t.es).entries w (n ∙ sym (append-nil S)) t.held (λ more. walk_none q (i + 1) t.es more t.says.0)
  by_answer S R (Ok (Unfit found)) w t a n = let h = t.says in
      onward S ((record { number = i + 1; finding = found }) ∷ []) R t.es (take_out q t.es).entries w n t.held (λ more. walk_unfit q (i + 1) t.es more h.0 found h.1 h.2 a.unfit)
  by_answer S R (Ok (Fit C)) w t a n = absurd n
  by_answer S R (Err end) w t a n = absurd n

-- the one at place i is as it was, before it is asked
was_at : (q : Query) (i : ℕ) (old mid : List Seen) (R : List Rejected) (was : Seen) → Begun q i old mid R → slice_get mid i ≡ Some was → slice_get old i ≡ Some was
was_at q i old mid R was b at = sym (unasked q i old mid R b i (omega arith)) ∙ at

halfway_more : (q : Query) (i : ℕ) (old mid new : List Seen) (S R : List Rejected) → Begun q i old mid S → Halfway q i old S → Passed q i mid new S R → Halfway q (i + 1) old R
halfway_more q i old mid new S R b w p = let s = p.asks in
    by_answer q i old s.was (was_at q i old mid S s.was b s.at) S R p.answer w (suits q s.was.told s.is.told p.answer (lawful q s.was s.is p.answer s.asks) (told q s.was s.is p.answer s.asks)) (lawful q s.was s.is p.answer s.asks) p.notes

halfway : (q : Query) (i : ℕ) (old mid : List Seen) (R : List Rejected) → Begun q i old mid R → Halfway q i old R
unfolding Begun after
halfway q zero old mid R b = record { front = []; done = []; held = λ more h. h; walks = λ more. ap (λ R. after R [] (walk q 1 more)) (sym b.1) }
halfway q (suc i) old mid R b = subst (λ n. Halfway q n old R) (add-one i) (halfway_more q i old b.0 mid b.1 R b.2 (halfway q i old b.0 b.1 b.2) b.3)

-- ---- the end of the walk
record Found (q : Query) (old : List Seen) (R : List Rejected) (valid : Option (ℕ × List (List ℕ))) : Type 0 where
  lists : List (List Entry)
  held : AreHeld old lists
  refusals : R ≡ (walk q 1 lists).refusals
  valid_one : valid ≡ (walk q 1 lists).valid

found_by : (q : Query) (old : List Seen) (R : List Rejected) (valid : Option (ℕ × List (List ℕ))) (lists : List (List Entry)) (w : Walk) → AreHeld old lists →
    walk q 1 lists ≡ w → R ≡ w.refusals → valid ≡ w.valid → Found q old R valid
found_by q old R valid lists w h e r v = record { lists = lists; held = h; refusals = r ∙ ap (λ w. w.refusals) (sym e); valid_one = v ∙ ap (λ w. w.valid) (sym e) }

found : (q : Query) (old new : List Seen) (R : List Rejected) (valid : Option (ℕ × List (List ℕ))) → WalksTo q old new R valid → Found q old R valid
unfolding after
found q old new R None b = let w = halfway q (length old) old new R b in
    found_by q old R None (w.front ++ []) (after R w.done (record { refusals = []; valid = None; lists = [] }))
    (w.held [] (subst (λ zs. AreHeld zs []) (sym (drop-length old)) held_none))
    (w.walks [] ∙ ap (after R w.done) (walk_end q (length old + 1)))
    (sym (append-nil R)) refl
found q old new R (Some c) r =
    let w = halfway q r.place old r.before R r.begun in
    let s = r.asks in
    let fit = lawful q s.was s.is (Ok (Fit c.1)) s.asks in
    let t = suits q s.was.told s.is.told (Ok (Fit c.1)) fit (told q s.was s.is (Ok (Fit c.1)) s.asks) in
    let h = t.says in
    let behind = some_held (drop (r.place + 1) old) in
    found_by q old R (Some c) (w.front ++ t.es ∷ behind.0) (after R w.done (record { refusals = []; valid = Some (r.place + 1, canonical h.0); lists = (take_out q t.es).entries ∷ behind.0 }))
    (w.held (t.es ∷ behind.0) (held_at q r.place old s.was (was_at q r.place old r.before R s.was r.begun s.at) t.es behind.0 t.held behind.1))
    (w.walks (t.es ∷ behind.0) ∙ ap (after R w.done) (walk_fit q (r.place + 1) t.es behind.0 h.0 c.1 h.1 h.2 fit.passes))
    (sym (append-nil R)) (ap Some (ap₂ (λ n C. (n, C)) r.counts h.2))

pub is_consulted : (q : Query) (old new : List Seen) (R : List Rejected) (valid : Option (ℕ × List (List ℕ))) → Consults q old new R valid → IsConsulted q old new R valid
is_consulted q old new R valid c = let f = found q old c.after R valid c.walks in
    record { lists = f.lists; held = f.held; refusals = f.refusals; valid_one = f.valid_one; after = λ t. told_after q old new f.lists R valid t c }
