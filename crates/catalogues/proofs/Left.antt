-- What is left of catalogues that were asked.
use Rattle.std.proofs.Common.{List, [], add-one, ap, arith, inl, inr, length, refl, slice_set, subst, suc, sym, zero, ℕ, ◌+◌, ◌∙◌, ◌∷◌, ◌≡◌, ◌≢◌, ◌≤◌}
use Rattle.std.proofs.lemmas.Option.{same_Some}
use Rattle.std.specs.Prelude.{None, Option, Result, Some, slice_get}
use Rattle.std.specs.declared.result.Result.TheVariants.{Err, Ok}
use Rattle.design_base.specs.declared.query.Query.{Query}
use Rattle.catalogues.proofs.Offers.{is_asked, unfailed}
use Rattle.catalogues.specs.Consults.{AsksFirst, Begun, Consults, Drops, EndsAtValid, EndsConsult, EndsWalk, Notes, Reached, StepAt, WalksTo, count_asked}
use Rattle.catalogues.specs.Entries.{Seen}
use Rattle.catalogues.specs.Left.{AreAsked, AreLeft, AreLeftBy, AreUnfailed, AskedTimes, Becomes, BecomesUnfailed, IsAsked}
use Rattle.catalogues.specs.declared.catalogue.OfferEnd.{OfferEnd}
use Rattle.catalogues.specs.declared.catalogue.OfferEnd.TheVariants.{Failed}
use Rattle.catalogues.specs.declared.outcome.ConsultEnd.{ConsultEnd}
use Rattle.catalogues.specs.declared.outcome.ConsultEnd.TheVariants.{Failed as EndFailed, Memory as EndMemory}
use Rattle.catalogues.specs.declared.outcome.Offered.{Offered}
use Rattle.catalogues.specs.declared.outcome.Offered.TheVariants.{Fit}
use Rattle.catalogues.specs.declared.outcome.Rejected.{Rejected}

-- ---- one catalogue
times_none : (s : Seen) → AskedTimes 0 s s
unfolding AskedTimes
times_none s = refl

times_more : (n : ℕ) (s mid is : Seen) → IsAsked s mid → AskedTimes n mid is → AskedTimes (suc n) s is
unfolding AskedTimes
times_more n s mid is a h = (mid, a, h)

times_trans : (n m : ℕ) (s mid is : Seen) → AskedTimes n s mid → AskedTimes m mid is → Becomes s is
unfolding AskedTimes
times_trans zero m s mid is h k = (m, subst (λ mid. AskedTimes m mid is) h k)
times_trans (suc n) m s mid is h k = let r = times_trans n m h.0 mid is h.2 k in (suc r.0, times_more r.0 s h.0 is h.1 r.1)

becomes_refl : (s : Seen) → Becomes s s
becomes_refl s = (0, times_none s)

becomes_trans : (s mid is : Seen) → Becomes s mid → Becomes mid is → Becomes s is
becomes_trans s mid is h k = times_trans h.0 k.0 s mid is h.1 k.1

becomes_asked : (s is : Seen) → IsAsked s is → Becomes s is
becomes_asked s is a = (1, times_more 0 s is is a (times_none is))

unfailed_refl : (s : Seen) → BecomesUnfailed s s
unfailed_refl s = (becomes_refl s, refl)

unfailed_trans : (s mid is : Seen) → BecomesUnfailed s mid → BecomesUnfailed mid is → BecomesUnfailed s is
unfailed_trans s mid is h k = (becomes_trans s mid is h.0 k.0, k.1 ∙ h.1)

-- no count falls
pub no_fewer : (n : ℕ) (s is : Seen) → AskedTimes n s is → (s.offers ≤ is.offers) × (s.failures ≤ is.failures)
unfolding AskedTimes
no_fewer zero s is h = (omega (arith, ap (λ s. s.offers) h), omega (arith, ap (λ s. s.failures) h))
no_fewer (suc n) s is h = let r = no_fewer n h.0 is h.2 in (omega (arith, h.1.counts.more, r.0), omega (arith, h.1.counts.later, r.1))

-- ---- lists of them, whatever happens to each
module _ (Happens : (s is : Seen) → Type 0) where
  stays : (s is : Seen) (old rest : List Seen) → Happens s is → AreLeftBy Happens old rest → AreLeftBy Happens (s ∷ old) (is ∷ rest)
  unfolding AreLeftBy
  stays s is old rest p h = (is, p, inr (rest, refl, h))

  none_left : AreLeftBy Happens [] []
  unfolding AreLeftBy
  none_left = refl

  by_refl : ((s : Seen) → Happens s s) → (old : List Seen) → AreLeftBy Happens old old
  by_refl same [] = none_left
  by_refl same (s ∷ old) = stays s s old old (same s) (by_refl same old)

  -- the list gets no longer
  by_shorter : (old new : List Seen) → AreLeftBy Happens old new → length new ≤ length old
  unfolding AreLeftBy
  by_shorter [] new h = subst (λ new. length new ≤ 0) (sym h) (omega arith)
  by_shorter (s ∷ old) new (is, p, inl h) = omega (arith, by_shorter old new h.1)
  by_shorter (s ∷ old) new (is, p, inr h) = omega (arith, ap length h.1, by_shorter old h.0 h.2)

  -- what is left of those that are left
  module _ (both : (s mid is : Seen) → Happens s mid → Happens mid is → Happens s is) where
    behind : (s mid : Seen) (old rest new : List Seen) → Happens s mid → ((new : List Seen) → AreLeftBy Happens rest new → AreLeftBy Happens old new) → AreLeftBy Happens (mid ∷ rest) new → AreLeftBy Happens (s ∷ old) new
    unfolding AreLeftBy
    behind s mid old rest new p next (is, q, inl h) = (is, both s mid is p q, inl (h.0, next new h.1))
    behind s mid old rest new p next (is, q, inr h) = (is, both s mid is p q, inr (h.0, h.1, next h.0 h.2))

    by_trans : (old mid new : List Seen) → AreLeftBy Happens old mid → AreLeftBy Happens mid new → AreLeftBy Happens old new
    unfolding AreLeftBy
    by_trans [] mid new h k = subst (λ mid. AreLeftBy Happens mid new) h k
    by_trans (s ∷ old) mid new (is, p, inl h) k = (is, p, inl (h.0, by_trans old mid new h.1 k))
    by_trans (s ∷ old) mid new (is, p, inr h) k = behind s is old h.0 new p (λ new k. by_trans old h.0 new h.2 k) (subst (λ mid. AreLeftBy Happens mid new) h.1 k)

  -- the spent ones are dropped
  by_drops : ((s : Seen) → Happens s s) → (failed : Option ℕ) (i : ℕ) (old new : List Seen) → Drops failed i old new → AreLeftBy Happens old new
  unfolding AreLeftBy Drops
  by_drops same failed i [] new d = d
  by_drops same failed i (s ∷ old) new (inl d) = (s, same s, inr (d.1.0, d.1.1, by_drops same failed (i + 1) old d.1.0 d.1.2))
  by_drops same failed i (s ∷ old) new (inr d) = (s, same s, inl (d.0.1, by_drops same failed (i + 1) old new d.1))

-- more may happen
module _ (First Then : (s is : Seen) → Type 0) (more : (s is : Seen) → First s is → Then s is) where
  by_weaker : (old new : List Seen) → AreLeftBy First old new → AreLeftBy Then old new
  unfolding AreLeftBy
  by_weaker [] new h = h
  by_weaker (s ∷ old) new (is, p, inl h) = (is, more s is p, inl (h.0, by_weaker old new h.1))
  by_weaker (s ∷ old) new (is, p, inr h) = (is, more s is p, inr (h.0, h.1, by_weaker old h.0 h.2))

pub left_refl : (old : List Seen) → AreLeft old old
left_refl old = by_refl Becomes becomes_refl old

pub left_trans : (old mid new : List Seen) → AreLeft old mid → AreLeft mid new → AreLeft old new
left_trans old mid new h k = by_trans Becomes becomes_trans old mid new h k

pub left_shorter : (old new : List Seen) → AreLeft old new → length new ≤ length old
left_shorter old new h = by_shorter Becomes old new h

pub none_failed : (old : List Seen) → AreUnfailed old old
none_failed old = by_refl BecomesUnfailed unfailed_refl old

pub none_failed_trans : (old mid new : List Seen) → AreUnfailed old mid → AreUnfailed mid new → AreUnfailed old new
none_failed_trans old mid new h k = by_trans BecomesUnfailed unfailed_trans old mid new h k

pub left_unfailed : (old new : List Seen) → AreUnfailed old new → AreLeft old new
left_unfailed old new h = by_weaker BecomesUnfailed Becomes (λ s is p. p.0) old new h

-- ---- one step, and a walk
asked_none : (old : List Seen) → AreAsked 0 old old
unfolding AreAsked
asked_none old = refl

-- there is none to ask
pub asks_none : AsksFirst 0 [] []
unfolding AreAsked Drops
asks_none = record { after = []; asked = refl; drops = refl }

asked_next : (n : ℕ) (old mid new : List Seen) (was is : Seen) → AreAsked n old mid → slice_get mid n ≡ Some was → new ≡ slice_set mid n is → IsAsked was is → is.failures ≡ was.failures → AreAsked (suc n) old new
unfolding AreAsked
asked_next zero [] mid new was is h at after a f = absurd (nothing (sym (ap (λ xs. slice_get xs 0) h) ∙ at))
  where
    nothing : None ≡ Some was → ⊥
    nothing e = cc
asked_next zero (s ∷ old) mid new was is h at after a f =
    let first : s ≡ was = same_Some s was (sym (ap (λ xs. slice_get xs 0) h) ∙ at) in
    (is, old, after ∙ ap (λ xs. slice_set xs 0 is) h, subst (λ s. IsAsked s is) (sym first) a, f ∙ ap (λ s. s.failures) (sym first), refl)
asked_next (suc n) [] mid new was is h at after a f = absurd h
asked_next (suc n) (s ∷ old) mid new was is h at after a f =
    (h.0, slice_set h.1 n is, after ∙ ap (λ xs. slice_set xs (suc n) is) h.2, h.3, h.4, asked_next n old h.1 (slice_set h.1 n is) was is h.5 (sym (ap (λ xs. slice_get xs (suc n)) h.2) ∙ at) refl a f)

asked_step : (q : Query) (i : ℕ) (old mid new : List Seen) (answer : Result Offered OfferEnd) → AreAsked i old mid → StepAt q i mid new answer → answer ≢ Err Failed → AreAsked (suc i) old new
asked_step q i old mid new answer h s ne = asked_next i old mid new s.was s.is h s.at s.after (is_asked q s.was s.is answer s.asks) (unfailed q s.was s.is answer s.asks ne)

not_failed : (i : ℕ) (answer : Result Offered OfferEnd) (S R : List Rejected) → Notes i answer S R → answer ≢ Err Failed
not_failed i (Ok offered) S R n e = cc
not_failed i (Err end) S R n e = absurd n

pub asked_begun : (q : Query) (i : ℕ) (old mid : List Seen) (R : List Rejected) → Begun q i old mid R → AreAsked i old mid
unfolding Begun AreAsked
asked_begun q zero old mid R b = b.0
asked_begun q (suc i) old mid R b = asked_step q i old b.0 mid b.3.answer (asked_begun q i old b.0 b.1 b.2) b.3.asks (not_failed i b.3.answer b.1 R b.3.notes)

asked_reached : (q : Query) (old new : List Seen) (number : ℕ) (R : List Rejected) (answer : Result Offered OfferEnd) → Reached q old new number R answer → answer ≢ Err Failed → AreAsked number old new
asked_reached q old new number R answer r ne =
    subst (λ n. AreAsked n old new) (sym (r.counts ∙ add-one r.place)) (asked_step q r.place old r.before new answer (asked_begun q r.place old r.before R r.begun) r.asks ne)

asked_walk : (q : Query) (old new : List Seen) (R : List Rejected) (valid : Option (ℕ × List (List ℕ))) → WalksTo q old new R valid → AreAsked (count_asked (length old) valid) old new
asked_walk q old new R None b = asked_begun q (length old) old new R b
asked_walk q old new R (Some p) r = asked_reached q old new p.0 R (Ok (Fit p.1)) r (λ e. cc)

-- the first ones were asked, up to a valid offer or the want of memory
pub asks_first : (q : Query) (old new : List Seen) (R : List Rejected) (valid : Option (ℕ × List (List ℕ))) → Consults q old new R valid → EndsAtValid old new valid
asks_first q old new R valid c = record { after = c.after; asked = asked_walk q old c.after R valid c.walks; drops = c.drops }

pub asks_cut : (q : Query) (old new : List Seen) → EndsConsult q old new EndMemory → (n : ℕ) × AsksFirst n old new
asks_cut q old new c = let w = c.walks in (w.0, record { after = c.after; asked = asked_reached q old c.after w.0 w.1 w.2 w.4 w.3; drops = c.drops })

asked_unfailed : (n : ℕ) (old new : List Seen) → AreAsked n old new → AreUnfailed old new
unfolding AreAsked
asked_unfailed zero old new h = subst (AreUnfailed old) (sym h) (none_failed old)
asked_unfailed (suc n) [] new h = absurd h
asked_unfailed (suc n) (s ∷ old) new h = subst (AreUnfailed (s ∷ old)) (sym h.2) (stays BecomesUnfailed s h.0 old h.1 (becomes_asked s h.0 h.3, h.4) (asked_unfailed n old h.1 h.5))

pub first_unfailed : (n : ℕ) (old new : List Seen) → AsksFirst n old new → AreUnfailed old new
first_unfailed n old new a = none_failed_trans old a.after new (asked_unfailed n old a.after a.asked) (by_drops BecomesUnfailed unfailed_refl None 0 a.after new a.drops)

-- ---- and where one of them failed
left_set : (old : List Seen) (i : ℕ) (was is : Seen) → slice_get old i ≡ Some was → Becomes was is → AreLeft old (slice_set old i is)
left_set [] i was is e h = left_refl []
left_set (s ∷ old) zero was is e h = stays Becomes s is old old (subst (λ s. Becomes s is) (sym (same_Some s was e)) h) (left_refl old)
left_set (s ∷ old) (suc i) was is e h = stays Becomes s s old (slice_set old i is) (becomes_refl s) (left_set old i was is e h)

left_reached : (q : Query) (old new : List Seen) (number : ℕ) (R : List Rejected) (answer : Result Offered OfferEnd) → Reached q old new number R answer → AreLeft old new
left_reached q old new number R answer r =
    let s = r.asks in
    left_trans old r.before new (left_unfailed old r.before (asked_unfailed r.place old r.before (asked_begun q r.place old r.before R r.begun)))
    (subst (AreLeft r.before) (sym s.after) (left_set r.before r.place s.was s.is s.at (becomes_asked s.was s.is (is_asked q s.was s.is answer s.asks))))

pub left_after : (q : Query) (old new : List Seen) (R : List Rejected) (valid : Option (ℕ × List (List ℕ))) → Consults q old new R valid → AreLeft old new
left_after q old new R valid c = left_unfailed old new (first_unfailed (count_asked (length old) valid) old new (asks_first q old new R valid c))

left_walk : (q : Query) (old new : List Seen) (end : ConsultEnd) → EndsWalk q old new end → AreLeft old new
left_walk q old new (EndFailed number) w = left_reached q old new number w.0 (Err Failed) w.1
left_walk q old new EndMemory w = left_reached q old new w.0 w.1 w.2 w.4

pub left_after_end : (q : Query) (old new : List Seen) (end : ConsultEnd) → EndsConsult q old new end → AreLeft old new
left_after_end q old new end c = left_trans old c.after new (left_walk q old c.after end c.walks) (by_drops Becomes becomes_refl _ 0 c.after new c.drops)
