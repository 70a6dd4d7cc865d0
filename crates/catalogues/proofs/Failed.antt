-- The catalogue that failed stays, between what is left of those before it and of those behind it.
use Rattle.std.proofs.Common.{List, [], add-one, ap, arith, inl, inr, refl, subst, suc, sym, zero, ℕ, ◌++◌, ◌+◌, ◌<◌, ◌∙◌, ◌∷◌, ◌≡◌, ◌≢◌, ◌≤◌, slice_set}
use Rattle.std.proofs.lemmas.Option.{same_Some}
use Rattle.std.specs.Prelude.{None, Option, Result, Some, drop, slice_get, take}
use Rattle.std.specs.declared.result.Result.TheVariants.{Err}
use Rattle.design_base.specs.declared.query.Query.{Query}
use Rattle.catalogues.specs.declared.outcome.Rejected.{Rejected}
use Rattle.catalogues.specs.Entries.{Seen}
use Rattle.catalogues.proofs.Left.{asked_begun, asks_cut}
use Rattle.catalogues.proofs.Offers.{failed}
use Rattle.catalogues.specs.Consults.{Begun, Drops, EndsConsult, HasEnded, HasFailed, MayGo, MayStay, Reached}
use Rattle.catalogues.specs.Left.{AreAsked}
use Rattle.catalogues.specs.declared.outcome.Offered.{Offered}
use Rattle.catalogues.specs.declared.catalogue.OfferEnd.{OfferEnd}
use Rattle.catalogues.specs.declared.catalogue.OfferEnd.TheVariants.{Failed}
use Rattle.catalogues.specs.declared.outcome.ConsultEnd.{ConsultEnd}
use Rattle.catalogues.specs.declared.outcome.ConsultEnd.TheVariants.{Failed as EndFailed, Memory as EndMemory}

get_other : {X : Type 0} (xs : List X) (i j : ℕ) (x : X) → i < j → slice_get (slice_set xs i x) j ≡ slice_get xs j
get_other [] i j x l = refl
get_other (y ∷ xs) i zero x l = absurd (omega arith)
get_other (y ∷ xs) zero (suc j) x l = refl
get_other (y ∷ xs) (suc i) (suc j) x l = get_other xs i j x (omega arith)

get_same : {X : Type 0} (xs : List X) (i : ℕ) (x y : X) → slice_get xs i ≡ Some y → slice_get (slice_set xs i x) i ≡ Some x
get_same [] i x y e = cc
get_same (z ∷ xs) zero x y e = refl
get_same (z ∷ xs) (suc i) x y e = get_same xs i x y e

-- the catalogues that were not asked are as they were
pub unasked : (q : Query) (i : ℕ) (old mid : List Seen) (R : List Rejected) → Begun q i old mid R → (j : ℕ) → i ≤ j → slice_get mid j ≡ slice_get old j
unfolding Begun
unasked q zero old mid R b j l = ap (λ xs. slice_get xs j) b.0
unasked q (suc i) old mid R b j l = ap (λ xs. slice_get xs j) b.3.asks.after ∙ get_other b.0 i j b.3.asks.is (omega arith) ∙ unasked q i old b.0 b.1 b.2 j (omega arith)

-- the same of all of them
drop_other : {X : Type 0} (xs : List X) (i j : ℕ) (x : X) → i < j → drop j (slice_set xs i x) ≡ drop j xs
drop_other [] i j x l = refl
drop_other (y ∷ xs) i zero x l = absurd (omega arith)
drop_other (y ∷ xs) zero (suc j) x l = refl
drop_other (y ∷ xs) (suc i) (suc j) x l = drop_other xs i j x (omega arith)

rest_of_begun : (q : Query) (i : ℕ) (old mid : List Seen) (R : List Rejected) → Begun q i old mid R → (j : ℕ) → i ≤ j → drop j mid ≡ drop j old
unfolding Begun
rest_of_begun q zero old mid R b j l = ap (drop j) b.0
rest_of_begun q (suc i) old mid R b j l = ap (drop j) b.3.asks.after ∙ drop_other b.0 i j b.3.asks.is (omega arith) ∙ rest_of_begun q i old b.0 b.1 b.2 j (omega arith)

rest_of_reached : (q : Query) (old after : List Seen) (number : ℕ) (R : List Rejected) (answer : Result Offered OfferEnd) → Reached q old after number R answer → drop number after ≡ drop number old
rest_of_reached q old after number R answer r =
    ap (drop number) r.asks.after ∙ drop_other r.before r.place number r.asks.is (omega (arith, r.counts)) ∙ rest_of_begun q r.place old r.before R r.begun number (omega (arith, r.counts))

-- ---- the one that failed parts the others
-- by the number of the one that failed none of the others is kept
stay_unnamed : (failed : Option ℕ) (i j : ℕ) (s : Seen) → failed ≢ Some (i + 1) → MayStay failed i s → MayStay None j s
stay_unnamed failed i j s ne (inl e) = absurd (ne e)
stay_unnamed failed i j s ne (inr h) = inr h

go_unnamed : (failed : Option ℕ) (i j : ℕ) (s : Seen) → MayGo failed i s → MayGo None j s
go_unnamed failed i j s h = ((λ e. cc), h.1)

drops_unnamed : (number i j : ℕ) (old new : List Seen) → number ≤ i → Drops (Some number) i old new → Drops None j old new
unfolding Drops
drops_unnamed number i j [] new l d = d
drops_unnamed number i j (s ∷ old) new l (inl d) = inl (stay_unnamed (Some number) i j s (other number i l) d.0, (d.1.0, d.1.1, drops_unnamed number (i + 1) (j + 1) old d.1.0 (omega arith) d.1.2))
  where
    same : (n m : ℕ) → Some n ≡ Some m → n ≡ m
    same n m e = same_Some n m e

    other : (number i : ℕ) → number ≤ i → Some number ≢ Some (i + 1)
    other number i l e = absurd (omega (arith, l, same number (i + 1) e))
drops_unnamed number i j (s ∷ old) new l (inr d) = inr (go_unnamed (Some number) i j s d.0, drops_unnamed number (i + 1) (j + 1) old new (omega arith) d.1)

record Parts (n : ℕ) (x : Seen) (old new : List Seen) : Type 0 where
  front : List Seen
  rest : List Seen
  parts : new ≡ front ++ x ∷ rest
  before : (j : ℕ) → Drops None j (take n old) front
  behind : Drops None 0 (drop (suc n) old) rest

drops_none : (j : ℕ) → Drops None j [] []
unfolding Drops
drops_none j = refl

parted : (number i n : ℕ) (x : Seen) (old new : List Seen) → number ≡ i + n + 1 → slice_get old n ≡ Some x → Drops (Some number) i old new → Parts n x old new
unfolding Drops
parted number i n x [] new e at d = absurd (nothing at)
  where
    nothing : None ≡ Some x → ⊥
    nothing e = cc
parted number i zero x (s ∷ old) new e at (inl d) = record {
  front = [];
  rest = d.1.0;
  parts = d.1.1 ∙ ap (λ s. s ∷ d.1.0) (same_Some s x at);
  before = λ j. drops_none j;
  behind = drops_unnamed number (i + 1) 0 old d.1.0 (omega (arith, e)) d.1.2;
}
parted number i zero x (s ∷ old) new e at (inr d) = absurd (d.0.0 (ap Some (omega (arith, e))))
parted number i (suc n) x (s ∷ old) new e at (inl d) = let p = parted number (i + 1) n x old d.1.0 (omega (arith, e)) at d.1.2 in record {
  front = s ∷ p.front;
  rest = p.rest;
  parts = d.1.1 ∙ ap (λ xs. s ∷ xs) p.parts;
  before = λ j. inl (stay_unnamed (Some number) i j s (other number i n e) d.0, (p.front, refl, p.before (j + 1)));
  behind = p.behind;
}
  where
    same : (n m : ℕ) → Some n ≡ Some m → n ≡ m
    same n m e = same_Some n m e

    other : (number i n : ℕ) → number ≡ i + suc n + 1 → Some number ≢ Some (i + 1)
    other number i n e f = absurd (omega (arith, e, same number (i + 1) f))
parted number i (suc n) x (s ∷ old) new e at (inr d) = let p = parted number (i + 1) n x old new (omega (arith, e)) at d.1 in record {
  front = p.front;
  rest = p.rest;
  parts = p.parts;
  before = λ j. inr (go_unnamed (Some number) i j s d.0, p.before (j + 1));
  behind = p.behind;
}

-- those before a place
asked_front : (n : ℕ) (old new : List Seen) → AreAsked n old new → AreAsked n (take n old) (take n new)
unfolding AreAsked
asked_front zero old new h = refl
asked_front (suc n) [] new h = absurd h
asked_front (suc n) (s ∷ old) new h = (h.0, take n h.1, ap (take (suc n)) h.2, h.3, h.4, asked_front n old h.1 h.5)

take_before : {X : Type 0} (xs : List X) (i : ℕ) (x : X) → take i (slice_set xs i x) ≡ take i xs
take_before [] i x = refl
take_before (y ∷ xs) zero x = refl
take_before (y ∷ xs) (suc i) x = ap (λ xs. y ∷ xs) (take_before xs i x)

failed_walk : (q : Query) (old after new : List Seen) (number : ℕ) (R : List Rejected) → Reached q old after number R (Err Failed) → Drops (Some number) 0 after new → HasFailed old new number
failed_walk q old after new number R r d =
    let s = r.asks in
    let p = parted number 0 r.place s.is after new (omega (arith, r.counts)) (ap (λ xs. slice_get xs r.place) s.after ∙ get_same r.before r.place s.is s.was s.at) d in
    let asked : AreAsked r.place (take r.place old) (take r.place after) =
    subst (AreAsked r.place (take r.place old)) (sym (ap (take r.place) s.after ∙ take_before r.before r.place s.is)) (asked_front r.place old r.before (asked_begun q r.place old r.before R r.begun)) in record {
      place = r.place;
      counts = r.counts;
      was = s.was;
      at = sym (unasked q r.place old r.before R r.begun r.place (omega arith)) ∙ s.at;
      front = p.front;
      rest = p.rest;
      parts = p.parts ∙ ap (λ is. p.front ++ is ∷ p.rest) (failed q s.was s.is s.asks);
      before = record { after = take r.place after; asked = asked; drops = p.before 0 };
      behind = subst (λ xs. Drops None 0 xs p.rest) (ap (λ n. drop n after) (sym (r.counts ∙ add-one r.place)) ∙ rest_of_reached q old after number R (Err Failed) r) p.behind;
    }

pub by_end : (q : Query) (old new : List Seen) (end : ConsultEnd) → EndsConsult q old new end → HasEnded old new end
by_end q old new (EndFailed number) e = failed_walk q old e.after new number e.walks.0 e.walks.1 e.drops
by_end q old new EndMemory e = asks_cut q old new e
