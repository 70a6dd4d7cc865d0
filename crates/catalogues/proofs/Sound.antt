-- What is valid, and what is rejected.
use Rattle.std.proofs.Common.{List, [], length, subst, suc, sym, zero, ℕ, ◌+◌, ◌∷◌}
use Rattle.std.proofs.lemmas.List.Elements.{All-append, All-cons, All-nil}
use Rattle.std.specs.Prelude.{All, None, Option, Result, Some}
use Rattle.std.specs.declared.result.Result.TheVariants.{Err, Ok}
use Rattle.design_base.specs.declared.query.Query.{Query}
use Rattle.catalogues.specs.declared.outcome.Rejected.{Rejected}
use Rattle.catalogues.specs.Entries.{Seen}
use Rattle.catalogues.proofs.Offers.{IsAnswer, lawful}
use Rattle.catalogues.specs.Consults.{AreSound, Begun, Consults, IsUnfit, Notes, WalksTo}
use Rattle.catalogues.specs.declared.catalogue.OfferEnd.{OfferEnd}
use Rattle.catalogues.specs.declared.outcome.Offered.{Offered}
use Rattle.catalogues.specs.declared.outcome.Offered.TheVariants.{Fit, Nothing, Unfit}

abbrev AllUnfit : Query → List Rejected → Type 0
AllUnfit q R = All (λ r. IsUnfit q r.finding) R

noted : (q : Query) (i : ℕ) (answer : Result Offered OfferEnd) (S R : List Rejected) → IsAnswer q answer → Notes i answer S R → AllUnfit q S → AllUnfit q R
noted q i (Ok Nothing) S R a n h = subst (AllUnfit q) (sym n) h
noted q i (Ok (Unfit found)) S R a n h = subst (AllUnfit q) (sym n) (All-append (λ r. IsUnfit q r.finding) S ((record { number = i + 1; finding = found }) ∷ []) h
    (All-cons (λ r. IsUnfit q r.finding) (record { number = i + 1; finding = found }) [] a (All-nil (λ r. IsUnfit q r.finding))))
noted q i (Ok (Fit C)) S R a n h = absurd n
noted q i (Err end) S R a n h = absurd n

rejected : (q : Query) (i : ℕ) (old mid : List Seen) (R : List Rejected) → Begun q i old mid R → AllUnfit q R
unfolding Begun
rejected q zero old mid R b = subst (AllUnfit q) (sym b.1) (All-nil (λ r. IsUnfit q r.finding))
rejected q (suc i) old mid R b = noted q i b.3.answer b.1 R (lawful q b.3.asks.was b.3.asks.is b.3.answer b.3.asks.asks) b.3.notes (rejected q i old b.0 b.1 b.2)

sound_walk : (q : Query) (old new : List Seen) (R : List Rejected) (offer : Option (ℕ × List (List ℕ))) → WalksTo q old new R offer → AreSound q R offer
sound_walk q old new R None b = record { meets = tt; rejected = rejected q (length old) old new R b }
sound_walk q old new R (Some p) r = record { meets = (lawful q r.asks.was r.asks.is (Ok (Fit p.1)) r.asks.asks).meets; rejected = rejected q r.place old r.before R r.begun }

pub sound : (q : Query) (old new : List Seen) (R : List Rejected) (offer : Option (ℕ × List (List ℕ))) → Consults q old new R offer → AreSound q R offer
sound q old new R offer c = sound_walk q old c.after R offer c.walks
