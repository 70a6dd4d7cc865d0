-- What one asking says of the offer, of the entries and of the counts.
use Rattle.std.proofs.Common.{List, ap, inl, inr, refl, subst, sym, ℕ, ◌∙◌, ◌≡◌, ◌≢◌, ◌⊎◌, Bool}
use Rattle.std.specs.Prelude.{IfSome, None, Option, Result, Some, ⊤}
use Rattle.std.specs.declared.result.Result.TheVariants.{Err, Ok}
use Rattle.design_base.specs.Canonical.{canonical}
use Rattle.design_base.specs.Meets.{Meets}
use Rattle.design_base.specs.declared.query.Query.{Query}
use Rattle.design_checks.specs.Findings.{finding}
use Rattle.design_checks.specs.declared.finding.Finding.TheVariants.{Valid as valid}
use Rattle.design_io.specs.Faults.{counted}
use Rattle.catalogues.specs.Consults.{Asks, ComesTo, IsUnfit, after_failure}
use Rattle.catalogues.specs.Entries.{Counts, Gives, Seen, failures_after, take_out}
use Rattle.catalogues.specs.Left.{IsAsked}
use Rattle.catalogues.specs.declared.catalogue.Entry.{Entry}
use Rattle.catalogues.specs.declared.catalogue.OfferEnd.{OfferEnd}
use Rattle.catalogues.specs.declared.catalogue.OfferEnd.TheVariants.{Failed, Memory}
use Rattle.catalogues.specs.declared.outcome.Offered.{Offered}
use Rattle.catalogues.specs.declared.outcome.Offered.TheVariants.{Fit, Nothing, Unfit}

abbrev pub Offer : Type 0
Offer = Result (Option (List (List ℕ))) OfferEnd

-- this is a design of the question, and the canonical form of a block list
pub record IsFit (q : Query) (C : List (List ℕ)) : Type 0 where
  pub blocks : List (List ℕ)
  pub form : C ≡ canonical blocks
  pub passes : finding q C ≡ valid
  pub meets : Meets q C

-- whether entries are told or not, an offer is valid only where it is a design of the question
abbrev pub IsAnswer : Query → Result Offered OfferEnd → Type 0
IsAnswer q (Ok Nothing) = ⊤
IsAnswer q (Ok (Unfit found)) = IsUnfit q found
IsAnswer q (Ok (Fit C)) = IsFit q C
IsAnswer q (Err end) = ⊤

-- of entries that are told, what the answer says of the first one of the question, and which stay
abbrev pub IsToldAnswer : Query → List Entry → Option (List Entry) → Result Offered OfferEnd → Type 0
IsToldAnswer q es new (Ok Nothing) = ((take_out q es).blocks ≡ None) × (new ≡ Some (take_out q es).entries)
IsToldAnswer q es new (Ok (Unfit found)) = (B : List (List ℕ)) × ((take_out q es).blocks ≡ Some B) × (found ≡ finding q (canonical B)) × (new ≡ Some (take_out q es).entries)
IsToldAnswer q es new (Ok (Fit C)) = (B : List (List ℕ)) × ((take_out q es).blocks ≡ Some B) × (C ≡ canonical B) × (new ≡ Some (take_out q es).entries)
IsToldAnswer q es new (Err Failed) = new ≡ Some es
IsToldAnswer q es new (Err Memory) = (new ≡ Some es) ⊎ (new ≡ Some (take_out q es).entries)

-- ---- the offer
by_offer : (q : Query) (offer : Offer) (answer : Result Offered OfferEnd) → ComesTo q offer answer → IsAnswer q answer
by_offer q (Ok None) answer e = subst (IsAnswer q) (sym e) tt
by_offer q (Ok (Some B)) (Ok Nothing) e = absurd e
by_offer q (Ok (Some B)) (Ok (Unfit found)) e = record { blocks = B; found_is = e.0; unfit = e.1 }
by_offer q (Ok (Some B)) (Ok (Fit C)) e = record { blocks = B; form = e.0; passes = e.1.0; meets = e.1.1 }
by_offer q (Ok (Some B)) (Err end) e = tt
by_offer q (Err end) answer e = subst (IsAnswer q) (sym e) tt

pub lawful : (q : Query) (old new : Seen) (answer : Result Offered OfferEnd) → Asks q old new answer → IsAnswer q answer
lawful q old new answer a = by_offer q a.offer answer a.comes

-- ---- the entries
-- what was given, where entries are told
abbrev GivesOf : Query → List Entry → Option (List Entry) → Offer → Type 0
GivesOf q es new (Ok blocks) = (blocks ≡ (take_out q es).blocks) × (new ≡ Some (take_out q es).entries)
GivesOf q es new (Err end) = new ≡ Some es

gives_of : (q : Query) (old new : Seen) (offer : Offer) (es : List Entry) → old.told ≡ Some es → Gives q old new offer → GivesOf q es new.told offer
gives_of q old new (Ok blocks) es e g = subst (λ told. IfSome told (λ es. (blocks ≡ (take_out q es).blocks) × (new.told ≡ Some (take_out q es).entries))) e g
gives_of q old new (Err end) es e g = g.0 ∙ e

told_by : (q : Query) (es : List Entry) (new : Option (List Entry)) (offer : Offer) (answer : Result Offered OfferEnd) → GivesOf q es new offer → ComesTo q offer answer → IsToldAnswer q es new answer
told_by q es new (Ok None) answer g e = subst (IsToldAnswer q es new) (sym e) (sym g.0, g.1)
told_by q es new (Ok (Some B)) (Ok Nothing) g e = absurd e
told_by q es new (Ok (Some B)) (Ok (Unfit found)) g e = (B, sym g.0, e.0, g.1)
told_by q es new (Ok (Some B)) (Ok (Fit C)) g e = (B, sym g.0, e.0, g.1)
told_by q es new (Ok (Some B)) (Err Failed) g e = cc
told_by q es new (Ok (Some B)) (Err Memory) g e = inr g.1
told_by q es new (Err Failed) answer g e = subst (IsToldAnswer q es new) (sym e) g
told_by q es new (Err Memory) answer g e = subst (IsToldAnswer q es new) (sym e) (inl g)

where_some : {X : Type 0} (P : X → Type 0) (o : Option X) → ((x : X) → o ≡ Some x → P x) → IfSome o P
where_some P None h = tt
where_some P (Some x) h = h x refl

pub told : (q : Query) (old new : Seen) (answer : Result Offered OfferEnd) → Asks q old new answer → IfSome old.told (λ es. IsToldAnswer q es new.told answer)
told q old new answer a = where_some (λ es. IsToldAnswer q es new.told answer) old.told (λ es e. told_by q es new.told a.offer answer (gives_of q old new a.offer es e a.given) a.comes)

-- ---- the counts
pub is_asked : (q : Query) (old new : Seen) (answer : Result Offered OfferEnd) → Asks q old new answer → IsAsked old new
is_asked q old new answer a = record { query = q; answer = a.offer; given = a.given; counts = a.counts }

unfailed_by : (q : Query) (before now : ℕ) (offer : Offer) (answer : Result Offered OfferEnd) → ComesTo q offer answer → answer ≢ Err Failed → now ≡ failures_after before offer → now ≡ before
unfailed_by q before now (Ok blocks) answer e ne c = c
unfailed_by q before now (Err Failed) answer e ne c = absurd (ne e)
unfailed_by q before now (Err Memory) answer e ne c = c

pub unfailed : (q : Query) (old new : Seen) (answer : Result Offered OfferEnd) → Asks q old new answer → answer ≢ Err Failed → new.failures ≡ old.failures
unfailed q old new answer a ne = unfailed_by q old.failures new.failures a.offer answer a.comes ne a.counts.failures

seen_as : (s : Seen) (t : Option (List Entry)) (p : Bool) (o f : ℕ) → s.told ≡ t → s.spent ≡ p → s.offers ≡ o → s.failures ≡ f → s ≡ record { told = t; spent = p; offers = o; failures = f }
seen_as s t p o f et ep eo ef =
    ap (λ t. record { told = t; spent = s.spent; offers = s.offers; failures = s.failures }) et
    ∙ ap (λ p. record { told = t; spent = p; offers = s.offers; failures = s.failures }) ep
    ∙ ap (λ o. record { told = t; spent = p; offers = o; failures = s.failures }) eo
    ∙ ap (λ f. record { told = t; spent = p; offers = o; failures = f }) ef

failed_by : (q : Query) (old new : Seen) (offer : Offer) → ComesTo q offer (Err Failed) → Gives q old new offer → Counts old new offer → new ≡ after_failure old
failed_by q old new (Ok None) e g c = cc
failed_by q old new (Ok (Some B)) e g c = cc
failed_by q old new (Err Failed) e g c = seen_as new old.told old.spent (counted old.offers) (counted old.failures) g.0 g.1 c.offers c.failures
failed_by q old new (Err Memory) e g c = cc

pub failed : (q : Query) (old new : Seen) → Asks q old new (Err Failed) → new ≡ after_failure old
failed q old new a = failed_by q old new a.offer a.comes a.given a.counts
