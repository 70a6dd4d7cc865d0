-- What asking catalogues comes to.
use Rattle.std.proofs.Common.{[], false, length, true, suc, zero, ◌++◌, ◌∷◌}
use Rattle.std.specs.Prelude.{All, IfSome, List, None, Option, Result, Some, drop, slice_set, slice_get, take, ℕ, ◌+◌, ◌≡◌, ◌≢◌, ◌≤◌, ◌⊎◌}
use Rattle.std.specs.List.{remove}
use Rattle.std.specs.declared.result.Result.TheVariants.{Err, Ok}
use Rattle.design_base.specs.Canonical.{canonical}
use Rattle.design_base.specs.Meets.{Meets}
use Rattle.design_base.specs.declared.query.Query.{Query}
use Rattle.design_checks.specs.Findings.{finding}
use Rattle.design_checks.specs.declared.finding.Finding.{Finding}
use Rattle.design_checks.specs.declared.finding.Finding.TheVariants.{Valid as valid}
use Rattle.design_io.specs.Faults.{counted}
use Rattle.catalogues.specs.Entries.{Counts, Gives, IsSpent, Seen}
use Rattle.catalogues.specs.Left.{AreAsked}
use Rattle.catalogues.specs.declared.catalogue.OfferEnd.{OfferEnd}
use Rattle.catalogues.specs.declared.catalogue.OfferEnd.TheVariants.{Failed, Memory}
use Rattle.catalogues.specs.declared.outcome.Offered.{Offered}
use Rattle.catalogues.specs.declared.outcome.Rejected.{Rejected}
use Rattle.catalogues.specs.declared.outcome.ConsultEnd.{ConsultEnd}
use Rattle.catalogues.specs.declared.outcome.ConsultEnd.TheVariants.{Failed as EndFailed, Memory as EndMemory}
use Rattle.catalogues.specs.declared.outcome.Offered.TheVariants.{Fit, Nothing, Unfit}

-- this was found of the canonical form of a block list, and it is no design of the question
pub record IsUnfit (q : Query) (found : Finding) : Type 0 where
  pub blocks : List (List ℕ)
  pub found_is : found ≡ finding q (canonical blocks)
  pub unfit : found ≢ valid

-- this is a design of the question, and the canonical form of a block list
pub record IsFit (q : Query) (C : List (List ℕ)) : Type 0 where
  pub blocks : List (List ℕ)
  pub form : C ≡ canonical blocks
  pub passes : finding q C ≡ valid
  pub meets : Meets q C

-- an offer was put in canonical form and checked
abbrev pub IsExamined : Query → List (List ℕ) → Offered → Type 0
IsExamined q B Nothing = ⊥
IsExamined q B (Unfit found) = (found ≡ finding q (canonical B)) × (found ≢ valid)
IsExamined q B (Fit C) = (C ≡ canonical B) × ((finding q C ≡ valid) × Meets q C)

-- what an offer came to: it was examined, or there was no memory for that
abbrev pub ComesTo : Query → Result (Option (List (List ℕ))) OfferEnd → Result Offered OfferEnd → Type 0
ComesTo q (Ok None) answer = answer ≡ Ok Nothing
ComesTo q (Ok (Some B)) (Ok offered) = IsExamined q B offered
ComesTo q (Ok (Some B)) (Err end) = end ≡ Memory
ComesTo q (Err end) answer = answer ≡ Err end

-- one catalogue was asked, once
pub record Asks (q : Query) (old new : Seen) (answer : Result Offered OfferEnd) : Type 0 where
  pub offer : Result (Option (List (List ℕ))) OfferEnd
  pub given : Gives q old new offer
  pub counts : Counts old new offer
  pub comes : ComesTo q offer answer

-- the catalogue at place i was asked, and no other
pub record StepAt (q : Query) (i : ℕ) (old new : List Seen) (answer : Result Offered OfferEnd) : Type 0 where
  pub was : Seen
  pub is : Seen
  pub at : slice_get old i ≡ Some was
  pub after : new ≡ slice_set old i is
  pub asks : Asks q was is answer

-- catalogue i offered no valid list, and the refusals so far
abbrev pub Notes : ℕ → Result Offered OfferEnd → List Rejected → List Rejected → Type 0
Notes i (Ok Nothing) S R = R ≡ S
Notes i (Ok (Unfit found)) S R = R ≡ S ++ (record { number = i + 1; finding = found }) ∷ []
Notes i (Ok (Fit C)) S R = ⊥
Notes i (Err end) S R = ⊥

pub record Passed (q : Query) (i : ℕ) (old new : List Seen) (S R : List Rejected) : Type 0 where
  pub answer : Result Offered OfferEnd
  pub asks : StepAt q i old new answer
  pub notes : Notes i answer S R

-- the catalogues at the places below i were asked in order, each once; none offered a valid list, and R are the refusals
unfoldable pub Begun : Query → ℕ → List Seen → List Seen → List Rejected → Type 0
Begun q zero old new R = (new ≡ old) × (R ≡ [])
Begun q (suc i) old new R = (mid : List Seen) × (S : List Rejected) × (Begun q i old mid S) × Passed q i mid new S R

-- how the catalogue at place i was asked: it offered no valid list, or one, or the asking ends
abbrev pub Steps : Query → ℕ → List Seen → List Seen → List Rejected → List Rejected → Result (Option (List (List ℕ))) ConsultEnd → Type 0
Steps q i old new S R (Ok None) = Passed q i old new S R
Steps q i old new S R (Ok (Some C)) = StepAt q i old new (Ok (Fit C)) × (R ≡ S)
Steps q i old new S R (Err (EndFailed number)) = StepAt q i old new (Err Failed) × (number ≡ i + 1)
Steps q i old new S R (Err EndMemory) = (answer : Result Offered OfferEnd) × (answer ≢ Err Failed) × StepAt q i old new answer

-- the catalogues before place i were asked, and then the one at place i
pub record Reached (q : Query) (old new : List Seen) (number : ℕ) (R : List Rejected) (answer : Result Offered OfferEnd) : Type 0 where
  pub place : ℕ
  pub before : List Seen
  pub begun : Begun q place old before R
  pub asks : StepAt q place before new answer
  pub counts : number ≡ place + 1

abbrev pub WalksTo : Query → List Seen → List Seen → List Rejected → Option (ℕ × List (List ℕ)) → Type 0
WalksTo q old new R None = Begun q (length old) old new R
WalksTo q old new R (Some p) = Reached q old new p.0 R (Ok (Fit p.1))

abbrev pub EndsWalk : Query → List Seen → List Seen → ConsultEnd → Type 0
EndsWalk q old new (EndFailed number) = (R : List Rejected) × Reached q old new number R (Err Failed)
EndsWalk q old new EndMemory = (number : ℕ) × (R : List Rejected) × (answer : Result Offered OfferEnd) × (answer ≢ Err Failed) × Reached q old new number R answer

-- the number of a catalogue is its place, from 1; the one that failed stays, and so does one that is not spent
abbrev pub MayStay : Option ℕ → ℕ → Seen → Type 0
MayStay failed i s = (failed ≡ Some (i + 1)) ⊎ IsSpent s false

abbrev pub MayGo : Option ℕ → ℕ → Seen → Type 0
MayGo failed i s = (failed ≢ Some (i + 1)) × IsSpent s true

-- the catalogues from place i on: the spent ones are dropped, but for the one that failed
unfoldable pub Drops : Option ℕ → ℕ → List Seen → List Seen → Type 0
Drops failed i [] new = new ≡ []
Drops failed i (s ∷ old) new = (MayStay failed i s × ((rest : List Seen) × (new ≡ s ∷ rest) × Drops failed (i + 1) old rest)) ⊎ (MayGo failed i s × Drops failed (i + 1) old new)

-- the catalogue at place i stays, or it is dropped
pub record DropsAt (failed : Option ℕ) (i : ℕ) (old new : List Seen) : Type 0 where
  pub is : Seen
  pub at : slice_get old i ≡ Some is
  pub choice : (MayStay failed i is × (new ≡ old)) ⊎ (MayGo failed i is × (new ≡ remove old i))

-- the catalogues from place m on were looked at, and those before it are as they were
pub record DropsFrom (failed : Option ℕ) (m : ℕ) (old now : List Seen) : Type 0 where
  pub within : m ≤ length old
  pub suffix : List Seen
  pub kept : now ≡ take m old ++ suffix
  pub drops : Drops failed m (drop m old) suffix

-- the number of the catalogue that failed
abbrev pub failed_of : ConsultEnd → Option ℕ
failed_of (EndFailed number) = Some number
failed_of EndMemory = None

-- the catalogues were asked in order, up to the first valid offer, and then the spent ones were dropped
pub record Consults (q : Query) (old new : List Seen) (R : List Rejected) (valid : Option (ℕ × List (List ℕ))) : Type 0 where
  pub after : List Seen
  pub walks : WalksTo q old after R valid
  pub drops : Drops None 0 after new

-- they were asked in order, up to a refusal, and then the spent ones were dropped, but for one that failed
pub record EndsConsult (q : Query) (old new : List Seen) (end : ConsultEnd) : Type 0 where
  pub after : List Seen
  pub walks : EndsWalk q old after end
  pub drops : Drops (failed_of end) 0 after new

-- a valid offer is a design of the question, and each rejected one carries what a check found of a list
pub record AreSound (q : Query) (R : List Rejected) (offer : Option (ℕ × List (List ℕ))) : Type 0 where
  pub meets : IfSome offer (λ p. Meets q p.1)
  pub rejected : All (λ r. IsUnfit q r.finding) R

-- the first n of the catalogues were asked, each once and without a failed offer, the others not, and then the spent ones were dropped
pub record AsksFirst (n : ℕ) (old new : List Seen) : Type 0 where
  pub after : List Seen
  pub asked : AreAsked n old after
  pub drops : Drops None 0 after new

-- how many catalogues are asked: all, or those up to the one with a valid offer
abbrev pub count_asked : {T : Type 0} → ℕ → Option (ℕ × T) → ℕ
count_asked count None = count
count_asked count (Some offer) = offer.0

abbrev pub EndsAtValid : List Seen → List Seen → Option (ℕ × List (List ℕ)) → Type 0
EndsAtValid old new offer = AsksFirst (count_asked (length old) offer) old new

-- what is seen of a catalogue after an offer that failed
abbrev pub after_failure : Seen → Seen
after_failure s = record s { offers = counted s.offers; failures = counted s.failures }

-- the offer of the catalogue with this number failed, and it stays; of those before it each was asked once, those behind it were not, and the spent ones among them were dropped
pub record HasFailed (old new : List Seen) (number : ℕ) : Type 0 where
  pub place : ℕ
  pub counts : number ≡ place + 1
  pub was : Seen
  pub at : slice_get old place ≡ Some was
  pub front : List Seen
  pub rest : List Seen
  pub parts : new ≡ front ++ after_failure was ∷ rest
  pub before : AsksFirst place (take place old) front
  pub behind : Drops None 0 (drop number old) rest

-- how the asking ended: an offer failed, or there was no memory, and no offer had failed
abbrev pub HasEnded : List Seen → List Seen → ConsultEnd → Type 0
HasEnded old new (EndFailed number) = HasFailed old new number
HasEnded old new EndMemory = (n : ℕ) × AsksFirst n old new
