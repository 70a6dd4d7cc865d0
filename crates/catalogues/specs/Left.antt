-- What becomes of catalogues that are asked.
use Rattle.std.proofs.Common.{suc, true, zero}
use Rattle.std.specs.Prelude.{[], List, Option, Result, ℕ, ◌∷◌, ◌≡◌, ◌⊎◌}
use Rattle.design_base.specs.declared.query.Query.{Query}
use Rattle.catalogues.specs.Entries.{Counts, Gives, IsSpent, Seen}
use Rattle.catalogues.specs.declared.catalogue.OfferEnd.{OfferEnd}

-- a catalogue was asked for an offer, for some question and with some answer
pub record IsAsked (s is : Seen) : Type 0 where
  pub query : Query
  pub answer : Result (Option (List (List ℕ))) OfferEnd
  pub given : Gives query s is answer
  pub counts : Counts s is answer

-- it was asked so many times, one after another
unfoldable pub AskedTimes : ℕ → Seen → Seen → Type 0
AskedTimes zero s is = is ≡ s
AskedTimes (suc n) s is = (mid : Seen) × IsAsked s mid × AskedTimes n mid is

-- it was asked some times, which may be none
abbrev pub Becomes : Seen → Seen → Type 0
Becomes s is = (n : ℕ) × AskedTimes n s is

-- and no failed offer was counted
abbrev pub BecomesUnfailed : Seen → Seen → Type 0
BecomesUnfailed s is = Becomes s is × (is.failures ≡ s.failures)

-- these are left of catalogues, in their order: to each happened what is said, and one that is spent then may have been dropped
unfoldable pub AreLeftBy : (Seen → Seen → Type 0) → List Seen → List Seen → Type 0
AreLeftBy Happens [] new = new ≡ []
AreLeftBy Happens (s ∷ old) new = (is : Seen) × Happens s is × ((IsSpent is true × AreLeftBy Happens old new) ⊎ ((rest : List Seen) × (new ≡ is ∷ rest) × AreLeftBy Happens old rest))

-- these are left of catalogues that were asked some times
abbrev pub AreLeft : List Seen → List Seen → Type 0
AreLeft old new = AreLeftBy Becomes old new

-- and no failed offer was counted
abbrev pub AreUnfailed : List Seen → List Seen → Type 0
AreUnfailed old new = AreLeftBy BecomesUnfailed old new

-- the first n of the catalogues were asked, each once, and no failed offer was counted; the others were not asked
unfoldable pub AreAsked : ℕ → List Seen → List Seen → Type 0
AreAsked zero old new = new ≡ old
AreAsked (suc n) [] new = ⊥
AreAsked (suc n) (s ∷ old) new = (is : Seen) × (rest : List Seen) × (new ≡ is ∷ rest) × IsAsked s is × (is.failures ≡ s.failures) × AreAsked n old rest
