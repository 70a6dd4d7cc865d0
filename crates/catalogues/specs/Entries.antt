-- Entries of catalogues, and what an offer does with them.
use Rattle.std.proofs.Common.{[], false, true, ◌∷◌}
use Rattle.std.specs.List.{position, remove}
use Rattle.std.specs.Option.{option_map}
use Rattle.std.specs.Prelude.{Bool, IfSome, List, None, Option, Result, Some, slice_get, ℕ, ◌≡◌, ◌≤◌}
use Rattle.std.specs.declared.result.Result.TheVariants.{Err, Ok}
use Rattle.design_base.specs.declared.query.Query.{Query}
use Rattle.design_io.specs.Faults.{counted}
use Rattle.catalogues.specs.declared.catalogue.Entry.{Entry}
use Rattle.catalogues.specs.declared.catalogue.OfferEnd.{OfferEnd}
use Rattle.catalogues.specs.declared.catalogue.OfferEnd.TheVariants.{Failed, Memory}
use Rattle.design_base.specs.Same.{same_query}

-- what is seen of a catalogue: its entries, where it tells them, whether it is spent, how often it was asked for an offer, and how many of these offers failed
pub record Seen : Type 0 where
  pub told : Option (List Entry)
  pub spent : Bool
  pub offers : ℕ
  pub failures : ℕ

-- a block list that was taken out, and the entries that stay
pub record Taken : Type 0 where
  pub blocks : Option (List (List ℕ))
  pub entries : List Entry

-- the place of the first entry of the question
abbrev pub place_of : Query → List Entry → Option ℕ
place_of q es = position (λ e. same_query e.query q) es

-- the first entry of the question, taken out
unfoldable pub take_out : Query → List Entry → Taken
take_out q es = elim (place_of q es) [
  | None ↦ record { blocks = None; entries = es }
  | Some i ↦ record { blocks = option_map (λ e. e.blocks) (slice_get es i); entries = remove es i }
]

-- where entries are told, what was offered is what is taken out of them; after a refusal what is told is as before, and so is whether it is spent
abbrev pub Gives : Query → Seen → Seen → Result (Option (List (List ℕ))) OfferEnd → Type 0
Gives q old new (Ok blocks) = IfSome old.told (λ es. (blocks ≡ (take_out q es).blocks) × (new.told ≡ Some (take_out q es).entries))
Gives q old new (Err end) = (new.told ≡ old.told) × (new.spent ≡ old.spent)

-- a failed offer is counted, and no other is
abbrev pub failures_after : ℕ → Result (Option (List (List ℕ))) OfferEnd → ℕ
failures_after before (Ok blocks) = before
failures_after before (Err Failed) = counted before
failures_after before (Err Memory) = before

-- an offer is counted, and so it is among the failed ones exactly where it failed; no count falls
pub record Counts (old new : Seen) (result : Result (Option (List (List ℕ))) OfferEnd) : Type 0 where
  pub offers : new.offers ≡ counted old.offers
  pub failures : new.failures ≡ failures_after old.failures result
  pub more : old.offers ≤ new.offers
  pub later : old.failures ≤ new.failures

-- no entry is left
abbrev pub no_entry : List Entry → Bool
no_entry [] = true
no_entry (e ∷ es) = false

-- whether a catalogue is spent; where it tells its entries, that it tells none
abbrev pub IsSpent : Seen → Bool → Type 0
IsSpent s spent = (spent ≡ s.spent) × IfSome s.told (λ es. spent ≡ no_entry es)
