-- What a catalogue over a source is seen as.
use Rattle.std.specs.Prelude.{◌≡◌, ◌≤◌, ◌<◌, ℕ, Bool, false, List, [], length, IfSome, None, Option, Some, Result, Ok, Err, ⊤}
use Rattle.design_base.specs.declared.limits.TheConstants.{INPUT_MAX}
use Rattle.design_base.specs.declared.query.Query.{Query}
use Rattle.design_io.specs.Inputs.{IsInput, line_at}
use Rattle.catalogues.specs.CatalogueText.{bad_line, catalogue_text, entries}
use Rattle.catalogues.specs.Entries.{Seen, no_entry, take_out}
use Rattle.catalogues.specs.declared.catalogue.Entry.{Entry}
use Rattle.catalogues.specs.declared.catalogue.OfferEnd.{OfferEnd}
use Rattle.catalogues.specs.declared.catalogue.OfferEnd.TheVariants.{Failed, Memory}
use Rattle.catalogues.specs.declared.source.LoadEnd.{LoadEnd}
use Rattle.catalogues.specs.declared.source.LoadEnd.TheVariants.{BadLine, Failed as ReadFailed, Memory as NoMemory, TooLong}
use Rattle.catalogues.specs.declared.source.State.{State}
use Rattle.catalogues.specs.declared.source.State.TheVariants.{Broken, Ready, Unread}

-- its source was not read yet, or the entries of that text are ready, or it is broken by what refused the text
pub data Loading : Type 0 where
  unread : Loading
  ready : List Entry → Loading
  broken : LoadEnd → Loading

abbrev pub loading : State → Loading
loading Unread = unread
loading (Ready list) = ready list.entries
loading (Broken end) = broken end

-- the source, how far it is loaded, how many offers were made, and how many of them failed
pub record Sourced (S : Type 0) : Type 0 where
  pub source : S
  pub state : Loading
  pub offers : ℕ
  pub failures : ℕ

-- what a text is loaded as
abbrev pub LoadedAs : List ℕ → Loading → Type 0
LoadedAs text unread = ⊥
LoadedAs text (ready es) = (length text ≤ INPUT_MAX) × (catalogue_text text ≡ entries es)
LoadedAs text (broken ReadFailed) = ⊤
LoadedAs text (broken (TooLong line)) = (INPUT_MAX < length text) × (line ≡ line_at text INPUT_MAX)
LoadedAs text (broken (BadLine line)) = (length text ≤ INPUT_MAX) × (catalogue_text text ≡ bad_line line)
LoadedAs text (broken NoMemory) = ⊤

-- there is a text that is loaded: what was left, where that is told
pub record Loads (left : Option (List ℕ)) (state : Loading) : Type 0 where
  pub text : List ℕ
  pub is_input : IsInput left text
  pub loaded : LoadedAs text state

-- a text that was looked at was read to its end, where what is left is told
abbrev pub IsReadToEnd : Option (List ℕ) → Option (List ℕ) → Loading → Type 0
IsReadToEnd old new (ready es) = IfSome old (λ text. new ≡ Some [])
IsReadToEnd old new (broken (BadLine line)) = IfSome old (λ text. new ≡ Some [])
IsReadToEnd old new state = ⊤

-- how loading ends
abbrev pub load_result : Loading → Result (Unit {0}) LoadEnd
load_result unread = Ok tt
load_result (ready es) = Ok tt
load_result (broken end) = Err end

-- what an offer is loaded by: it is loaded once, where it is unread
abbrev pub IsLoaded : Option (List ℕ) → Loading → Loading → Type 0
IsLoaded left unread state = Loads left state
IsLoaded left (ready es) state = state ≡ ready es
IsLoaded left (broken end) state = state ≡ broken end

-- what a broken catalogue answers
abbrev pub refusal : LoadEnd → OfferEnd
refusal NoMemory = Memory
refusal ReadFailed = Failed
refusal (TooLong line) = Failed
refusal (BadLine line) = Failed

-- what is offered from a loaded catalogue, and what it holds then
abbrev pub Answers : Query → Loading → Loading → Result (Option (List (List ℕ))) OfferEnd → Type 0
Answers q unread new result = ⊥
Answers q (ready es) new result = (result ≡ Ok (take_out q es).blocks) × (new ≡ ready (take_out q es).entries)
Answers q (broken end) new result = (result ≡ Err (refusal end)) × (new ≡ broken end)

-- it is loaded, and then it answers
pub record LoadsAndAnswers (left : Option (List ℕ)) (q : Query) (old new : Loading) (result : Result (Option (List (List ℕ))) OfferEnd) : Type 0 where
  pub state : Loading
  pub is_loaded : IsLoaded left old state
  pub answers : Answers q state new result

-- it is ready, and holds no entry
abbrev pub is_ready_and_empty : Loading → Bool
is_ready_and_empty unread = false
is_ready_and_empty (ready es) = no_entry es
is_ready_and_empty (broken end) = false

-- it tells no entries
abbrev pub seen_of : {S : Type 0} → Sourced S → Seen
seen_of s = record { told = None; spent = is_ready_and_empty s.state; offers = s.offers; failures = s.failures }
