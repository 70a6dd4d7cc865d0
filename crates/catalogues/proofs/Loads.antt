-- What a source is loaded as.
use Rattle.std.proofs.Common.{List, ap, false, refl, subst, sym, ℕ, ◌∙◌, ◌≡◌}
use Rattle.std.specs.Prelude.{Option, Result, Vec}
use Rattle.std.specs.declared.result.Result.TheVariants.{Err, Ok}
use Rattle.design_base.specs.declared.limits.TheConstants.{INPUT_MAX}
use Rattle.design_io.specs.Inputs.{ReadsText}
use Rattle.design_io.specs.declared.reading.ReadEnd.TheVariants.{Failed, Memory, TooLong}
use Rattle.design_base.specs.declared.query.Query.{Query}
use Rattle.catalogues.specs.Entries.{Gives}
use Rattle.catalogues.specs.Loading.{Answers, IsLoaded, LoadedAs, Loading, Loads, LoadsAndAnswers, Sourced, broken, is_ready_and_empty, ready, seen_of, unread}
use Rattle.catalogues.specs.declared.catalogue.OfferEnd.{OfferEnd}
use Rattle.catalogues.specs.declared.source.LoadEnd.{LoadEnd}
use Rattle.catalogues.specs.declared.source.LoadEnd.TheVariants.{Failed as ReadFailed, Memory as NoMemory, TooLong as Long}

pub loads_all : {Z : Type 0} (left : Option (List ℕ)) (all : Vec ℕ Z) (state : Loading) → ReadsText left INPUT_MAX (Ok all) → LoadedAs all.items state → Loads left state
loads_all left all state r loaded = record { text = r.text; is_input = r.is_input; loaded = subst (λ text. LoadedAs text state) r.gives.1 loaded }

pub loads_failed : {Z : Type 0} (left : Option (List ℕ)) → ReadsText {Z = Z} left INPUT_MAX (Err Failed) → Loads left (broken ReadFailed)
loads_failed left r = record { text = r.text; is_input = r.is_input; loaded = tt }

pub loads_without_memory : {Z : Type 0} (left : Option (List ℕ)) → ReadsText {Z = Z} left INPUT_MAX (Err Memory) → Loads left (broken NoMemory)
loads_without_memory left r = record { text = r.text; is_input = r.is_input; loaded = tt }

pub loads_too_long : {Z : Type 0} (left : Option (List ℕ)) (line : ℕ) → ReadsText {Z = Z} left INPUT_MAX (Err (TooLong line)) → Loads left (broken (Long line))
loads_too_long left line r = record { text = r.text; is_input = r.is_input; loaded = r.gives }

-- ---- an offer that is refused leaves whether the catalogue is spent
unspent_before : (left : Option (List ℕ)) (old : Loading) (end : LoadEnd) → IsLoaded left old (broken end) → is_ready_and_empty old ≡ false
unspent_before left unread end h = refl
unspent_before left (ready es) end h = cc
unspent_before left (broken other) end h = refl

still_spent : (left : Option (List ℕ)) (q : Query) (old state new : Loading) (end : OfferEnd) → IsLoaded left old state → Answers q state new (Err end) → is_ready_and_empty new ≡ is_ready_and_empty old
still_spent left q old unread new end h a = absurd a
still_spent left q old (ready es) new end h a = cc
still_spent left q old (broken other) new end h a = ap is_ready_and_empty a.1 ∙ sym (unspent_before left old other h)

pub source_gives : {S : Type 0} (left : Option (List ℕ)) (q : Query) (old new : Sourced S) (result : Result (Option (List (List ℕ))) OfferEnd) → LoadsAndAnswers left q old.state new.state result → Gives q (seen_of old) (seen_of new) result
source_gives left q old new (Ok blocks) h = tt
source_gives left q old new (Err end) h = (refl, still_spent left q old.state h.state new.state end h.is_loaded h.answers)
