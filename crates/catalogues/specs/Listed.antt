-- What a list of entries is seen as.
use Rattle.std.specs.Prelude.{List, Some, ℕ}
use Rattle.design_base.specs.declared.query.Query.{Query}
use Rattle.design_io.specs.Faults.{counted}
use Rattle.catalogues.specs.Entries.{Seen, no_entry, take_out}
use Rattle.catalogues.specs.declared.catalogue.Entry.{Entry}

-- the entries, the numbers of the offers that fail, how many offers were made, and how many of them failed
pub record Listed : Type 0 where
  pub entries : List Entry
  pub failing : List ℕ
  pub offers : ℕ
  pub failures : ℕ

-- it tells its entries
abbrev pub seen_of : Listed → Seen
seen_of s = record { told = Some s.entries; spent = no_entry s.entries; offers = s.offers; failures = s.failures }

-- these entries, of which nothing was asked yet
abbrev pub unasked : List Entry → List ℕ → Listed
unasked entries failing = record { entries = entries; failing = failing; offers = 0; failures = 0 }

-- one more offer was made, and the first entry of the question is taken out
abbrev pub after_offer : Query → Listed → Listed
after_offer q s = record { entries = (take_out q s.entries).entries; failing = s.failing; offers = counted s.offers; failures = s.failures }

-- one more offer was made, and failed
abbrev pub after_failed_offer : Listed → Listed
after_failed_offer s = record { entries = s.entries; failing = s.failing; offers = counted s.offers; failures = counted s.failures }
