-- Catalogue text: entries, each of them a line `design` with its question, block lines, and a line `end`.
use Rattle.std.specs.Prelude.{◌≡◌, ℕ, ◌+◌, Bool, true, false, if◌then◌else◌, List, [], ◌∷◌, ◌++◌, codes, drop, Option, Some, None, option_and_then, option_map, Result, Ok, Err, ⊤}
use Rattle.std.specs.Str.Lines.{strip_carriage_return}
use Rattle.design_base.specs.Limits.{in_bounds}
use Rattle.design_base.specs.declared.query.Query.{Query}
use Rattle.design_io.specs.InputLines.{InputLine, lines_of}
use Rattle.design_lines.specs.declared.command.Reason.{Reason}
use Rattle.design_lines.specs.Grammar.{normal_question}
use Rattle.design_lines.specs.Reading.{Reader, is_next, one_of, whole, ◌means◌}
use Rattle.design_lines.specs.Words.{words_of}
use Rattle.incidence.specs.Packed.{size_of}
use Rattle.block_texts.specs.BlockLines.{block_line, with_row}
use Rattle.catalogues.specs.declared.catalogue.Entry.{Entry}
use Rattle.catalogues.specs.declared.text.CatalogueEnd.{CatalogueEnd}
use Rattle.catalogues.specs.declared.text.CatalogueEnd.TheVariants.{BadLine, Memory}

-- the words of a line. One carriage return may be its last byte.
abbrev pub line_words : List ℕ → List (List ℕ)
line_words line = words_of (strip_carriage_return line)

-- the word `design` and a question
unfoldable pub design_line : Reader (Option Query)
design_line = one_of ((codes "design" means normal_question) ∷ [])

abbrev pub bounded : Query → Option Query
bounded q = if in_bounds q then Some q else None

-- the question, where one was read and is in bounds
abbrev pub read_in_bounds : Result (Option Query) Reason → Option Query
read_in_bounds (Err reason) = None
read_in_bounds (Ok q) = option_and_then bounded q

-- the question of the words of a `design` line
abbrev pub question_of : List (List ℕ) → Option Query
question_of words = read_in_bounds (whole design_line words)

abbrev pub is_blank : List (List ℕ) → Bool
is_blank [] = true
is_blank (word ∷ words) = false

-- the word `end` alone
abbrev pub is_end : List (List ℕ) → Bool
is_end words = if is_next (codes "end") words then is_blank (drop 1 words) else false

-- what was read: the entries that are ended, and the one that is begun
pub record Progress : Type 0 where
  pub ended : List Entry
  pub begun : Option Entry

abbrev pub opened : Query → Entry
opened q = record { query = q; blocks = [] }

-- behind an entry stands a blank line, or a line that begins the next one
abbrev pub between : List (List ℕ) → Option (Option Entry)
between [] = Some None
between (word ∷ words) = option_map (λ q. Some (opened q)) (question_of (word ∷ words))

-- in an entry stands a block line, of which a blank line adds nothing, or the line that ends it
abbrev pub with_block : Entry → List ℕ → Entry
with_block e row = record { query = e.query; blocks = with_row e.blocks row }

abbrev pub with_line : List Entry → Entry → List ℕ → Option (List ℕ) → Option Progress
with_line es e line (Some row) = Some (record { ended = es; begun = Some (with_block e row) })
with_line es e line None = if is_end (line_words line) then Some (record { ended = es ++ e ∷ []; begun = None }) else None

-- what was read with one line more; nothing where it is bad
abbrev pub after_line : List Entry → Option Entry → List ℕ → Option Progress
after_line es None line = option_map (λ begun. record { ended = es; begun = begun }) (between (line_words line))
after_line es (Some e) line = with_line es e line (block_line line)

-- the rows of the entry that is begun and the numbers in them, together
abbrev pub size_of_begun : Option Entry → ℕ
size_of_begun None = 0
size_of_begun (Some e) = size_of e.blocks

-- the entries of a text, or the place of its first bad line
pub data CatalogueText : Type 0 where
  entries : List Entry → CatalogueText
  bad_line : ℕ → CatalogueText

-- where no line is left: the line that ends the entry is due
abbrev pub at_end : ℕ → Progress → CatalogueText
at_end place p = elim p.begun [ None ↦ entries p.ended | Some e ↦ bad_line place ]

-- the lines from this place on
unfoldable pub read_on : ℕ → Progress → List InputLine → CatalogueText
read_on place p [] = at_end place p
read_on place p (l ∷ lines) = elim (after_line p.ended p.begun l.bytes) [ None ↦ bad_line place | Some next ↦ read_on (place + 1) next lines ]

abbrev pub nothing_read : Progress
nothing_read = record { ended = []; begun = None }

-- the entries of a text; places count from 1
unfoldable pub catalogue_text : List ℕ → CatalogueText
catalogue_text text = read_on 1 nothing_read (lines_of text)

-- the text is bad at the line that is named
abbrev pub IsBadCatalogue : List ℕ → CatalogueEnd → Type 0
IsBadCatalogue text (BadLine line) = catalogue_text text ≡ bad_line line
IsBadCatalogue text Memory = ⊤
