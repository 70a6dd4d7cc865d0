-- The text of a derivation, version 1, as it is read line by line:
--
--     derivation 1
--     <i> <question> <rule> <parameters> from <numbers>
--     end <N>
--
-- A line feed ends each line, the last one too, and the words of a line stand between single spaces. The lines between the first and
-- the last are numbered i = 1, 2, .. up to N, which is at least 1 and at most `DERIVATION_MAX`.
use Rattle.std.specs.Prelude.{◌≡◌, ℕ, zero, suc, ◌+◌, ◌-◌, ◌==◌, ◌&&◌, nat_lt, Bool, true, false, List, [], ◌∷◌, ◌++◌, length, codes, Option, Some, None, Result, Ok, Err, if◌then◌else◌, ⊤}
use Rattle.std.specs.Str.{bytes_eq}
use Rattle.counting.specs.Search.{◌<=◌}
use Rattle.design_base.specs.declared.limits.TheConstants.{DERIVATION_MAX, PARAMETER_MAX, PREMISES_MAX}
use Rattle.design_base.specs.declared.rule.Kind.{Kind}
use Rattle.design_base.specs.declared.rule.Rule.{Rule}
use Rattle.design_base.specs.Rules.{kind_of, rule_named, title}
use Rattle.design_base.specs.Steps.{Step, step}
use Rattle.design_io.specs.InputLines.{InputLine, lines_of}
use Rattle.design_lines.specs.declared.command.Reason.{Reason}
use Rattle.design_lines.specs.declared.command.Reason.TheVariants.{Missing}
use Rattle.design_lines.specs.Grammar.{normal_question}
use Rattle.design_lines.specs.Reading.{Reader, gives, ◌then◌, ◌means◌, number, one_of, one_of_or, whole}
use Rattle.design_lines.specs.Words.{spaced_words}
use Rattle.derivations.specs.Derivations.{line}
use Rattle.derivations.specs.declared.line.Line.{Line}
use Rattle.derivation_text.specs.declared.input.InputEnd.{InputEnd}
use Rattle.derivation_text.specs.declared.input.InputEnd.TheVariants.{BadLine, Memory as WantOfMemory}
use Rattle.derivation_text.specs.declared.parsing.ParseEnd.{ParseEnd}
use Rattle.derivation_text.specs.declared.parsing.ParseEnd.TheVariants.{Spelling, TooLong, Memory}

-- what is read behind a value that is there; where there is none, no more is read
abbrev pub if_there : {A B : Type 0} → (A → Reader (Option B)) → Option A → Reader (Option B)
if_there next None = gives None
if_there next (Some a) = next a

infixr 3 ◌giving◌
abbrev pub ◌giving◌ : {A B : Type 0} → Reader (Option A) → (A → Reader (Option B)) → Reader (Option B)
read giving next = read then if_there next

-- the printed name of a rule of this kind
unfoldable pub rule_word : Kind → Reader (Option Rule)
rule_word kind at [] = Err (Missing at)
rule_word kind at (word ∷ words) = gives (rule_named kind word) (at + 1) words

-- a parameter, where the rule has it, and else 0
unfoldable pub parameter : Bool → Reader (Option ℕ)
parameter false = gives (Some 0)
parameter true = number then λ n. gives (if n <= PARAMETER_MAX then Some n else None)

-- as many parameters as the rule has
unfoldable pub step_of_rule : Rule → Reader (Option Step)
step_of_rule rule =
    parameter (1 <= (title rule).parameters) giving λ a.
    parameter (2 <= (title rule).parameters) giving λ b.
    parameter (3 <= (title rule).parameters) giving λ c.
    parameter (4 <= (title rule).parameters) giving λ d.
    gives (Some (step rule a b c d))

-- numbers up to the end of the line, so many at most, behind those before them
unfoldable pub numbers_behind : ℕ → List ℕ → Reader (List ℕ)
numbers_behind zero before at words = gives before at words
numbers_behind (suc most) before at [] = gives before at []
numbers_behind (suc most) before at (word ∷ words) = (number then λ n. numbers_behind most (before ++ n ∷ [])) at (word ∷ words)

-- the lines that are named: none, or behind `from` one at least and `PREMISES_MAX` at most
unfoldable pub names : Reader (List ℕ)
names = one_of_or ((codes "from" means number then λ n. numbers_behind (PREMISES_MAX - 1) (n ∷ [])) ∷ []) (gives [])

-- <question> <rule> <parameters> from <numbers>
abbrev pub line_behind : Reader (Option Line)
line_behind =
    normal_question giving λ q.
    rule_word (kind_of q) giving λ rule.
    step_of_rule rule giving λ s.
    names then λ from.
    gives (Some (line q s from))

-- <i> <question> <rule> <parameters> from <numbers>
unfoldable pub line_read : ℕ → Reader (Option Line)
line_read i = number then λ n. if n == i then line_behind else gives None

-- what was read of all words of a line
abbrev pub if_whole : {A : Type 0} → Result (Option A) Reason → Option A
if_whole (Err reason) = None
if_whole (Ok value) = value

-- the line of the derivation that a line of the text spells with this number, where it spells one
unfoldable pub spelled_line : ℕ → InputLine → Option Line
spelled_line i l = if l.is_ended then if_whole (whole (line_read i) (spaced_words l.bytes)) else None

-- derivation 1
abbrev pub is_head_text : List ℕ → Bool
is_head_text bytes = bytes_eq bytes (codes "derivation 1")

abbrev pub is_head : InputLine → Bool
is_head l = l.is_ended && is_head_text l.bytes

-- end <N>
unfoldable pub end_line : Reader ℕ
end_line = one_of ((codes "end" means number) ∷ [])

abbrev pub is_number : ℕ → Result ℕ Reason → Bool
is_number count (Err reason) = false
is_number count (Ok n) = n == count

-- whether a line of the text is the line `end` behind so many lines, of which there is one at least
unfoldable pub is_end : ℕ → InputLine → Bool
is_end count l = l.is_ended && 1 <= count && is_number count (whole end_line (spaced_words l.bytes))

-- What lines of a text hold: a derivation up to its line `end`, and the lines behind that; a bad line, by its place from the line
-- `derivation 1` on; or more lines than a derivation may have.
pub data Parsed : Type 0 where
  parsed : List Line → List InputLine → Parsed
  bad : ℕ → Parsed
  too_long : Parsed

-- Behind the lines of D, which are as many as were read so far. A missing line is bad at the place where it would stand.
unfoldable pub parse_behind : List Line → List InputLine → Parsed
parse_behind D [] = bad (length D + 2)
parse_behind D (l ∷ lines) =
    if is_end (length D) l then parsed D lines else
    if nat_lt (length D) DERIVATION_MAX then elim (spelled_line (length D + 1) l) [ None ↦ bad (length D + 2) | Some x ↦ parse_behind (D ++ x ∷ []) lines ] else
    too_long

-- no line stands behind the last
abbrev pub alone : Parsed → Parsed
alone (parsed D []) = parsed D []
alone (parsed D (l ∷ lines)) = bad (length D + 3)
alone (bad place) = bad place
alone too_long = too_long

abbrev pub parse_lines : List InputLine → Parsed
parse_lines [] = bad 1
parse_lines (l ∷ lines) = if is_head l then alone (parse_behind [] lines) else bad 1

-- the derivation of a text, or its first bad line, or that it has too many lines
unfoldable pub parse_text : List ℕ → Parsed
parse_text text = parse_lines (lines_of text)

-- the reading ends so
abbrev pub EndIs : Parsed → ParseEnd → Type 0
EndIs read (Spelling line) = read ≡ bad line
EndIs read TooLong = read ≡ too_long
EndIs read Memory = ⊤

-- An input holds a derivation behind any lines of which none is `derivation 1`. What is read of it is the derivation, or the place of
-- the first bad line among all lines of the input.

-- behind so many lines of an input and its line `derivation 1`; what stands behind the line `end` is not looked at
abbrev pub behind_skipped : ℕ → Parsed → Result (List Line) ℕ
behind_skipped skipped (parsed D lines) = Ok D
behind_skipped skipped (bad place) = Err (skipped + place)
behind_skipped skipped too_long = Err (skipped + (DERIVATION_MAX + 2))

-- the lines of an input behind so many that were skipped; a line `derivation 1` without its line feed is bad
unfoldable pub input_lines : ℕ → List InputLine → Result (List Line) ℕ
input_lines skipped [] = Err (skipped + 1)
input_lines skipped (l ∷ lines) =
    if is_head_text l.bytes then if l.is_ended then behind_skipped skipped (parse_behind [] lines) else Err (skipped + 1) else
    input_lines (skipped + 1) lines

-- the derivation that an input holds, or its first bad line
unfoldable pub parse_input : List ℕ → Result (List Line) ℕ
parse_input text = input_lines 0 (lines_of text)

-- the reading of an input ends so
abbrev pub InputEndIs : Result (List Line) ℕ → InputEnd → Type 0
InputEndIs read (BadLine line) = read ≡ Err line
InputEndIs read WantOfMemory = ⊤
