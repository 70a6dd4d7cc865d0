-- Derivations, what is wrong with one, and the design that it leads to.
use Rattle.std.specs.Prelude.{ℕ, ◌≡◌, ◌+◌, ◌-◌, ◌<◌, nat_lt, Bool, true, false, ◌&&◌, ◌||◌, not, if◌then◌else◌, List, [], ◌∷◌, ◌++◌, length, map, Option, Some, None, slice_get, slice_index_or}
use Rattle.std.proofs.Common.{zero, suc}
use Rattle.std.specs.List.{list_all}
use Rattle.counting.specs.Search.{is_among}
use Rattle.design_base.specs.declared.query.Query.{Query}
use Rattle.design_base.specs.declared.verdict.Verdict.{Verdict}
use Rattle.design_base.specs.declared.verdict.Verdict.TheVariants.{Yes, No, Unknown}
use Rattle.design_base.specs.Limits.{in_bounds}
use Rattle.design_base.specs.Same.{same_query}
use Rattle.design_base.specs.Steps.{Step}
use Rattle.rule_table.specs.Candidates.{is_candidate, premises}
use Rattle.rule_terms.specs.Rank.{rank}
use Rattle.rule_table.specs.Verdicts.{verdict}
use Rattle.derivations.specs.Blocks.{blocks}
use Rattle.derivations.specs.declared.line.Fault.{Fault}
use Rattle.derivations.specs.declared.line.Line.{Line}
use Rattle.derivations.specs.declared.line.LineFault.{LineFault}
use Rattle.derivations.specs.declared.line.LineFault.TheVariants.{OutOfBounds, NotCandidate, ForwardReference, MissingPremise, UsedTwice, Surplus}

-- a line, from its parts
abbrev pub line : Query → Step → List ℕ → Line
line q s from = record { query = q; step = s; from = from }

-- The derivation of a question: that of each premise in order, and then the question's own line.

-- lines, and the numbers of those that answer the premises so far
pub record Part : Type 0 where
  pub lines : List Line
  pub numbers : List ℕ

-- behind `before` lines, what f makes of each question, one behind the other
unfoldable pub parts : (ℕ → Query → List Line) → ℕ → List Query → Part
parts f before [] = record { lines = []; numbers = [] }
parts f before (p ∷ ps) =
    let own : List Line = f before p in
    let rest : Part = parts f (before + length own) ps in
    record { lines = own ++ rest.lines; numbers = (before + length own) ∷ rest.numbers }

-- the derivation of a question with this verdict, behind `before` lines
abbrev pub unfolded_by : (ℕ → Query → List Line) → ℕ → Query → Verdict → List Line
unfolded_by f before q (Yes s) = let part : Part = parts f before (premises q s) in part.lines ++ line q s part.numbers ∷ []
unfolded_by f before q (No c) = []
unfolded_by f before q Unknown = []

-- the same of a question whose rank is below n
unfoldable pub unfolded : ℕ → ℕ → Query → List Line
unfolded zero before q = []
unfolded (suc n) before q = unfolded_by (unfolded n) before q (verdict q)

-- the same of any question
unfoldable pub derivation_behind : ℕ → Query → List Line
derivation_behind before q = unfolded (rank q + 1) before q

unfoldable pub derivation : Query → List Line
derivation q = derivation_behind 0 q

-- Faults. Lines are numbered from 1.

-- the question of line number i
abbrev pub question_at : List Line → ℕ → Option Query
question_at D i = elim (slice_get D (i - 1)) [ Some l ↦ Some l.query | None ↦ None ]

-- the numbers name, in order, lines whose questions are the premises, one each
unfoldable pub answers : List Line → List ℕ → List Query → Bool
answers D [] [] = true
answers D [] (p ∷ ps) = false
answers D (i ∷ is) [] = false
answers D (i ∷ is) (p ∷ ps) = elim (question_at D i) [ Some q ↦ same_query q p && answers D is ps | None ↦ false ]

-- one of the numbers names a line that was named before, in this list or among `named`
unfoldable pub used_twice : List ℕ → List ℕ → Bool
used_twice named [] = false
used_twice named (i ∷ is) = is_among i named || used_twice (i ∷ named) is

-- j is the number of a line before line number i
abbrev pub comes_before : ℕ → ℕ → Bool
comes_before i j = nat_lt 0 j && nat_lt j i

-- the fault of line number i of D, where the lines before it name the numbers `named`
unfoldable pub fault_of_line : List Line → ℕ → List ℕ → Line → Option LineFault
fault_of_line D i named l =
    if not (in_bounds l.query) then Some OutOfBounds else
    if not (is_candidate l.query l.step) then Some NotCandidate else
    if not (list_all (comes_before i) l.from) then Some ForwardReference else
    if not (answers D l.from (premises l.query l.step)) then Some MissingPremise else
    if used_twice named l.from then Some UsedTwice else
    None

-- the fault of a line
abbrev pub fault_at : ℕ → LineFault → Option Fault
fault_at i f = Some (record { number = i; fault = f })

-- the first of the lines from number i on, but for the last, that no line names
unfoldable pub surplus_from : ℕ → List ℕ → List Line → Option Fault
surplus_from i named [] = None
surplus_from i named (l ∷ []) = None
surplus_from i named (l ∷ m ∷ rest) = elim (is_among i named) [ true ↦ surplus_from (i + 1) named (m ∷ rest) | false ↦ fault_at i Surplus ]

-- the first fault of the lines from number i on, where those before them name the numbers `named`; then a surplus line
unfoldable pub fault_from : List Line → ℕ → List ℕ → List Line → Option Fault
fault_from D i named [] = surplus_from 1 named D
fault_from D i named (l ∷ rest) =
    elim (fault_of_line D i named l) [ Some f ↦ fault_at i f | None ↦ fault_from D (i + 1) (l.from ++ named) rest ]

-- the first fault of a derivation
unfoldable pub fault : List Line → Option Fault
fault D = fault_from D 1 [] D

-- a line, and no fault
pub record IsSound (D : List Line) : Type 0 where
  pub some_line : 0 < length D
  pub no_fault : fault D ≡ None

-- Replaying. Each line gives the block list of its step from those of the lines that it names.

abbrev pub lists_named : List (List (List ℕ)) → List ℕ → List (List (List ℕ))
lists_named done from = map (λ i. slice_index_or done (i - 1) []) from

-- the lists of the lines, behind those of the lines before them
unfoldable pub lists_from : List (List (List ℕ)) → List Line → List (List (List ℕ))
lists_from done [] = done
lists_from done (l ∷ rest) = lists_from (done ++ blocks l.query l.step (lists_named done l.from) ∷ []) rest

-- the list of the last line
unfoldable pub replayed : List Line → List (List ℕ)
replayed D = slice_index_or (lists_from [] D) (length D - 1) []

-- the question of the last line
abbrev pub last_question : List Line → Option Query
last_question D = question_at D (length D)
