-- The question of a command is in bounds.
use Rattle.std.proofs.Common.{◌≡◌, ℕ, ◌+◌, ◌&&◌, Bool, true, false, List, [], ◌∷◌, drop, Option, Some, None, Result, Ok, Err, refl}
use Rattle.std.specs.Prelude.{IfOk, IfSome, option_map, if◌then◌else◌}
use Rattle.std.specs.List.{AllByRecursion}
use Rattle.counting.proofs.Booleans.{cond_both}
use Rattle.design_base.specs.declared.query.Query.{Query}
use Rattle.design_base.specs.declared.query.Query.TheVariants.{Td}
use Rattle.design_base.specs.declared.query.TableAsk.{TableAsk}
use Rattle.design_base.specs.Limits.{in_bounds, within}
use Rattle.design_base.specs.declared.limits.TheConstants.{WORKERS_MAX, WORKLOAD_MAX}
use Rattle.counting.specs.Search.{◌<=◌}
use Rattle.design_lines.specs.declared.command.Reason.{Reason}
use Rattle.design_lines.specs.declared.command.Verb.{Verb}
use Rattle.design_lines.specs.declared.command.Shape.{Shape}
use Rattle.design_lines.specs.declared.command.Shape.TheVariants.{Squares}
use Rattle.design_lines.specs.declared.command.Asked.{Asked}
use Rattle.design_lines.specs.declared.command.Command.{Command}
use Rattle.design_lines.specs.declared.command.Command.TheVariants.{On, Check as CheckCommand, Table, Workload}
use Rattle.design_lines.specs.declared.command.Request.{Request}
use Rattle.design_lines.specs.declared.keywords.Keyword.{Keyword}
use Rattle.design_lines.specs.declared.keywords.Keyword.TheVariants.{Ask, Build, Explain, Closure, Check, Replay, Batch, Workload as WorkloadWord, Table as TableWord}
use Rattle.design_lines.specs.Keywords.{spellings}
use Rattle.design_lines.specs.Words.{words_of}
use Rattle.design_lines.specs.Reading.{Reading, Reader, Entry, behind, ◌then◌, number, pair, is_next, one_of_or, one_of, refused, at_end, value_read, whole}
use Rattle.design_lines.specs.Grammar.{questions, asked, squares, other_questions, question}
use Rattle.design_lines.specs.CommandLines.{IsInBounds, arguments, as_some, batch_line, batch_request, keywords, line, on, parse, parse_in_batch, table, table_in_bounds, tables, verbs, within_limits, workers, workload}

-- all that is read has P
abbrev Gives : {A : Type 0} → (A → Type 0) → Reader A → Type 0
Gives P read = (at : ℕ) (words : List (List ℕ)) → IfOk (read at words) (λ r. P r.value)

behind_gives : {A B : Type 0} (Q : A → Type 0) (P : B → Type 0) (next : A → Reader B) → ((a : A) → Q a → Gives P (next a)) → (r : Result (Reading A) Reason) → IfOk r (λ x. Q x.value) → IfOk (behind next r) (λ x. P x.value)
behind_gives Q P next h (Err reason) q = tt
behind_gives Q P next h (Ok r) q = h r.value q r.at r.words

then_gives : {A B : Type 0} (Q : A → Type 0) (P : B → Type 0) (read : Reader A) (next : A → Reader B) → Gives Q read → ((a : A) → Q a → Gives P (next a)) → Gives P (read then next)
then_gives Q P read next g h at words = behind_gives Q P next h (read at words) (g at words)

-- whatever was read
anything : {A : Type 0} (read : Reader A) → Gives (λ a. Unit {0}) read
anything {A = A} read at words = of (read at words)
  where
    of : (r : Result (Reading A) Reason) → IfOk r (λ x. Unit {0})
    of (Err reason) = tt
    of (Ok r) = tt

-- what is read behind each fixed word has P
abbrev EachGives : {A : Type 0} → (A → Type 0) → List (Entry A) → Type 0
EachGives P entries = AllByRecursion (λ e. Gives P e.meaning) entries

one_of_or_gives : {A : Type 0} (P : A → Type 0) (entries : List (Entry A)) (otherwise : Reader A) → EachGives P entries → Gives P otherwise → Gives P (one_of_or entries otherwise)
unfolding one_of_or
one_of_or_gives P [] otherwise each h at words = h at words
one_of_or_gives {A = A} P (e ∷ entries) otherwise each h at words =
    cond_both (is_next e.word words) _ _ (λ (r : Result (Reading A) Reason). IfOk r (λ (x : Reading A). P x.value)) (λ _. each.0 (at + 1) (drop 1 words)) (λ _. one_of_or_gives P entries otherwise each.1 h at words)

one_of_gives : {A : Type 0} (P : A → Type 0) (entries : List (Entry A)) → EachGives P entries → Gives P (one_of entries)
one_of_gives P entries each = one_of_or_gives P entries refused each (λ at words. tt)

abbrev IsAsked : Option Asked → Type 0
IsAsked None = Unit {0}
IsAsked (Some a) = in_bounds a.query ≡ true

asked_in_bounds : (shape : Shape) (q : Query) → IsAsked (asked shape q)
asked_in_bounds shape q = cond_both (in_bounds q) _ _ IsAsked (λ e. e) (λ e. tt)

squares_in_bounds : (n m : ℕ) → IsAsked (squares n m)
squares_in_bounds n m = of (1 <= m)
  where
    of : (b : Bool) → IsAsked (if b then asked Squares (Td (m + 2) n) else None)
    of true = asked_in_bounds Squares (Td (m + 2) n)
    of false = tt

question_gives : Gives IsAsked question
unfolding question other_questions
question_gives = one_of_or_gives IsAsked other_questions _ (
  then_gives (λ _. Unit {0}) IsAsked number _ (anything number) (λ v _ at words. asked_in_bounds _ _),
  (
    then_gives (λ _. Unit {0}) IsAsked number _ (anything number) (λ n _ at words. asked_in_bounds _ _),
    (
      then_gives (λ _. Unit {0}) IsAsked pair _ (anything pair) (λ x _ at words. asked_in_bounds _ _),
      (
        then_gives (λ _. Unit {0}) IsAsked pair _ (anything pair) (λ x _ at words. squares_in_bounds x.0 x.1),
        tt,
      ),
    ),
  ),
)
    (then_gives (λ _. Unit {0}) IsAsked (one_of questions) _ (anything (one_of questions)) (λ q _ at words. asked_in_bounds _ q))

-- the question of a request is in bounds
abbrev IsAskedFor : Request → Type 0
IsAskedFor request = in_bounds request.query ≡ true

abbrev IsBounded : Option Command → Type 0
IsBounded command = IfSome command IsInBounds

on_gives : (verb : Verb) → Gives (λ r. IfSome r IsAskedFor) (on verb)
on_gives verb = then_gives IsAsked (λ r. IfSome r IsAskedFor) question _ question_gives (λ a asks at words. of a asks)
  where
    of : (a : Option Asked) → IsAsked a → IfSome (option_map (λ x. record { verb = verb; query = x.query; shape = x.shape }) a) IsAskedFor
    of None asks = tt
    of (Some a) asks = asks

table_bounded : (ask : TableAsk) (w : ℕ) → IsBounded (table ask w)
unfolding table
table_bounded ask w = of (table_in_bounds ask) refl (within 1 WORKERS_MAX w) refl
  where
    of : (a : Bool) → table_in_bounds ask ≡ a → (b : Bool) → within 1 WORKERS_MAX w ≡ b → IsBounded (if a && b then Some (Table ask w) else None)
    of true in_range true crew = (in_range, crew)
    of true in_range false crew = tt
    of false in_range b crew = tt

-- what is read behind any reading has P
then_always : {A B : Type 0} (P : B → Type 0) (read : Reader A) (next : A → Reader B) → ((a : A) → Gives P (next a)) → Gives P (read then next)
then_always P read next h = then_gives (λ a. Unit {0}) P read next (anything read) (λ a _. h a)

tables_give : EachGives IsBounded tables
unfolding tables
tables_give = (
  then_always IsBounded pair _ (λ k. then_always IsBounded pair _ (λ n. then_always IsBounded workers _ (λ w at words. table_bounded _ w))),
  (
    then_always IsBounded pair _ (λ k. then_always IsBounded pair _ (λ v. then_always IsBounded number _ (λ l. then_always IsBounded workers _ (λ w at words. table_bounded _ w)))),
    (
      then_always IsBounded number _ (λ k. then_always IsBounded pair _ (λ g. then_always IsBounded pair _ (λ u. then_always IsBounded workers _ (λ w at words. table_bounded _ w)))),
      tt,
    ),
  ),
)

workload_bounded : (n : ℕ) → IsBounded (workload n)
unfolding workload
workload_bounded n = of (within 1 WORKLOAD_MAX n) refl
  where
    of : (b : Bool) → within 1 WORKLOAD_MAX n ≡ b → IsBounded (if b then Some (Workload n) else None)
    of true in_range = in_range
    of false in_range = tt

request_gives : (verb : Verb) → Gives IsBounded (on verb then λ request. λ at words. Ok (record { value = option_map On request; at = at; words = words }))
request_gives verb = then_gives (λ r. IfSome r IsAskedFor) IsBounded (on verb) _ (on_gives verb) (λ r asks at words. of r asks)
  where
    of : (r : Option Request) → IfSome r IsAskedFor → IsBounded (option_map On r)
    of None asks = tt
    of (Some r) asks = asks

arguments_give : (keyword : Keyword) → Gives IsBounded (arguments keyword)
arguments_give Ask = request_gives _
arguments_give Build = request_gives _
arguments_give Explain = request_gives _
arguments_give Closure = request_gives _
arguments_give Check = then_gives IsAsked IsBounded question _ question_gives (λ a asks at words. of a asks)
  where
    of : (a : Option Asked) → IsAsked a → IsBounded (option_map CheckCommand a)
    of None asks = tt
    of (Some a) asks = asks
arguments_give Replay = λ at words. tt
arguments_give Batch = λ at words. tt
arguments_give WorkloadWord = then_always IsBounded number _ (λ n at words. workload_bounded n)
arguments_give TableWord = one_of_gives IsBounded tables tables_give

-- what all the words are read as keeps P, where the numbers keep the limits
module _ {A : Type 0} (P : A → Type 0) (read : Reader (Option A)) (gives : Gives (λ o. IfSome o P) read) where
  of_value : (o : Option A) → IfSome o P → IfOk (within_limits (Ok o)) P
  of_value None kept = tt
  of_value (Some a) kept = kept

  of_reading : (r : Result (Reading (Option A)) Reason) → IfOk r (λ x. IfSome x.value P) → IfOk (within_limits (value_read r)) P
  of_reading (Err reason) kept = tt
  of_reading (Ok r) kept = of_value r.value kept

  at_end_gives : (o : Option A) → IfSome o P → Gives (λ o. IfSome o P) (at_end o)
  unfolding at_end
  at_end_gives o kept at [] = kept
  at_end_gives o kept at (word ∷ words) = tt

  whole_gives : (words : List (List ℕ)) → IfOk (within_limits (whole read words)) P
  whole_gives words = of_reading _ (then_gives (λ o. IfSome o P) (λ o. IfSome o P) read at_end gives at_end_gives 1 words)

-- what a command line asks is in bounds
pub parse_in_bounds : (words : List (List ℕ)) → IfOk (parse words) IsInBounds
unfolding parse
parse_in_bounds words = whole_gives IsInBounds line (then_always IsBounded (one_of (keywords spellings)) arguments arguments_give) words

of_some : {A : Type 0} (P : A → Type 0) (r : Result A Reason) → IfOk r P → IfOk (as_some r) (λ o. IfSome o P)
of_some P (Err reason) kept = tt
of_some P (Ok a) kept = kept

of_words : (words : List (List ℕ)) → IfOk (batch_request words) (λ request. IfSome request IsAskedFor)
of_words [] = tt
of_words (word ∷ words) = of_some IsAskedFor _ (whole_gives IsAskedFor batch_line (then_always (λ r. IfSome r IsAskedFor) (one_of (verbs spellings)) on on_gives) (word ∷ words))

-- what a line of a batch asks is in bounds
pub parse_in_batch_in_bounds : (line : List ℕ) → IfOk (parse_in_batch line) (λ request. IfSome request (λ r. in_bounds r.query ≡ true))
unfolding parse_in_batch
parse_in_batch_in_bounds line = of_words (words_of line)
