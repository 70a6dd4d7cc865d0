-- A text that is read is the text that is printed of what was read: each reader takes the words that are printed of its value.
use Rattle.std.proofs.Common.{◌≡◌, ℕ, zero, suc, ◌+◌, ◌<◌, ◌≤◌, ◌⊎◌, inl, inr, Bool, true, false, List, [], ◌∷◌, ◌++◌, length, take, drop, map, get_or, Option, Some, None, Result, Ok, Err, refl, ap, sym, ◌∙◌, append_assoc, append-nil, arith}
use Rattle.std.specs.Prelude.{codes, find, if◌then◌else◌}
use Rattle.std.specs.Char.{is_ascii_digit}
use Rattle.std.specs.Fmt.{decimal}
use Rattle.std.specs.List.{list_all}
use Rattle.std.specs.Str.{bytes_eq}
use Rattle.std.specs.Str.Parse.{digits_value}
use Rattle.std.proofs.lemmas.Bool.Decides.{nat_tests}
use Rattle.std.proofs.lemmas.Fmt.{decimal-digits_value}
use Rattle.std.proofs.lemmas.Slice.Eq.{bytes_eq-Decides}
use Rattle.std.proofs.lemmas.Str.Parse.{digits_value_short}
use Rattle.counting.proofs.Booleans.{both}
use Rattle.counting.specs.Search.{◌<=◌}
use Rattle.design_base.specs.declared.limits.TheConstants.{PARAMETER_MAX}
use Rattle.design_base.specs.declared.query.Group.TheVariants.{Cyclic, Field}
use Rattle.design_base.specs.declared.query.Query.{Query}
use Rattle.design_base.specs.declared.query.Query.TheVariants.{Td, Df, Bibd, Gdd, Pbd}
use Rattle.design_base.specs.declared.rule.Kind.{Kind}
use Rattle.design_base.specs.declared.rule.Rule.{Rule}
use Rattle.design_base.specs.Rules.{has_name, rule_named, rules, same_kind, title}
use Rattle.design_base.specs.Steps.{Step, parameters_of, step}
use Rattle.design_lines.specs.declared.command.Reason.{Reason}
use Rattle.design_lines.specs.Grammar.{groups, is_narrow, narrowed, normal_question, questions}
use Rattle.design_lines.specs.Printed.{question_words}
use Rattle.design_lines.specs.Reading.{Entry, Reader, Reading, behind, gives, ◌then◌, is_next, number, one_of, one_of_or, pair, refused, spelled, triple}
use Rattle.design_lines.specs.Words.{is_short, number_of}
use Rattle.design_lines.proofs.Digits.{numerals}
use Rattle.rule_terms.proofs.Grounded.{few_parameters}
use Rattle.derivation_text.specs.Grammar.{◌giving◌, if_there, names, numbers_behind, parameter, rule_word, step_of_rule}
use Rattle.derivation_text.specs.Text.{from_words}
use Rattle.derivation_text.proofs.Words.{reading, steps_of}

-- What stands behind what: a reader that goes on took a value first.

pub record Taken {A B : Type 0} (read : Reader A) (next : A → Reader B) (at : ℕ) (words : List (List ℕ)) (r : Reading B) : Type 0 where
  pub value : A
  pub place : ℕ
  pub rest : List (List ℕ)
  pub first : read at words ≡ reading value place rest
  pub behind : next value place rest ≡ Ok r

pub then_back : {A B : Type 0} (read : Reader A) (next : A → Reader B) (at : ℕ) (words : List (List ℕ)) (r : Reading B) → (read then next) at words ≡ Ok r → Taken read next at words r
then_back {A} {B} read next at words r h = of (read at words) refl h
  where
    of : (x : Result (Reading A) Reason) → read at words ≡ x → behind next x ≡ Ok r → Taken read next at words r
    of (Err e) i h = cc
    of (Ok y) i h = record { value = y.value; place = y.at; rest = y.words; first = i; behind = h }

ok_is : {A B : Type 0} (x y : A) → ◌≡◌ {A = Result A B} (Ok x) (Ok y) → x ≡ y
ok_is x y h = cc

pub some_is : {A : Type 0} (x y : A) → Some x ≡ Some y → x ≡ y
some_is x y h = cc

pub gives_back : {A : Type 0} (value : A) (at : ℕ) (words : List (List ℕ)) (r : Reading A) → gives value at words ≡ Ok r → (value ≡ r.value) × (words ≡ r.words)
gives_back {A} value at words r h =
    let e = ok_is (record { value = value; at = at; words = words }) r h in
    (ap (λ (x : Reading A). x.value) e, ap (λ (x : Reading A). x.words) e)

-- the same of a reader that goes on where a value is there
pub record Given {A B : Type 0} (read : Reader (Option A)) (next : A → Reader (Option B)) (at : ℕ) (words : List (List ℕ)) (r : Reading (Option B)) : Type 0 where
  pub value : A
  pub place : ℕ
  pub rest : List (List ℕ)
  pub first : read at words ≡ reading (Some value) place rest
  pub behind : next value place rest ≡ Ok r

pub nothing : {A : Type 0} (o : Option A) (a : A) → None ≡ o → o ≡ Some a → ⊥
nothing o a e f = cc

pub given_back : {A B : Type 0} (read : Reader (Option A)) (next : A → Reader (Option B)) (at : ℕ) (words : List (List ℕ)) (r : Reading (Option B)) (b : B) → (read giving next) at words ≡ Ok r → r.value ≡ Some b
    → Given read next at words r
given_back {A} {B} read next at words r b h some = of t.value t.first t.behind
  where
    t : Taken read (if_there next) at words r
    t = then_back read (if_there next) at words r h

    of : (o : Option A) → read at words ≡ reading o t.place t.rest → if_there next o t.place t.rest ≡ Ok r → Given read next at words r
    of None i h = absurd (nothing r.value b (gives_back None t.place t.rest r h).0 some)
    of (Some a) i h = record { value = a; place = t.place; rest = t.rest; first = i; behind = h }

-- Numbers.

number_spelled : (w : List ℕ) (n : ℕ) → number_of w ≡ Some n → w ≡ decimal n
unfolding number_of
number_spelled w n h = of (is_short w) refl (list_all is_ascii_digit w) refl h
  where
    of : (s : Bool) → is_short w ≡ s → (d : Bool) → list_all is_ascii_digit w ≡ d → (if s then (if d then Some (digits_value 10 w) else None) else None) ≡ Some n → w ≡ decimal n
    of false e d f h = cc
    of true e false f h = cc
    of true e true f h =
        let some : 0 < length w = grind (arith, nat_tests) in
        let few : length w ≤ 6 = grind (arith, nat_tests) in
        let begun : get_or w 0 0 ≡ 48 → length w ≡ 1 = λ zero. grind (arith, nat_tests) in
        let small = digits_value_short numerals w 6 f few in
        sym (decimal-digits_value numerals w f some begun (omega (arith, small))) ∙ ap decimal (some_is (digits_value 10 w) n h)

pub number_back : (at : ℕ) (words : List (List ℕ)) (r : Reading ℕ) → number at words ≡ Ok r → words ≡ decimal r.value ∷ r.words
unfolding number
number_back at [] r h = cc
number_back at (w ∷ ws) r h = of (number_of w) refl h
  where
    of : (o : Option ℕ) → number_of w ≡ o → spelled at ws o ≡ Ok r → w ∷ ws ≡ decimal r.value ∷ r.words
    of None i h = cc
    of (Some n) i h =
        let g = gives_back n (at + 1) ws r h in
        ap (λ v. v ∷ ws) (number_spelled w n i) ∙ ap (λ m. decimal m ∷ ws) g.0 ∙ ap (λ l. decimal r.value ∷ l) g.1

taken_number : (at : ℕ) (words : List (List ℕ)) (place : ℕ) (rest : List (List ℕ)) (n : ℕ) → number at words ≡ reading n place rest → words ≡ decimal n ∷ rest
taken_number at words place rest n h = number_back at words (record { value = n; at = place; words = rest }) h

pair_back : (at : ℕ) (words : List (List ℕ)) (r : Reading (ℕ × ℕ)) → pair at words ≡ Ok r → words ≡ decimal r.value.0 ∷ decimal r.value.1 ∷ r.words
unfolding pair
pair_back at words r h =
    let a = then_back number (λ x. number then λ y. gives (x, y)) at words r h in
    let b = then_back number (λ y. gives (a.value, y)) a.place a.rest r a.behind in
    let g = gives_back (a.value, b.value) b.place b.rest r b.behind in
    taken_number at words a.place a.rest a.value a.first ∙ ap (λ l. decimal a.value ∷ l) (taken_number a.place a.rest b.place b.rest b.value b.first)
    ∙ ap (λ (x : ℕ × ℕ). decimal x.0 ∷ decimal x.1 ∷ b.rest) g.0 ∙ ap (λ l. decimal r.value.0 ∷ decimal r.value.1 ∷ l) g.1

triple_back : (at : ℕ) (words : List (List ℕ)) (r : Reading (ℕ × ℕ × ℕ)) → triple at words ≡ Ok r → words ≡ decimal r.value.0 ∷ decimal r.value.1 ∷ decimal r.value.2 ∷ r.words
unfolding triple
triple_back at words r h =
    let a = then_back number (λ x. number then λ y. number then λ z. gives (x, y, z)) at words r h in
    let b = then_back number (λ y. number then λ z. gives (a.value, y, z)) a.place a.rest r a.behind in
    let c = then_back number (λ z. gives (a.value, b.value, z)) b.place b.rest r b.behind in
    let g = gives_back (a.value, b.value, c.value) c.place c.rest r c.behind in
    taken_number at words a.place a.rest a.value a.first ∙ ap (λ l. decimal a.value ∷ l) (taken_number a.place a.rest b.place b.rest b.value b.first)
    ∙ ap (λ l. decimal a.value ∷ decimal b.value ∷ l) (taken_number b.place b.rest c.place c.rest c.value c.first)
    ∙ ap (λ (x : ℕ × ℕ × ℕ). decimal x.0 ∷ decimal x.1 ∷ decimal x.2 ∷ c.rest) g.0 ∙ ap (λ l. decimal r.value.0 ∷ decimal r.value.1 ∷ decimal r.value.2 ∷ l) g.1

-- Fixed words.

next_is : (text : List ℕ) (words : List (List ℕ)) → is_next text words ≡ true → words ≡ text ∷ drop 1 words
unfolding is_next
next_is text [] h = cc
next_is text (w ∷ ws) h = ap (λ v. v ∷ ws) ((bytes_eq-Decides w text).0 h)

pub entry_back : {A : Type 0} (e : Entry A) (entries : List (Entry A)) (otherwise : Reader A) (at : ℕ) (words : List (List ℕ)) (r : Reading A) → one_of_or (e ∷ entries) otherwise at words ≡ Ok r
    → ((words ≡ e.word ∷ drop 1 words) × (e.meaning (at + 1) (drop 1 words) ≡ Ok r)) ⊎ (one_of_or entries otherwise at words ≡ Ok r)
unfolding one_of_or
entry_back {A} e entries otherwise at words r h = of (is_next e.word words) refl h
  where
    of : (b : Bool) → is_next e.word words ≡ b → (if b then e.meaning (at + 1) (drop 1 words) else one_of_or entries otherwise at words) ≡ Ok r
        → ((words ≡ e.word ∷ drop 1 words) × (e.meaning (at + 1) (drop 1 words) ≡ Ok r)) ⊎ (one_of_or entries otherwise at words ≡ Ok r)
    of true i h = inl (next_is e.word words i, h)
    of false i h = inr h

pub none_back : {A : Type 0} (otherwise : Reader A) (at : ℕ) (words : List (List ℕ)) (r : Reading A) → one_of_or [] otherwise at words ≡ Ok r → otherwise at words ≡ Ok r
unfolding one_of_or
none_back otherwise at words r h = h

-- Questions.

of_two : (name : List ℕ) (make : ℕ → ℕ → Query) (at : ℕ) (words : List (List ℕ)) (r : Reading Query) → ((a b : ℕ) → question_words (make a b) ≡ name ∷ decimal a ∷ decimal b ∷ [])
    → words ≡ name ∷ drop 1 words → (pair then λ x. gives (make x.0 x.1)) at (drop 1 words) ≡ Ok r → words ≡ question_words r.value ++ r.words
of_two name make at words r printed named h =
    let p = then_back pair (λ x. gives (make x.0 x.1)) at (drop 1 words) r h in
    let g = gives_back (make p.value.0 p.value.1) p.place p.rest r p.behind in
    named ∙ ap (λ l. name ∷ l) (pair_back at (drop 1 words) _ p.first) ∙ ap (λ l. l ++ p.rest) (sym (printed p.value.0 p.value.1))
    ∙ ap (λ q. question_words q ++ p.rest) g.0 ∙ ap (λ l. question_words r.value ++ l) g.1

of_three : (front : List (List ℕ)) (make : ℕ → ℕ → ℕ → Query) (at : ℕ) (words rest : List (List ℕ)) (r : Reading Query) → ((a b c : ℕ) → question_words (make a b c) ≡ front ++ decimal a ∷ decimal b ∷ decimal c ∷ [])
    → words ≡ front ++ rest → (triple then λ x. gives (make x.0 x.1 x.2)) at rest ≡ Ok r → words ≡ question_words r.value ++ r.words
of_three front make at words rest r printed named h =
    let p = then_back triple (λ x. gives (make x.0 x.1 x.2)) at rest r h in
    let g = gives_back (make p.value.0 p.value.1 p.value.2) p.place p.rest r p.behind in
    named ∙ ap (λ l. front ++ l) (triple_back at rest _ p.first) ∙ sym (append_assoc front (decimal p.value.0 ∷ decimal p.value.1 ∷ decimal p.value.2 ∷ []) p.rest)
    ∙ ap (λ l. l ++ p.rest) (sym (printed p.value.0 p.value.1 p.value.2)) ∙ ap (λ q. question_words q ++ p.rest) g.0 ∙ ap (λ l. question_words r.value ++ l) g.1

pub refused_back : {A : Type 0} (at : ℕ) (words : List (List ℕ)) (r : Reading A) → one_of_or [] refused at words ≡ Ok r → ⊥
unfolding one_of_or
refused_back at words r h = cc

family_back : (at : ℕ) (words rest : List (List ℕ)) (r : Reading Query) → words ≡ codes "df" ∷ rest → one_of groups at rest ≡ Ok r → words ≡ question_words r.value ++ r.words
unfolding groups question_words
family_back at words rest r named h = elim (entry_back _ _ _ at rest r h) [
  | inl z ↦ of_three (codes "df" ∷ codes "z" ∷ []) (Df Cyclic) (at + 1) words (drop 1 rest) r (λ a b c. refl) (named ∙ ap (λ l. codes "df" ∷ l) z.0) z.1
  | inr h ↦ elim (entry_back _ _ _ at rest r h) [
    | inl f ↦ of_three (codes "df" ∷ codes "f" ∷ []) (Df Field) (at + 1) words (drop 1 rest) r (λ a b c. refl) (named ∙ ap (λ l. codes "df" ∷ l) f.0) f.1
    | inr h ↦ absurd (refused_back at rest r h)
  ]
]

one_question : (at : ℕ) (words : List (List ℕ)) (r : Reading Query) → one_of questions at words ≡ Ok r → words ≡ question_words r.value ++ r.words
unfolding questions question_words
one_question at words r h = elim (entry_back _ _ _ at words r h) [
  | inl e ↦ of_two (codes "td") Td (at + 1) words r (λ a b. refl) e.0 e.1
  | inr h ↦ elim (entry_back _ _ _ at words r h) [
    | inl e ↦ family_back (at + 1) words (drop 1 words) r e.0 e.1
    | inr h ↦ elim (entry_back _ _ _ at words r h) [
      | inl e ↦ of_three (codes "bibd" ∷ []) Bibd (at + 1) words (drop 1 words) r (λ a b c. refl) e.0 e.1
      | inr h ↦ elim (entry_back _ _ _ at words r h) [
        | inl e ↦ of_three (codes "gdd" ∷ []) Gdd (at + 1) words (drop 1 words) r (λ a b c. refl) e.0 e.1
        | inr h ↦ elim (entry_back _ _ _ at words r h) [
          | inl e ↦ of_two (codes "pbd") Pbd (at + 1) words r (λ a b. refl) e.0 e.1
          | inr h ↦ absurd (refused_back at words r h)
        ]
      ]
    ]
  ]
]

narrowed_is : (q p : Query) → narrowed q ≡ Some p → q ≡ p
unfolding narrowed
narrowed_is q p h = of (is_narrow q) h
  where
    of : (b : Bool) → (if b then Some q else None) ≡ Some p → q ≡ p
    of true h = cc
    of false h = cc

pub question_back : (at place : ℕ) (words rest : List (List ℕ)) (q : Query) → normal_question at words ≡ reading (Some q) place rest → words ≡ question_words q ++ rest
question_back at place words rest q h =
    let t = then_back (one_of questions) (λ q. gives (narrowed q)) at words (record { value = Some q; at = place; words = rest }) h in
    let g = gives_back (narrowed t.value) t.place t.rest (record { value = Some q; at = place; words = rest }) t.behind in
    one_question at words _ t.first ∙ ap (λ p. question_words p ++ t.rest) (narrowed_is t.value q g.0) ∙ ap (λ l. question_words q ++ l) g.1

-- Rules and their parameters.

find_passes : {X : Type 0} (test : X → Bool) (xs : List X) (x : X) → find test xs ≡ Some x → test x ≡ true
find_passes test [] x h = cc
find_passes {X} test (y ∷ ys) x h = of (test y) refl (find_passes test ys x) h
  where
    of : (b : Bool) → test y ≡ b → (find test ys ≡ Some x → test x ≡ true) → (if b then Some y else find test ys) ≡ Some x → test x ≡ true
    of true e more h = ap test (sym (some_is y x h)) ∙ e
    of false e more h = more h

pub rule_back : (kind : Kind) (at place : ℕ) (words rest : List (List ℕ)) (rule : Rule) → rule_word kind at words ≡ reading (Some rule) place rest → words ≡ (title rule).name ∷ rest
unfolding rule_word rule_named
rule_back kind at place [] rest rule h = cc
rule_back kind at place (w ∷ ws) rest rule h =
    let g = gives_back (rule_named kind w) (at + 1) ws (record { value = Some rule; at = place; words = rest }) h in
    let named = both (same_kind (title rule).kind kind) (bytes_eq (title rule).name w) (find_passes (has_name kind w) rules rule g.0) in
    ap (λ v. v ∷ ws) (sym ((bytes_eq-Decides (title rule).name w).0 named.1)) ∙ ap (λ l. (title rule).name ∷ l) g.1

parameter_back : (used : Bool) (at place : ℕ) (words rest : List (List ℕ)) (n : ℕ) → parameter used at words ≡ reading (Some n) place rest → words ≡ (if used then decimal n ∷ rest else rest)
unfolding parameter
parameter_back false at place words rest n h = (gives_back (Some 0) at words (record { value = Some n; at = place; words = rest }) h).1
parameter_back true at place words rest n h = of (t.value <= PARAMETER_MAX) (gives_back _ t.place t.rest (record { value = Some n; at = place; words = rest }) t.behind).0
  where
    t : Taken number (λ n. gives (if n <= PARAMETER_MAX then Some n else None)) at words (record { value = Some n; at = place; words = rest })
    t = then_back number (λ n. gives (if n <= PARAMETER_MAX then Some n else None)) at words (record { value = Some n; at = place; words = rest }) h

    of : (b : Bool) → (if b then Some t.value else None) ≡ Some n → words ≡ decimal n ∷ rest
    of false e = cc
    of true e =
        number_back at words _ t.first ∙ ap (λ m. decimal m ∷ t.rest) (some_is t.value n e)
        ∙ ap (λ l. decimal n ∷ l) (gives_back _ t.place t.rest (record { value = Some n; at = place; words = rest }) t.behind).1

taken_words : (n a b c d : ℕ) (w0 w1 w2 w3 w4 : List (List ℕ)) → n ≤ 4 → w0 ≡ (if 1 <= n then decimal a ∷ w1 else w1) → w1 ≡ (if 2 <= n then decimal b ∷ w2 else w2) → w2 ≡ (if 3 <= n then decimal c ∷ w3 else w3)
    → w3 ≡ (if 4 <= n then decimal d ∷ w4 else w4) → w0 ≡ map decimal (take n (a ∷ b ∷ c ∷ d ∷ [])) ++ w4
taken_words zero a b c d w0 w1 w2 w3 w4 few ea eb ec ed = ea ∙ eb ∙ ec ∙ ed
taken_words (suc zero) a b c d w0 w1 w2 w3 w4 few ea eb ec ed = ea ∙ ap (λ l. decimal a ∷ l) (eb ∙ ec ∙ ed)
taken_words (suc (suc zero)) a b c d w0 w1 w2 w3 w4 few ea eb ec ed = ea ∙ ap (λ l. decimal a ∷ l) (eb ∙ ap (λ l. decimal b ∷ l) (ec ∙ ed))
taken_words (suc (suc (suc zero))) a b c d w0 w1 w2 w3 w4 few ea eb ec ed = ea ∙ ap (λ l. decimal a ∷ l) (eb ∙ ap (λ l. decimal b ∷ l) (ec ∙ ap (λ l. decimal c ∷ l) ed))
taken_words (suc (suc (suc (suc zero)))) a b c d w0 w1 w2 w3 w4 few ea eb ec ed = ea ∙ ap (λ l. decimal a ∷ l) (eb ∙ ap (λ l. decimal b ∷ l) (ec ∙ ap (λ l. decimal c ∷ l) (ed)))
taken_words (suc (suc (suc (suc (suc n))))) a b c d w0 w1 w2 w3 w4 few ea eb ec ed = absurd (omega (arith, few))

parameters_back : (n : ℕ) (rule : Rule) (at place : ℕ) (words rest : List (List ℕ)) (s : Step) → n ≤ 4 → steps_of n rule at words ≡ reading (Some s) place rest
    → (words ≡ map decimal (take n (s.a ∷ s.b ∷ s.c ∷ s.d ∷ [])) ++ rest) × (rule ≡ s.rule)
parameters_back n rule at place words rest s few h =
    let r : Reading (Option Step) = record { value = Some s; at = place; words = rest } in
    let a = given_back (parameter (1 <= n)) _ at words r s h refl in
    let b = given_back (parameter (2 <= n)) _ a.place a.rest r s a.behind refl in
    let c = given_back (parameter (3 <= n)) _ b.place b.rest r s b.behind refl in
    let d = given_back (parameter (4 <= n)) _ c.place c.rest r s c.behind refl in
    let g = gives_back (Some (step rule a.value b.value c.value d.value)) d.place d.rest r d.behind in
    let e = some_is (step rule a.value b.value c.value d.value) s g.0 in (
      taken_words n a.value b.value c.value d.value words a.rest b.rest c.rest d.rest few
          (parameter_back (1 <= n) at a.place words a.rest a.value a.first) (parameter_back (2 <= n) a.place b.place a.rest b.rest b.value b.first)
          (parameter_back (3 <= n) b.place c.place b.rest c.rest c.value c.first) (parameter_back (4 <= n) c.place d.place c.rest d.rest d.value d.first)
          ∙ ap (λ (x : Step). map decimal (take n (x.a ∷ x.b ∷ x.c ∷ x.d ∷ [])) ++ d.rest) e ∙ ap (λ l. map decimal (take n (s.a ∷ s.b ∷ s.c ∷ s.d ∷ [])) ++ l) g.1,
      ap (λ (x : Step). x.rule) e,
    )

pub step_back : (rule : Rule) (at place : ℕ) (words rest : List (List ℕ)) (s : Step) → step_of_rule rule at words ≡ reading (Some s) place rest → (words ≡ map decimal (parameters_of s) ++ rest) × (rule ≡ s.rule)
unfolding step_of_rule
step_back rule at place words rest s h =
    let p = parameters_back (title rule).parameters rule at place words rest s (few_parameters rule) h in
    (p.0 ∙ ap (λ (x : Rule). map decimal (take (title x).parameters (s.a ∷ s.b ∷ s.c ∷ s.d ∷ [])) ++ rest) p.1, p.1)

-- Lines that are named.

numbers_back : (most : ℕ) (before : List ℕ) (at : ℕ) (words : List (List ℕ)) (r : Reading (List ℕ)) → numbers_behind most before at words ≡ Ok r
    → (more : List ℕ) × ((before ++ more ≡ r.value) × (words ≡ map decimal more ++ r.words))
unfolding numbers_behind
numbers_back zero before at words r h = let g = gives_back before at words r h in ([], (append-nil before ∙ g.0, g.1))
numbers_back (suc most) before at [] r h = let g = gives_back before at [] r h in ([], (append-nil before ∙ g.0, g.1))
numbers_back (suc most) before at (w ∷ ws) r h =
    let t = then_back number (λ n. numbers_behind most (before ++ n ∷ [])) at (w ∷ ws) r h in
    let more = numbers_back most (before ++ t.value ∷ []) t.place t.rest r t.behind in (
      t.value ∷ more.0,
      (sym (append_assoc before (t.value ∷ []) more.0) ∙ more.1.0, number_back at (w ∷ ws) _ t.first ∙ ap (λ l. decimal t.value ∷ l) more.1.1),
    )

pub names_back : (at : ℕ) (words : List (List ℕ)) (r : Reading (List ℕ)) → names at words ≡ Ok r → words ≡ from_words r.value ++ r.words
unfolding names from_words
names_back at words r h = elim (entry_back _ _ _ at words r h) [
  | inl e ↦ (
      let t = then_back number (λ n. numbers_behind 5 (n ∷ [])) (at + 1) (drop 1 words) r e.1 in
      let more = numbers_back 5 (t.value ∷ []) t.place t.rest r t.behind in
      e.0 ∙ ap (λ l. codes "from" ∷ l) (number_back (at + 1) (drop 1 words) _ t.first ∙ ap (λ l. decimal t.value ∷ l) more.1.1)
      ∙ ap (λ ns. from_words ns ++ r.words) more.1.0
      )
  | inr h ↦ (let g = gives_back [] at words r (none_back (gives []) at words r h) in g.1 ∙ ap (λ ns. from_words ns ++ r.words) g.0)
]
