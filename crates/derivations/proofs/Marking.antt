-- Marks, one number after another.
use Rattle.std.proofs.Common.{◌≡◌, ◌≢◌, ℕ, ◌+◌, ◌<◌, Bool, true, false, ◌||◌, List, [], ◌∷◌, ◌++◌, arith, refl, ap, sym, ◌∙◌, length, get_or, drop, add-one, drop-cons}
use Rattle.counting.proofs.Booleans.{or_turn}
use Rattle.std.specs.Prelude.{slice_index_or, nat_eq}
use Rattle.std.proofs.Math.ListN.{set, length-set}
use Rattle.std.proofs.Math.Seq.{drop-length}
use Rattle.std.proofs.lemmas.List.{get_or-set_same, get_or-set_other}
use Rattle.std.proofs.lemmas.Bool.Decides.{nat_tests}
use Rattle.counting.specs.Search.{is_among}
use Rattle.derivations.specs.Derivations.{used_twice}
use Rattle.derivations.specs.Marks.{Marks}

-- the first k numbers of `from` are marked, beside those that were named before; none of them was marked twice
pub record Marking (named from : List ℕ) (k : ℕ) (marks : List Bool) : Type 0 where
  pub acc : List ℕ
  pub marked : Marks acc marks
  pub rest : used_twice named from ≡ used_twice acc (drop k from)
  pub same : (j : ℕ) → is_among j (from ++ named) ≡ is_among j (drop k from ++ acc)

pub marking_begins : (named from : List ℕ) (marks : List Bool) → Marks named marks → Marking named from 0 marks
marking_begins named from marks m = record { acc = named; marked = m; rest = refl; same = λ j. refl }

-- a test for each case of an elim on another
pub among_cons : (j x : ℕ) (xs : List ℕ) → is_among j (x ∷ xs) ≡ (nat_eq j x || is_among j xs)
unfolding is_among
among_cons j x xs = split (nat_eq j x)
  where
    split : (b : Bool) → ◌≡◌ {A = Bool} (elim b [ true ↦ true | false ↦ is_among j xs ]) (b || is_among j xs)
    split true = refl
    split false = refl

pub among_moved : (j x : ℕ) (xs ys : List ℕ) → is_among j (x ∷ xs ++ ys) ≡ is_among j (xs ++ x ∷ ys)
among_moved j x [] ys = refl
among_moved j x (y ∷ xs) ys =
    among_cons j x (y ∷ xs ++ ys) ∙ ap (λ b. nat_eq j x || b) (among_cons j y (xs ++ ys)) ∙ or_turn (nat_eq j x) (nat_eq j y) (is_among j (xs ++ ys))
    ∙ ap (λ b. nat_eq j y || b) (sym (among_cons j x (xs ++ ys)) ∙ among_moved j x xs ys) ∙ sym (among_cons j y (xs ++ x ∷ ys))

pub marks_one : (acc : List ℕ) (marks : List Bool) (x : ℕ) → x < length marks → Marks acc marks → Marks (x ∷ acc) (set marks x true)
marks_one acc marks x h m j k = split (nat_eq j x) refl
  where
    same : (j x : ℕ) → true ≡ nat_eq j x → j ≡ x
    same j x e = grind (arith, nat_tests)

    other : (j x : ℕ) → false ≡ nat_eq j x → j ≢ x
    other j x e = grind (arith, nat_tests)

    split : (b : Bool) → b ≡ nat_eq j x → slice_index_or (set marks x true) j false ≡ is_among j (x ∷ acc)
    split true e =
        let f : j ≡ x = same j x e in
        rw f (get_or-set_same marks x true false h) ∙ sym (among_cons j x acc ∙ ap (λ b. b || is_among j acc) (sym e))
    split false e =
        let n : j ≢ x = other j x e in
        let i : j < length marks = omega (arith, length-set marks x true) in
        get_or-set_other marks x j true false n ∙ m j i ∙ sym (among_cons j x acc ∙ ap (λ b. b || is_among j acc) (sym e))

pub drop_at : (from : List ℕ) (k : ℕ) → k < length from → drop k from ≡ get_or from k 0 ∷ drop (k + 1) from
drop_at from k h = rw (add-one, drop-cons from k 0) refl

pub marking_goes_on : (named from : List ℕ) (k : ℕ) (marks : List Bool) → k < length from → get_or from k 0 < length marks → slice_index_or marks (get_or from k 0) false ≡ false
    → Marking named from k marks → Marking named from (k + 1) (set marks (get_or from k 0) true)
unfolding used_twice
marking_goes_on named from k marks h b e m =
    let x : ℕ = get_or from k 0 in
    let d : drop k from ≡ x ∷ drop (k + 1) from = drop_at from k h in
    let n : is_among x m.acc ≡ false = sym (m.marked x b) ∙ e in
    record {
      acc = x ∷ m.acc;
      marked = marks_one m.acc marks x b m.marked;
      rest = m.rest ∙ ap (λ ys. used_twice m.acc ys) d ∙ ap (λ t. t || used_twice (x ∷ m.acc) (drop (k + 1) from)) n;
      same = λ j. m.same j ∙ ap (λ ys. is_among j (ys ++ m.acc)) d ∙ among_moved j x (drop (k + 1) from) m.acc;
    }

pub marking_finds : (named from : List ℕ) (k : ℕ) (marks : List Bool) → k < length from → get_or from k 0 < length marks → slice_index_or marks (get_or from k 0) false ≡ true
    → Marking named from k marks → true ≡ used_twice named from
unfolding used_twice
marking_finds named from k marks h b e m =
    let x : ℕ = get_or from k 0 in
    let n : is_among x m.acc ≡ true = sym (m.marked x b) ∙ e in
    sym (m.rest ∙ ap (λ ys. used_twice m.acc ys) (drop_at from k h) ∙ ap (λ t. t || used_twice (x ∷ m.acc) (drop (k + 1) from)) n)

pub marking_ends : (named from : List ℕ) (marks : List Bool) → Marking named from (length from) marks → (false ≡ used_twice named from) × Marks (from ++ named) marks
unfolding used_twice
marking_ends named from marks m =
    let d : drop (length from) from ≡ [] = drop-length from in
    (sym (m.rest ∙ ap (λ ys. used_twice m.acc ys) d), λ j k. m.marked j k ∙ sym (m.same j ∙ ap (λ ys. is_among j (ys ++ m.acc)) d))
