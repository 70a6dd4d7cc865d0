-- The lines of several premises, one premise after another.
use Rattle.std.proofs.Common.{◌≡◌, ℕ, zero, suc, ◌+◌, ◌<◌, ◌≤◌, true, List, [], ◌∷◌, ◌++◌, arith, refl, ap, sym, subst, ◌∙◌, length, get_or, drop, add-one, drop-cons, append_assoc, length-append}
use Rattle.std.specs.Prelude.{Option}
use Rattle.std.specs.List.{AllByRecursion}
use Rattle.std.proofs.lemmas.List.{append-nil, drop_all}
use Rattle.design_base.specs.declared.query.Query.{Query}
use Rattle.design_base.specs.declared.verdict.Verdict.{Verdict}
use Rattle.design_base.specs.declared.verdict.Verdict.TheVariants.{Yes, No, Unknown}
use Rattle.design_base.specs.Limits.{in_bounds}
use Rattle.design_base.specs.Steps.{Step}
use Rattle.rule_table.specs.Candidates.{is_candidate, premises}
use Rattle.rule_terms.specs.Rank.{rank}
use Rattle.rule_table.specs.Verdicts.{verdict}
use Rattle.rule_table.proofs.Each.{each-weaker}
use Rattle.rule_table.proofs.Chosen.{IsProved, chosen_of}
use Rattle.rule_table.proofs.Told.{kept_then, kept_below, told_below}
use Rattle.rule_table.specs.Told.{Cells, ToldAfter, KeptAfter}
use Rattle.derivations.specs.declared.line.Line.{Line}
use Rattle.derivations.specs.Derivations.{line, Part, parts, unfolded, unfolded_by, derivation_behind}

parts-same : (f g : ℕ → Query → List Line) (before : ℕ) (ps : List Query) → AllByRecursion (λ p. (n : ℕ) → f n p ≡ g n p) ps → parts f before ps ≡ parts g before ps
unfolding parts
parts-same f g before [] a = refl
parts-same f g before (p ∷ ps) a =
    let e : f before p ≡ g before p = a.0 before in
    ap (λ (own : List Line). let rest : Part = parts f (before + length own) ps in record { lines = own ++ rest.lines; numbers = (before + length own) ∷ rest.numbers }) e
    ∙ ap (λ (rest : Part). record { lines = g before p ++ rest.lines; numbers = (before + length (g before p)) ∷ rest.numbers }) (parts-same f g (before + length (g before p)) ps a.1)

unfolded-same : (n m before : ℕ) (q : Query) → in_bounds q ≡ true → rank q < n → rank q < m → unfolded n before q ≡ unfolded m before q
unfolding unfolded
unfolded-same zero m before q b h k = absurd (omega arith)
unfolded-same (suc n) zero before q b h k = absurd (omega arith)
unfolded-same (suc n) (suc m) before q b h k =
    split (verdict q) refl (λ p a x. unfolded-same n m x p a.0 (omega (arith, a.1)) (omega (arith, a.1)))
  where
    split : (v : Verdict) → v ≡ verdict q → ((p : Query) → IsProved (rank q) p → (x : ℕ) → unfolded n x p ≡ unfolded m x p) → unfolded_by (unfolded n) before q v ≡ unfolded_by (unfolded m) before q v
    split (Yes s) e H =
        ap (λ (part : Part). part.lines ++ line q s part.numbers ∷ [])
        (parts-same (unfolded n) (unfolded m) before (premises q s) (each-weaker (IsProved (rank q)) (λ p. (x : ℕ) → unfolded n x p ≡ unfolded m x p) (premises q s) H (chosen_of q s b (sym e)).proved))
    split (No c) e H = refl
    split Unknown e H = refl

-- the lines of a question with a Yes verdict: those of its premises, and its own
pub behind_is : (q : Query) (s : Step) (before : ℕ) → in_bounds q ≡ true → verdict q ≡ Yes s
    → derivation_behind before q ≡ (parts derivation_behind before (premises q s)).lines ++ line q s (parts derivation_behind before (premises q s)).numbers ∷ []
unfolding derivation_behind unfolded
behind_is q s before b e =
    ap (λ n. unfolded n before q) add ∙ ap (λ v. unfolded_by (unfolded (rank q)) before q v) e
    ∙ ap (λ (part : Part). part.lines ++ line q s part.numbers ∷ [])
    (parts-same (unfolded (rank q)) derivation_behind before (premises q s)
    (each-weaker (IsProved (rank q)) (λ p. (x : ℕ) → unfolded (rank q) x p ≡ unfolded (rank p + 1) x p) (premises q s)
    (λ p a x. unfolded-same (rank q) (rank p + 1) x p a.0 a.1 (omega arith)) (chosen_of q s b e).proved))
  where
    add : rank q + 1 ≡ suc (rank q)
    add = rw add-one refl

-- k premises are unfolded: lines and numbers so far
pub record Unfolding (old : List Line) (ps : List Query) (k : ℕ) (lines : List Line) (from : List ℕ) : Type 0 where
  pub lines_rest : old ++ (parts derivation_behind (length old) ps).lines ≡ lines ++ (parts derivation_behind (length lines) (drop k ps)).lines
  pub numbers_rest : (parts derivation_behind (length old) ps).numbers ≡ from ++ (parts derivation_behind (length lines) (drop k ps)).numbers

pub unfolding_begins : (old : List Line) (ps : List Query) → Unfolding old ps 0 old []
unfolding_begins old ps = record { lines_rest = refl; numbers_rest = refl }

pub unfolding_goes_on : (old : List Line) (ps : List Query) (k : ℕ) (lines lines' : List Line) (from from' : List ℕ) (d : Query) → k < length ps → lines' ≡ lines ++ derivation_behind (length lines) (get_or ps k d)
    → from' ≡ from ++ length lines' ∷ [] → Unfolding old ps k lines from → Unfolding old ps (k + 1) lines' from'
unfolding parts
unfolding_goes_on old ps k lines lines' from from' d h e f u =
    let p : Query = get_or ps k d in
    let own : List Line = derivation_behind (length lines) p in
    let c : drop k ps ≡ p ∷ drop (k + 1) ps = rw (add-one, drop-cons ps k d) refl in
    let n : length lines + length own ≡ length lines' = sym (ap length e ∙ length-append lines own) in
    record {
      lines_rest = u.lines_rest ∙ ap (λ qs. lines ++ (parts derivation_behind (length lines) qs).lines) c
          ∙ sym (append_assoc lines own (parts derivation_behind (length lines + length own) (drop (k + 1) ps)).lines)
          ∙ ap (λ (ls : List Line). ls ++ (parts derivation_behind (length lines + length own) (drop (k + 1) ps)).lines) (sym e)
          ∙ ap (λ m. lines' ++ (parts derivation_behind m (drop (k + 1) ps)).lines) n;
      numbers_rest = u.numbers_rest ∙ ap (λ qs. from ++ (parts derivation_behind (length lines) qs).numbers) c
          ∙ ap (λ m. from ++ m ∷ (parts derivation_behind m (drop (k + 1) ps)).numbers) n
          ∙ sym (append_assoc from (length lines' ∷ []) (parts derivation_behind (length lines') (drop (k + 1) ps)).numbers)
          ∙ ap (λ (ns : List ℕ). ns ++ (parts derivation_behind (length lines') (drop (k + 1) ps)).numbers) (sym f);
    }

pub unfolding_ends : (old : List Line) (q : Query) (s : Step) (ps : List Query) (k : ℕ) (lines lines' : List Line) (from : List ℕ) → in_bounds q ≡ true → verdict q ≡ Yes s → ps ≡ premises q s → length ps ≤ k
    → lines' ≡ lines ++ line q s from ∷ [] → Unfolding old ps k lines from → lines' ≡ old ++ derivation_behind (length old) q
unfolding parts
unfolding_ends old q s ps k lines lines' from b v p h e u =
    let c : drop k ps ≡ [] = drop_all k ps h in
    let a : lines ≡ old ++ (parts derivation_behind (length old) ps).lines = sym (u.lines_rest ∙ ap (λ qs. lines ++ (parts derivation_behind (length lines) qs).lines) c ∙ append-nil lines) in
    let n : from ≡ (parts derivation_behind (length old) ps).numbers = sym (u.numbers_rest ∙ ap (λ qs. from ++ (parts derivation_behind (length lines) qs).numbers) c ∙ append-nil from) in
    e ∙ ap (λ (ls : List Line). ls ++ line q s from ∷ []) a ∙ ap (λ (ns : List ℕ). (old ++ (parts derivation_behind (length old) ps).lines) ++ line q s ns ∷ []) n
    ∙ append_assoc old (parts derivation_behind (length old) ps).lines (line q s (parts derivation_behind (length old) ps).numbers ∷ [])
    ∙ ap (λ (qs : List Query). old ++ ((parts derivation_behind (length old) qs).lines ++ line q s (parts derivation_behind (length old) qs).numbers ∷ [])) p
    ∙ ap (λ (ls : List Line). old ++ ls) (sym (behind_is q s (length old) b v))

pub all_at : {X : Type 0} → (P : X → Type 0) (xs : List X) → AllByRecursion P xs → (k : ℕ) (d : X) → k < length xs → P (get_or xs k d)
all_at P [] a k d h = absurd (omega arith)
all_at P (x ∷ xs) a zero d h = a.0
all_at P (x ∷ xs) a (suc k) d h = all_at P xs a.1 k d (omega arith)

-- each premise is proved
pub premise_is : (q : Query) (s : Step) (ps : List Query) → in_bounds q ≡ true → verdict q ≡ Yes s → ps ≡ premises q s → (k : ℕ) (d : Query) → k < length ps → IsProved (rank q) (get_or ps k d)
premise_is q s ps b v e k d h = all_at (IsProved (rank q)) ps (subst (AllByRecursion (IsProved (rank q))) (sym e) (chosen_of q s b v).proved) k d h

pub step_is : (q : Query) (s : Step) → in_bounds q ≡ true → verdict q ≡ Yes s → is_candidate q s ≡ true
step_is q s b v = (chosen_of q s b v).candidate

-- one more premise is asked for, and its lines
pub asked_too : (p q : Query) (x y z : Option Cells) (a b c : ℕ) → IsProved (rank q) p → KeptAfter q x y a b → ToldAfter p y z b c → KeptAfter q x z a c
asked_too p q x y z a b c d k t = kept_then q x y z a b c k (told_below p q y z b c d.0 d.1 t)

pub unfolded_too : (p q : Query) (x y z w : Option Cells) (a b c d : ℕ) → IsProved (rank q) p → KeptAfter q x y a b → ToldAfter p y z b c → KeptAfter p z w c d → KeptAfter q x w a d
unfolded_too p q x y z w a b c d e k t u = kept_then q x z w a c d (asked_too p q x y z a b c e k t) (kept_below p q z w c d (omega (arith, e.1)) u)
