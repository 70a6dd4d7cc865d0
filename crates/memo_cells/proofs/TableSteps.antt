-- Each kind of step on the table keeps the memo lawful, and tells what it tells.
use Rattle.std.proofs.Common.{◌≡◌, ◌==◌, ℕ, List, [], ◌∷◌, ◌++◌, refl, sym, subst, ⊎_elim, set}
use Rattle.std.specs.Prelude.{slice_index}
use mathlib.Core.Option.{some}
use lib.ListN.{get_elem?}
use prog.Atomic.{either}
use Rattle.atomic_table.specs.Table.{State, Me, Allows, Splits, Joins, keeps}
use Rattle.atomic_table.proofs.Lists.{at_set, at_snoc, set_again, exchanged}
use Rattle.design_base.specs.declared.query.Query.{Query}
use Rattle.design_base.specs.Cells.{cell_of}
use Rattle.rule_table.specs.Told.{Has}
use Rattle.rule_table.proofs.Sets.{empty_has, union_from}
use Rattle.memo_cells.specs.Core.{MayPublish}
use Rattle.memo_cells.specs.Knowledge.{Knowledge, no_knowledge, loaded, published, split_off, joined}
use Rattle.memo_cells.specs.Lawful.{IsFilled, AreFilled, AreKnown, IsLawful, Loads}
use Rattle.memo_cells.proofs.Filling.{closure_filled, learned_filled, inserted_filled, known_after, law_same, law_set, law_views}

module _ {S : Type 0} where
  -- the memo of a table is lawful
  abbrev pub holds : State S Knowledge → Type 0
  holds s = IsLawful s.words s.views

  pub load_allowed : (slots pass : ℕ) (me : Me S Knowledge) (cell : ℕ) → Allows holds slots pass me cell (λ n. n) (λ found after. (after.1 ≡ me.1) × Loads cell me.0 found after.0)
  load_allowed slots pass me cell s law homes at small = (
    loaded me.0 cell (slice_index s.words cell),
    keeps,
    tt,
    law_same s.words s.views cell pass (loaded me.0 cell (slice_index s.words cell)) law (learned_filled s.words me.0.known cell (law.known pass me.0 at)),
    (
      refl,
      record {
        knowledge = refl;
        noted = law.notes.verdicts cell;
        unreached = λ zero p bounds known reaches. closure_filled s.words s.views p law bounds (law.known pass me.0 at (cell_of p) known) cell reaches zero;
      },
    ),
  )

  pub publish_allowed : (slots pass : ℕ) (me : Me S Knowledge) (q : Query) (cell word : ℕ) → cell ≡ cell_of q → MayPublish me.0 q word
      → Allows holds slots pass me cell (λ n. either (n == 0) word n) (λ found after. (after.1 ≡ me.1) × (after.0 ≡ published me.0 cell))
  publish_allowed slots pass me q cell word is may s law homes at range = (
    published me.0 cell,
    keeps,
    tt,
    exchanged (slice_index s.words cell) 0 word (λ n. IsLawful (set s.words cell n) (set s.views pass (published me.0 cell)))
        (λ empty. law_set s.words s.views q cell word pass me.0 law at is may)
        (λ filled. law_same s.words s.views cell pass (published me.0 cell) law (inserted_filled s.words me.0.known cell (law.known pass me.0 at) filled)),
    (refl, refl),
  )

  pub split_allowed : (pass : ℕ) (v : Knowledge) → Splits holds pass v v (split_off v)
  split_allowed pass v s law at = law_views s.words s.views (set s.views pass v ++ split_off v ∷ []) law both
    where
      both : AreKnown s.words (set s.views pass v ++ split_off v ∷ [])
      both by w e i h =
          ⊎_elim
          (λ was. law.known by w (subst (λ (l : List Knowledge). get_elem? l by ≡ some w) (set_again s.views pass v at) was) i h)
          (λ new. law.known pass v at i (subst (λ (u : Knowledge). Has u.known i) (sym new) h))
          (at_snoc (set s.views pass v) (split_off v) w by e)

  pub join_allowed : (pass : ℕ) (v : Knowledge) (other : ℕ) (w : Knowledge) → Joins holds pass v other w (joined v w) no_knowledge
  join_allowed pass v other w s law at apart there =
      law_views s.words s.views (set (set s.views pass (joined v w)) other no_knowledge) law
      (known_after s.words s.words (set s.views pass (joined v w)) other no_knowledge (λ i h. h) kept (λ i h. empty_has (IsFilled s.words i) i h))
    where
      theirs : AreFilled s.words w.known
      theirs =
          ⊎_elim
          (λ t. absurd (apart t.0))
          (λ t. law.known other w t.1)
          (at_set s.views pass other (joined v w) w there)

      kept : AreKnown s.words (set s.views pass (joined v w))
      kept =
          known_after s.words s.words s.views pass (joined v w) (λ i h. h) law.known
          (λ i h. ⊎_elim (λ k. law.known pass v at i k) (λ k. theirs i k) (union_from v.known w.known i h))
