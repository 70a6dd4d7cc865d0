-- Each event keeps a memo lawful.
use Rattle.std.proofs.Common.{◌≡◌, ◌≢◌, ◌⊎◌, ℕ, List, [], ◌∷◌, cond, inl, inr, refl, sym, ◌∙◌, subst, ⊎_elim, Bool, set, eq-eqb, ne_eqb}
use Rattle.std.specs.Prelude.{slice_index}
use Rattle.atomic_table.specs.Table.{State}
use Rattle.atomic_table.proofs.Lists.{set_else}
use Rattle.counting.proofs.Booleans.{cases_eq}
use Rattle.design_base.specs.declared.cells.TheConstants.{CELLS}
use Rattle.design_base.specs.declared.query.Query.{Query}
use Rattle.design_base.specs.Cells.{cell_of}
use Rattle.memo_cells.specs.Core.{Core, Event, loads, publishes, splits, joins, exchanged, IsView, MayPublish, Leads, Reaches, beginning, CoreLaw, CodeLaw, ClosureLaw}
use Rattle.memo_cells.specs.Knowledge.{Knowledge, loaded, published, joined}
use Rattle.memo_cells.specs.Lawful.{IsLawful}
use Rattle.memo_cells.proofs.Filling.{closure_filled, noted_code, law_begins, law_view, law_set, learned_filled, inserted_filled}
use Rattle.memo_cells.proofs.TableSteps.{split_allowed, join_allowed}

-- a core as a table without slots
abbrev state_of : Core → State (Unit {0}) Knowledge
state_of s = record { words = s.words; homes = []; views = s.views }

publish_lawful : (s : Core) (pass : ℕ) (q : Query) (word : ℕ) (v : Knowledge) → IsLawful s.words s.views → IsView s pass v → MayPublish v q word
    → IsLawful (exchanged s.words (cell_of q) word) (set s.views pass (published v (cell_of q)))
publish_lawful s pass q word v law at may = by (cases_eq (slice_index s.words (cell_of q)) 0)
  where
    by : (slice_index s.words (cell_of q) ≡ 0) ⊎ (slice_index s.words (cell_of q) ≢ 0) → IsLawful (exchanged s.words (cell_of q) word) (set s.views pass (published v (cell_of q)))
    by (inl e) =
        subst (λ (b : Bool). IsLawful (cond b (set s.words (cell_of q) word) s.words) (set s.views pass (published v (cell_of q)))) (sym (eq-eqb (slice_index s.words (cell_of q)) 0 e))
        (law_set s.words s.views q (cell_of q) word pass v law at refl may)
    by (inr n) =
        subst (λ (b : Bool). IsLawful (cond b (set s.words (cell_of q) word) s.words) (set s.views pass (published v (cell_of q)))) (sym (ne_eqb (slice_index s.words (cell_of q)) 0 n))
        (law_view s.words s.views pass (published v (cell_of q)) law (inserted_filled s.words v.known (cell_of q) (law.known pass v at) n))

-- one event
leads_lawful : (s : Core) (e : Event) (t : Core) → IsLawful s.words s.views → Leads s e t → IsLawful t.words t.views
leads_lawful s (loads pass cell) t law (v, at, is) =
    subst (λ (u : Core). IsLawful u.words u.views) (sym is)
    (law_view s.words s.views pass (loaded v cell (slice_index s.words cell)) law (learned_filled s.words v.known cell (law.known pass v at)))
leads_lawful s (publishes pass q word) t law (v, at, may, is) = subst (λ (u : Core). IsLawful u.words u.views) (sym is) (publish_lawful s pass q word v law at may)
leads_lawful s (splits pass) t law (v, at, is) = subst (λ (u : Core). IsLawful u.words u.views) (sym is) (split_allowed pass v (state_of s) law at)
leads_lawful s (joins pass other) t law (v, w, at, there, apart, is) =
    subst (λ (u : Core). IsLawful u.words u.views) (sym is) (join_allowed pass v other w (state_of s) law at apart (set_else s.views pass other (joined v w) apart ∙ there))

-- any number of them
reaches_lawful : (events : List Event) (s t : Core) → IsLawful s.words s.views → Reaches s events t → IsLawful t.words t.views
reaches_lawful [] s t law is = subst (λ (u : Core). IsLawful u.words u.views) (sym is) law
reaches_lawful (e ∷ es) s t law (u, leads, further) = reaches_lawful es u t (leads_lawful s e u law leads) further

pub core_lawful : CoreLaw
core_lawful events s run = reaches_lawful events beginning s (law_begins CELLS beginning.words refl refl) run

pub codes_lawful : CodeLaw
codes_lawful words views q law bounds =
    ⊎_elim (λ e. inl e) (λ n. inr (sym (noted_code q (slice_index words (cell_of q)) bounds (law.notes.verdicts (cell_of q) n)))) (cases_eq (slice_index words (cell_of q)) 0)

pub closures_lawful : ClosureLaw
closures_lawful = closure_filled
