use Rattle.std.proofs.Common.{◌≡◌, ◌≢◌, ℕ, ◌+◌, ◌<◌, ◌≤◌, List, length, refl, sym, ap, ◌∙◌, arith, subst}
use Rattle.std.specs.Prelude.{Option, Some, None, All, [], ◌∷◌, ◌++◌, slice_index_or}
use Rattle.derivations.specs.Blocks.{blocks}
use Rattle.derivations.specs.Kept.{kept_lists}
use Rattle.design_base.specs.Meets.{Meets}
use Rattle.derivations.specs.Derivations.{lists_named, replayed}
use Rattle.derivations.proofs.Running.{Running, running_begins, ready, running_goes_on, refilled, last_is, running_meets}
use Rattle.derivations.proofs.replaying.list_of_lines.Goals as goal

pub loop-line-init : goal.loop-line-init
loop-line-init c = subst (Running c.args.lines.now 0) (sym c.new-kept.ensures.items) (running_begins c.args.lines.now c.requires)

pub list_of_line-requires-clause-kept : goal.list_of_line-requires-clause-kept
list_of_line-requires-clause-kept c =
    (ready c.args.lines.now c.loop-line.line-index c.line-item.result c.loop-line.kept.items c.as_slice.result.now c.loop-line-test.true c.line-item.is c.as_slice.ensures.value c.loop-line.invariant).are_there

pub list_of_line-requires-clause-ingredients : goal.list_of_line-requires-clause-ingredients
list_of_line-requires-clause-ingredients c =
    (ready c.args.lines.now c.loop-line.line-index c.line-item.result c.loop-line.kept.items c.as_slice.result.now c.loop-line-test.true c.line-item.is c.as_slice.ensures.value c.loop-line.invariant).ingredients

pub let_go-requires : goal.let_go-requires
let_go-requires c =
    let r = ready c.args.lines.now c.loop-line.line-index c.line-item.result c.loop-line.kept.items c.deref_mut.result.now c.loop-line-test.true c.line-item.is c.deref_mut.ensures.value c.loop-line.invariant in
    subst (All (λ j. (0 < j) × (j ≤ length c.deref_mut.result.now))) (sym c.as_slice-in-loop-line.ensures) r.each

pub loop-line-preserved : goal.loop-line-preserved
loop-line-preserved c =
    let r = c.loop-line.invariant in
    let D = c.args.lines.now in
    let i = c.loop-line.line-index in
    let l = c.line-item.result in
    let kept : List (Option (List (List ℕ))) = c.loop-line.kept.items in
    let next = ready D i l kept kept c.loop-line-test.true c.line-item.is refl r in
    let rows : c.in_ok-rows.rows ≡ blocks l.query l.step (lists_named r.lists l.from) =
    c.in_ok-rows.ensures.list ∙ ap (λ Ks. blocks l.query l.step (kept_lists Ks l.from)) c.as_slice.ensures.value ∙ ap (blocks l.query l.step) next.lists_are in
    let size : length c.let_go.new.kept ≡ length kept = c.let_go.ensures.size ∙ ap length c.deref_mut.ensures.value in
    let e = refilled (Option (List (List ℕ))) c.loop-line.kept.len kept c.let_go.new.kept (omega arith) size in
    subst (Running D (i + 1)) (sym (c.in_ok-push.ensures.items ∙ ap (λ Ks. Ks ++ Some c.in_ok-rows.rows ∷ []) e))
    (running_goes_on D i l kept c.let_go.new.kept c.in_ok-rows.rows c.loop-line-test.true c.line-item.is r size
    (λ j n. c.let_go.ensures.others j (subst (All (λ i. i ≢ j + 1)) (sym c.as_slice-in-loop-line.ensures) n) ∙ ap (λ Ks. slice_index_or Ks j None) c.deref_mut.ensures.value)
    rows c.in_ok-rows.ensures.meets)

pub unreachable-requires : goal.unreachable-requires
unreachable-requires c =
    let p = last_is c.args.lines.now c.loop-line.line-index c.loop-line.kept.len c.loop-line.kept.items c.pop.result (omega arith) c.requires.some_line (omega arith) c.pop.ensures.value c.loop-line.invariant in
    cc (p, c.in-Some.is, c.in-None-last.is)

pub returns-clause-list : goal.returns-clause-list
returns-clause-list c =
    let p = last_is c.args.lines.now c.loop-line.line-index c.loop-line.kept.len c.loop-line.kept.items c.pop.result (omega arith) c.requires.some_line (omega arith) c.pop.ensures.value c.loop-line.invariant in
    cc (p, c.in-Some.is, c.in-Some-last.is)

pub returns-clause-meets : goal.returns-clause-meets
returns-clause-meets c = λ q l.
    let p = last_is c.args.lines.now c.loop-line.line-index c.loop-line.kept.len c.loop-line.kept.items c.pop.result (omega arith) c.requires.some_line (omega arith) c.pop.ensures.value c.loop-line.invariant in
    let e : replayed c.args.lines.now ≡ c.in-Some-last.rows = cc (p, c.in-Some.is, c.in-Some-last.is) in
    subst (Meets q) e (running_meets c.args.lines.now c.loop-line.line-index c.loop-line.kept.items (omega arith) c.requires.some_line c.loop-line.invariant q l)
