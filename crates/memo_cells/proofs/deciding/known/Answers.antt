use Rattle.std.proofs.Common.{◌≡◌, refl, sym, ap, ◌∙◌, subst}
use Rattle.std.specs.Prelude.{Option, IfSome, IfNone}
use Rattle.design_base.specs.declared.verdict.Verdict.{Verdict}
use Rattle.design_base.specs.Cells.{cell_of}
use Rattle.design_base.specs.Codes.{code}
use Rattle.rule_table.specs.Verdicts.{verdict}
use Rattle.rule_table.specs.Told.{Has, Cells}
use Rattle.rule_table.proofs.Sets.{insert_has}
use Rattle.memo_cells.specs.Knowledge.{Knowledge, loaded}
use Rattle.memo_cells.specs.Lawful.{IsUnreached}
use Rattle.memo_cells.proofs.Filling.{noted_verdict, noted_code, learned-other}
use Rattle.memo_cells.proofs.deciding.known.Goals as goal

pub returns-clause-verdict : goal.returns-clause-verdict
returns-clause-verdict c =
    let is = c.read_code.ensures.value ∙ noted_verdict c.args.q.now c.load-word.result c.requires.bounds (c.load-word.ensures.loads.noted c.if-word-eq0.false) in
    subst (λ (r : Option Verdict). IfSome r (λ v. v ≡ verdict c.args.q.now)) (sym is) refl

pub returns-clause-some : goal.returns-clause-some
returns-clause-some c =
    let q = c.args.q.now in
    let noted = c.load-word.ensures.loads.noted c.if-word-eq0.false in
    let is = c.read_code.ensures.value ∙ noted_verdict q c.load-word.result c.requires.bounds noted in
    subst (λ (r : Option Verdict). IfSome r (λ v. c.load-word.new.pass.knowledge ≡ loaded c.args.pass.now.knowledge (cell_of q) (code v))) (sym is)
    (c.load-word.ensures.loads.knowledge ∙ ap (loaded c.args.pass.now.knowledge (cell_of q)) (sym (noted_code q c.load-word.result c.requires.bounds noted)))

pub returns-clause-knows : goal.returns-clause-knows
returns-clause-knows c =
    let q = c.args.q.now in
    let word = c.load-word.result in
    let is = c.read_code.ensures.value ∙ noted_verdict q word c.requires.bounds (c.load-word.ensures.loads.noted c.if-word-eq0.false) in
    let known = ap (λ (k : Knowledge). k.known) c.load-word.ensures.loads.knowledge ∙ learned-other c.args.pass.now.knowledge.known (cell_of q) word c.if-word-eq0.false in
    subst (λ (r : Option Verdict). IfSome r (λ _. Has c.load-word.new.pass.knowledge.known (cell_of q))) (sym is) (subst (λ (s : Cells). Has s (cell_of q)) (sym known) (insert_has _ (cell_of q)))

pub returns-clause-none : goal.returns-clause-none
returns-clause-none c =
    let q = c.args.q.now in
    let is = c.read_code.ensures.value ∙ noted_verdict q c.load-word.result c.requires.bounds (c.load-word.ensures.loads.noted c.if-word-eq0.false) in
    subst (λ (r : Option Verdict). IfNone r (c.load-word.new.pass.knowledge ≡ loaded c.args.pass.now.knowledge (cell_of q) 0)) (sym is) tt

pub returns-clause-unreached : goal.returns-clause-unreached
returns-clause-unreached c =
    let q = c.args.q.now in
    let is = c.read_code.ensures.value ∙ noted_verdict q c.load-word.result c.requires.bounds (c.load-word.ensures.loads.noted c.if-word-eq0.false) in
    subst (λ (r : Option Verdict). IfNone r (IsUnreached c.args.pass.now.knowledge.known (cell_of q))) (sym is) tt
