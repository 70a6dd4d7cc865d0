use Rattle.std.proofs.Common.{◌≡◌, ℕ, ◌+◌, Bool, arith, refl, ap, sym, ◌∙◌}
use Rattle.counting.specs.Sums.{one}
use Rattle.design_base.specs.declared.query.Query.{Query}
use Rattle.design_base.specs.declared.verdict.Verdict.{Verdict}
use Rattle.rule_table.specs.Verdicts.{is_yes, verdict}
use Rattle.design_answers.specs.Draws.{draw, drawn, is_no, is_unknown}
use Rattle.design_answers.proofs.Tallies.{cells_more, cells_none, drawn_more, drawn_none}
use Rattle.design_answers.proofs.tally.tally_draws.Goals as goal

-- one verdict more was counted
counted : (is_such : Verdict → Bool) (j count more : ℕ) (q : Query) (told : Verdict) → count ≡ drawn is_such j → q ≡ draw j → told ≡ verdict q → more ≡ count + one (is_such told) → more ≡ drawn is_such (j + 1)
counted is_such j count more q told before is answer after =
    let e : one (is_such told) ≡ one (is_such (verdict (draw j))) = ap (λ v. one (is_such v)) (answer ∙ ap verdict is) in
    omega (arith, after, before, e, drawn_more is_such j)

pub loop-j-init : goal.loop-j-init
loop-j-init g c = record {
  all = refl;
  yes = sym (drawn_none is_yes);
  no = sym (drawn_none is_no);
  unknown = sym (drawn_none is_unknown);
  marks = cells_none c.clear.new.self c.clear.ensures.none;
  closed = c.clear.ensures.closed;
}

pub visit-requires-clause-closed : goal.visit-requires-clause-closed
visit-requires-clause-closed g c = c.loop-j.invariant.closed

pub count-requires : goal.count-requires
count-requires g c = record { few = omega (arith, c.loop-j.invariant.all, c.loop-j-test.true, c.requires) }

pub loop-j-preserved : goal.loop-j-preserved
loop-j-preserved g c =
    let i = c.loop-j.invariant in
    let j = c.loop-j.j in
    let q = c.draw-query.result in
    record {
      all = omega (arith, i.all, c.count.ensures.all);
      yes = counted is_yes j c.loop-j.tally.yes c.count.new.self.yes q c.ask.result i.yes c.draw-query.ensures.value c.ask.ensures.verdict c.count.ensures.yes;
      no = counted is_no j c.loop-j.tally.no c.count.new.self.no q c.ask.result i.no c.draw-query.ensures.value c.ask.ensures.verdict c.count.ensures.no;
      unknown = counted is_unknown j c.loop-j.tally.unknown c.count.new.self.unknown q c.ask.result i.unknown c.draw-query.ensures.value c.ask.ensures.verdict c.count.ensures.unknown;
      marks = cells_more c.loop-j.marks c.visit.new.marks j q i.marks c.draw-query.ensures.value c.visit.ensures.marks;
      closed = c.visit.ensures.closed;
    }
