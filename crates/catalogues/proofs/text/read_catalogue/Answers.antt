use Rattle.std.proofs.Common.{arith}
use Rattle.catalogues.proofs.Readings.{all_ended, one_begun, read_bad, read_begins, read_ends, read_line}
use Rattle.catalogues.proofs.text.read_catalogue.Goals as goal
use Rattle.std.proofs.Common.{ap, rules, sym, ◌∙◌}
use Rattle.catalogues.specs.CatalogueText.{read_on}
use Rattle.design_io.specs.InputLines.{lines_of}

pub loop-first-init : goal.loop-first-init
loop-first-init c = record {
  reads = read_begins c.args.text.now ∙ ap (λ es. read_on 1 (record { ended = es; begun = _ }) (lines_of c.args.text.now)) (sym c.new-ended.ensures.items);
  place = omega arith;
  room = omega arith;
}

pub returns-in-Err-Bad-clause-bad : goal.returns-in-Err-Bad-clause-bad
returns-in-Err-Bad-clause-bad c = read_bad _ _ _ _ c.loop-first.invariant.reads _ _ c.in-Some.ensures.line (c.in-Err-Bad.ensures.bad (search rules))

pub loop-first-preserved : goal.loop-first-preserved
loop-first-preserved c = record {
  reads = read_line _ _ _ _ c.loop-first.invariant.reads _ _ _ c.in-Some.ensures.line c.in-Ok.ensures.more;
  place = omega (arith, c.loop-first.invariant.place, c.in-Some.ensures.shorter);
  room = omega (arith, c.loop-first.invariant.room, c.in-Some.ensures.shorter, c.in-Some.ensures.within, c.in-Ok.ensures.size);
}

pub returns-clause-entries : goal.returns-clause-entries
returns-clause-entries c = all_ended c.args.text.now c.loop-first.line _ (read_ends _ _ _ _ c.loop-first.invariant.reads c.in_default.ensures.line) _ c.finish.ensures.entries

pub returns-clause-bad : goal.returns-clause-bad
returns-clause-bad c = one_begun c.args.text.now c.loop-first.line _ (read_ends _ _ _ _ c.loop-first.invariant.reads c.in_default.ensures.line) _ c.finish.ensures.bad
