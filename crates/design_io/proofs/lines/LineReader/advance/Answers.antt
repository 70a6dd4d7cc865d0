use Rattle.std.proofs.Common.{ap, sym, ◌∙◌, arith, inl, inr, refl, take, [], true}
use Rattle.std.specs.Prelude.{nat_lt, nat_eq, ◌+◌, ◌-◌}
use Rattle.design_io.specs.InputLines.{cut_line, feeds_in}
use Rattle.std.proofs.lemmas.Bool.Decides.{nat_tests}
use Rattle.design_io.proofs.LinesOfText.{line_given, line_refused, no_feeds}
use Rattle.design_io.proofs.lines.LineReader.advance.Goals.{then-place-gt-LINE_MAX-via-then-place-gt-LINE_MAX, then-place-gt-LINE_MAX-via-else-place-gt-LINE_MAX+then-size-self}
use Rattle.design_io.proofs.lines.LineReader.advance.Goals as goal

pub returns-then-place-gt-LINE_MAX-clause-given : goal.returns-then-place-gt-LINE_MAX-clause-given
returns-then-place-gt-LINE_MAX-clause-given g c =
    line_refused c.args.self.now (record { held = c.fill_line.new.self; last = cut_line []; lines = c.self.inside.lines; room = c.self.inside.room; is_over = true }) (g.S.Source.left c.args.source.now) (g.S.Source.left c.fill_line.new.source) c.skip.new.self c.fill_line.new.self c.in-Ok.place c.size_with_feed-size.result _
    (c.skip.ensures ∙ ap (λ v. v.held) c.self.view_is) c.fill_line.ensures.bytes c.in-Ok.ensures.place (omega (arith, c.size_with_feed-size.ensures, c.len-held.ensures))
    c.in-Ok.ensures.within c.in-Ok.ensures.whole (omega (arith, c.if-held-eq0.false, c.len-held.ensures))
    (elim c.then-place-gt-LINE_MAX.branch [
      | then-place-gt-LINE_MAX-via-then-place-gt-LINE_MAX w ↦ inl (omega (arith, w.if-place-gt-LINE_MAX))
      | then-place-gt-LINE_MAX-via-else-place-gt-LINE_MAX+then-size-self w ↦ inr (omega (arith, w.if-size-self, ap (λ v. v.room) c.self.view_is))
    ]) (sym (ap (λ v. v.is_over) c.self.view_is) ∙ c.if-self.false)

pub returns-clause-given : goal.returns-clause-given
returns-clause-given g c =
    line_given c.args.self.now (record { held = _; last = record { bytes = _; is_ended = nat_lt c.in-Ok.place c.size_with_feed-size.result }; lines = c.self.inside.lines + 1; room = c.self.inside.room - c.size_with_feed-size.result; is_over = nat_eq c.size_with_feed-size.result c.in-Ok.place }) (g.S.Source.left c.args.source.now) (g.S.Source.left c.fill_line.new.source) c.skip.new.self c.fill_line.new.self c.in-Ok.place c.size_with_feed-size.result
    (c.skip.ensures ∙ ap (λ v. v.held) c.self.view_is) c.fill_line.ensures.bytes c.in-Ok.ensures.place (omega (arith, c.size_with_feed-size.ensures, c.len-held.ensures))
    c.in-Ok.ensures.within c.in-Ok.ensures.whole (omega (arith, c.if-held-eq0.false, c.len-held.ensures)) (omega (arith, c.if-place-gt-LINE_MAX.false)) (omega (arith, c.if-size-self.false, ap (λ v. v.room) c.self.view_is)) (sym (ap (λ v. v.is_over) c.self.view_is) ∙ c.if-self.false) refl refl (λ over. grind (arith, nat_tests, over))

pub returns-clause-alone : goal.returns-clause-alone
returns-clause-alone g c = λ given. ap (λ n. feeds_in (take n c.fill_line.new.self)) c.in-Ok.ensures.place ∙ no_feeds c.fill_line.new.self
