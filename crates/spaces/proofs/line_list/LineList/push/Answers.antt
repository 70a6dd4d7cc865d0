use Rattle.std.proofs.Common.{ap, length, sym, ◌||◌, ◌∙◌, ◌&&◌}
use Rattle.design_base.specs.Blocks.{holds}
use Rattle.spaces.proofs.Marking.{line_written}
use Rattle.spaces.specs.MetPairs.{entry}
use Rattle.spaces.proofs.line_list.LineList.push.Goals as goal

pub invariant_of-self-2 : goal.invariant_of-self-2
invariant_of-self-2 c = line_written c.self.inside.rows _ c.args.line.now c.self.inside.met.items c.mark_line.new.met _ _ c.self.invariant c.in_ok-push_row.ensures.ok c.mark_line.ensures.size
    (sym c.deref_mut.ensures.len ∙ ap length c.deref_mut.ensures.value ∙ c.self.invariant.count)
    (λ x y l m. c.mark_line.ensures.marked x y l m ∙ ap (λ met. entry met x y || (holds x c.args.line.now && holds y c.args.line.now)) c.deref_mut.ensures.value)
