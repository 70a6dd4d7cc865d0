use Rattle.std.proofs.Common.{ap, ap₂, arith, ◌++◌, ◌∙◌}
use Rattle.difference_sets.proofs.EntrySteps.{entry_room, entry_seen}
use Rattle.incidence.specs.Packed.{size_of}
use Rattle.difference_sets.proofs.entries.base_blocks_of_entry.Goals as goal

pub returns : goal.returns
returns c = c.in_ok-push_blocks.ensures ∙ ap₂ (λ rows blocks. rows ++ blocks) c.new-rows.ensures (ap (λ f. f.blocks) (entry_seen _ c.entries.ensures c.args.n c.from.result (grind arith) c.requires.some c.requires.listed))

pub push_blocks-requires : goal.push_blocks-requires
push_blocks-requires c = omega (
  arith,
  ap size_of c.new-rows.ensures,
  ap (λ f. size_of f.blocks) (entry_seen _ c.entries.ensures c.args.n c.from.result (grind arith) c.requires.some c.requires.listed),
  entry_room c.args.n c.requires.some c.requires.listed,
)
