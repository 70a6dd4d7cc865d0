use Rattle.rule_table.proofs.Meanings.{none_meets, unknown_is_open}
use Rattle.rule_table.proofs.Settled.{settled}
use Rattle.rule_table.proofs.laws.rule_laws.Goals as goal

pub returns : goal.returns
returns c = record { none = none_meets; unknown = unknown_is_open; settled = settled }
