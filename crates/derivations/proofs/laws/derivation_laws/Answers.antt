use Rattle.std.proofs.Common.{ap}
use Rattle.rule_table.specs.Verdicts.{is_yes}
use Rattle.derivations.proofs.Replays.{replayed_meets}
use Rattle.derivations.proofs.Sound.{derivation_is_sound, yes_has_a_design}
use Rattle.derivations.proofs.Spellable.{sound_spellable}
use Rattle.derivations.proofs.laws.derivation_laws.Goals as goal

pub returns : goal.returns
returns c = record {
  replays = replayed_meets;
  sound = λ q s b v. derivation_is_sound q b (ap is_yes v);
  designs = λ q s b v. yes_has_a_design q b (ap is_yes v);
  spelled = sound_spellable;
}
