use Rattle.pp_laws_turn.proofs.Laws.{sound_turns}
use Rattle.pp_laws_turn.proofs.turns.turns_are_sound.Goals as goal

pub returns : goal.returns
returns c = record { sound = sound_turns }
