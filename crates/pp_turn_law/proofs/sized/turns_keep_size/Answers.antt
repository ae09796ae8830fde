use Rattle.pp_turn_law.proofs.SettingsOn.{settings_stay, size_set}
use Rattle.pp_turn_law.proofs.SizesOn.{turns_size}
use Rattle.pp_turn_law.proofs.sized.turns_keep_size.Goals as goal

pub returns : goal.returns
returns c = record { turns = turns_size; settings = settings_stay; set = size_set }
