use Rattle.pp_turn_law.proofs.Grown.{awaited_grow, empty_have, handled_leave, handled_note, served_leave, turns_leave}
use Rattle.pp_turn_law.proofs.growing.what_grew_is_kept.Goals as goal

pub returns : goal.returns
returns c = record { empty = empty_have; awaited = awaited_grow; handled = handled_note; kept = handled_leave; served = served_leave; turns = turns_leave }
