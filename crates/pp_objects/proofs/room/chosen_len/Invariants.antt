use Rattle.std.proofs.Common.{◌≡◌, ◌-◌, ◌^◌, min, length, filter, take}
use Rattle.pp_text.specs.Lines.{lines_of}
use Rattle.pp_objects.specs.Texts.{is_chosen}
use Rattle.pp_objects.proofs.room.chosen_len.Given as goal

abbrev pub invariant-loop-index : goal.invariant-loop-index
invariant-loop-index l = l.len ≡ min (length (lines_of (filter (is_chosen l.choice l.fields) (take l.index l.fields)))) (2 ^ 64 - 1)
