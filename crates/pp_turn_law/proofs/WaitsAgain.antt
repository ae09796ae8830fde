-- From where a turn served to where it may wait again.
use Rattle.std.proofs.Common.{sym, ap, ◌∙◌, false}
use Rattle.pp_joints_law.proofs.Unnoted.{keepings_none, leavings_note, settlings_none}
use Rattle.pp_obeys.proofs.Frames.{Frame}
use Rattle.pp_obeys.proofs.StaysTurns.{ending-frame}
use Rattle.pp_turn_law.specs.Again.{ServedOnesWaitAgain, TurnsNoteAll}

pub turns_note : TurnsNoteAll
turns_note x k y does serves =
    settlings_none k.shelf k.moving y.moving serves.settles.added serves.settles.is (keepings_none does.left k does.keeps (leavings_note x.moving does.left.moving does.leaves.added does.leaves.is))

pub waits_again : ServedOnesWaitAgain
waits_again life budget before y s it going next = record {
  obeys = it.served.comes.obeys;
  allows = it.allows;
  told = it.told;
  none = sym (ap (λ (f : Frame). f.made_room_for) (ending-frame false it.served.then)) ∙ it.served.ended.none;
  going = going;
  number = it.served.number;
  ended = it.served.ended;
  carried = it.carried;
  read = next.read;
  apart = next.apart;
  given = it.supplied.given;
  texts = it.supplied.texts;
  counted = it.supplied.counted;
  name = it.supplied.name;
  noted = next.noted;
}
