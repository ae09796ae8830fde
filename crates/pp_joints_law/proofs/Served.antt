-- Where decisions and rounds end, the turn may wait.
use Rattle.std.proofs.Common.{sym, ap, ◌∙◌, false}
use Rattle.pp_joints_law.specs.Serving.{ServedOnesMayWait}
use Rattle.pp_obeys.proofs.Frames.{Frame}
use Rattle.pp_obeys.proofs.StaysTurns.{ending-frame}

pub may_wait : ServedOnesMayWait
may_wait terms before shelf y log s read w it permitted order apart = record {
  stands = record { turn = it.ended.turn; ready = it.ended.ready; awake = it.ended.awake; closed = it.ended.closed };
  permitted = permitted;
  none = sym (ap (λ (f : Frame). f.made_room_for) (ending-frame false it.then)) ∙ it.ended.none;
  order = order;
  apart = apart;
}
