use Rattle.pp_joints_law.proofs.Carries.{accepts_carry, reaches_carry, stops_carry, ticks_carry}
use Rattle.pp_joints_law.proofs.behind.silent_events_carry.Goals as goal

pub returns : goal.returns
returns c = record { stops = stops_carry; accepts = accepts_carry; reaches = reaches_carry; ticks = ticks_carry }
