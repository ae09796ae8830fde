-- Behind the disk a turn decides, or stops.
use Rattle.std.proofs.Common.{◌≡◌, ◌≤◌, ap, ◌∙◌, ◌||◌, ℕ, true, arith}
use Rattle.pp_joints_law.specs.Deciding.{TurnsDecide, TurnsStop}
use Rattle.pp_law.specs.Opening.{is_at, is_same_phase}
use Rattle.pp_law.specs.State.{State, Phase, Deciding, DecidingAgain}

decides_at : (s : State) → s.phase ≡ Deciding → (is_at Deciding s || is_at DecidingAgain s) ≡ true
decides_at s at = ap (λ (p : Phase). is_same_phase Deciding p || is_same_phase DecidingAgain p) at

one_fewer : {n : ℕ} → 257 ≤ n → 256 ≤ n
one_fewer room = omega (arith, room)

pub decides_there : TurnsDecide
decides_there number y s it going = record {
  number = number;
  amid = record {
    turn = it.turn;
    ready = it.ready;
    kept = it.kept;
    awake = it.awake;
    none = it.none;
    going = going;
    limits = it.carried.set.force.limits;
    waiting = it.carried.waiting;
    placed = it.carried.placed;
    linked = it.carried.links.origins;
    seated = it.carried.links.clients;
    given = it.carried.links.given;
    few = it.carried.links.few;
    top = it.carried.links.top;
    room = one_fewer it.carried.set.room;
    away = it.carried.away;
  };
  deciding = record { at = decides_at s it.at; none = it.none };
  disk = it.disk;
}

pub stops_there : TurnsStop
stops_there number y s it stopped awake = record {
  behind = record {
    number = number;
    stands = record { deciding = record { at = decides_at s it.at; none = it.none }; turn = it.turn; disk = it.disk; ready = it.ready; kept = it.kept; awake = it.awake };
  };
  stopped = it.turn.stopped ∙ stopped;
  awake = awake;
  clients = it.carried.links.clients;
  origins = it.carried.links.origins;
  away = it.carried.away;
}
