-- What a tick of the clock changes (ours).
use Rattle.std.specs.Prelude.{ℕ, map}
use Rattle.pp_decide.specs.Patience.{is_leap}
use Rattle.pp_desk.specs.Closings.{Sides}
use Rattle.pp_desk.specs.Marks.{marked_peers, marked_seats}
use Rattle.pp_desk.specs.Origins.{without_idle}
use Rattle.pp_due.specs.Waits.{woken_seat}
use Rattle.pp_state.specs.declared.state.State.{State}

-- the first tick of a life, and one that leaps, mark all, and who waited for an exchange is marked
abbrev pub second_begun : ℕ → State → Sides → Sides
second_begun now s x = record {
  parts = record x.parts { seats = map (woken_seat now s) (marked_seats (is_leap now s.has_ticked s.now) now x.parts.seats) };
  peers = marked_peers (is_leap now s.has_ticked s.now) now x.peers;
}

-- and then those that are idle are given up
abbrev pub ticked : ℕ → State → Sides → Sides
ticked now s x = without_idle now (second_begun now s x)
