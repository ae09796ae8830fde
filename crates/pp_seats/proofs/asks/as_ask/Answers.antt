use Rattle.std.specs.Prelude.{◌+◌}
use Rattle.pp_seats.proofs.AskLemmas.{check_written, hole_written}
use Rattle.pp_seats.proofs.asks.as_ask.Goals as goal

-- src/asks.rt:26:1
pub returns-in-Hole : goal.returns-in-Hole
returns-in-Hole c = hole_written (c.args.kind.ref_ptr.0, c.args.kind.ref_ptr.1 + 24) c.args.kind.now c.in-Hole.first c.in-Hole.last c.in-Hole.tag c.in-Hole.is

-- src/asks.rt:26:1
pub returns-in-Check : goal.returns-in-Check
returns-in-Check c = check_written (c.args.kind.ref_ptr.0, c.args.kind.ref_ptr.1 + 8) c.args.kind.now c.in-Check.tag c.in-Check.is
