use Rattle.std.proofs.Common.{◌≡◌, ◌≤◌, take}
use Rattle.pp_links.specs.Links.{IsLinked}
use Rattle.pp_desk.specs.Closings.{KeepsDesk, sides}
use Rattle.pp_desk.specs.Replies.{EndsSaid}
use Rattle.pp_state.specs.Ends.{AreSeated, numbers_of}
use Rattle.pp_desk.proofs.desk.Desk.end_said.Given as goal

abbrev pub invariant-loop-turn : goal.invariant-loop-turn
invariant-loop-turn g l = record {
  linked : IsLinked (g.W.Logged.log l.world) (g.W.Logged.top l.world) l.fn.links;
  told : g.W.Logged.log l.world ≡ g.W.Logged.log l.fn.world;
  top : g.W.Logged.top l.world ≡ g.W.Logged.top l.fn.world;
  faults : g.W.Logged.faults l.fn.world ≤ g.W.Logged.faults l.world;
  is : AreSeated l.fn.self.state → EndsSaid (take l.turn l.fn.self.state.awake.items) (sides l.fn.self) (sides l.self);
  numbers : numbers_of l.self.state.seats.items ≡ numbers_of l.fn.self.state.seats.items;
  rest : KeepsDesk l.fn.self l.self;
}
