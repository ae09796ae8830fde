use Rattle.pp_desk.specs.Replies.{without_finished_at}
use Rattle.pp_desk.proofs.OriginLemmas.{AreDone}
use Rattle.pp_desk.proofs.desk.Desk.close_finished.Given as goal

abbrev pub invariant-loop-turn : goal.invariant-loop-turn
invariant-loop-turn l = AreDone without_finished_at l.fn.self.state.awake.items l.turn l.fn.self l.self
