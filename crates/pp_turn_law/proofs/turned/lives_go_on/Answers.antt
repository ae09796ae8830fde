use Rattle.pp_turn_law.proofs.AllTurns.{all_lives, all_turns}
use Rattle.pp_turn_law.proofs.turned.lives_go_on.Goals as goal

pub returns : goal.returns
returns c = record { turns = all_turns; lives = all_lives c.events_are_taken.ensures }
