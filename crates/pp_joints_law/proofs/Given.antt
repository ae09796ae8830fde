-- Where memory was refused for no seat's row, it was for no client's, behind a wait.
use Rattle.pp_joints_law.specs.Awaiting.{GivenOnesAreTheLaws}
use Rattle.pp_rests_law.proofs.Given.{given_shown}

pub given_ones : GivenOnesAreTheLaws
given_ones number e f s t rested given c there going = given_shown number f.state.name.items f.state.seats.items t.clients rested.turn.steps.shows.clients given c there going
