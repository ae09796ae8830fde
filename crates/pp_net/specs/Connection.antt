-- How far a connection comes.
use Rattle.std.specs.Prelude.{Bool, true, false, cond}
use Rattle.pp_net.specs.declared.connection.Phase.{Phase}
use Rattle.pp_net.specs.declared.connection.Phase.TheVariants.{Accepted, Lingering, Dialled, Answered, Reached, Broken}

-- it is not closed
abbrev pub is_open_in : Phase → Bool
is_open_in Accepted = true
is_open_in (Lingering since) = false
is_open_in (Dialled dial) = true
is_open_in (Answered dial) = true
is_open_in Reached = true
is_open_in Broken = true

-- what a report changes that tells, or does not, that the dial is over
abbrev pub phase_heard : Bool → Phase → Phase
phase_heard is_told Accepted = Accepted
phase_heard is_told (Lingering since) = Lingering since
phase_heard is_told (Dialled dial) = cond is_told (Answered dial) (Dialled dial)
phase_heard is_told (Answered dial) = Answered dial
phase_heard is_told Reached = Reached
phase_heard is_told Broken = Broken
