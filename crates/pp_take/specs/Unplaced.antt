-- What becomes of an exchange whose dial was refused (RFC 2616, section 8.1).
use Rattle.std.specs.Prelude.{ℕ, Bool, true, false, List}
use Rattle.pp_flow.specs.declared.entry.Exchange.{Exchange}
use Rattle.pp_state.specs.Ends.{Parts, ended, lost_attempt, may_ask_again}
use Rattle.pp_take.specs.Filling.{filled}

-- it is asked elsewhere; or it is over, and whoever waited for what it brings asks for himself
abbrev pub asked_again_where : Bool → Bool → List ℕ → List ℕ → ℕ → Parts → Parts
asked_again_where true is_stopped name awake number p = p
asked_again_where false is_stopped name awake number p = filled is_stopped name awake (ended number p)

-- an attempt is lost
abbrev pub refused_dial : Bool → List ℕ → List ℕ → Exchange → Parts → Parts
refused_dial is_stopped name awake e p = asked_again_where (may_ask_again e.number (lost_attempt e p)) is_stopped name awake e.number (lost_attempt e p)
