-- Memory was refused for what the law knows, or a loop ended at its bound: from then on nothing is said of the log (ours).
use Rattle.std.specs.Prelude.{Bool, true, false}
use Rattle.pp_state.specs.Ends.{Parts}
use Rattle.pp_state.specs.declared.state.State.{State}

abbrev pub astray : Parts → Parts
astray p = record p { is_astray = true }

abbrev pub astray_where : Bool → Parts → Parts
astray_where true p = astray p
astray_where false p = p

-- ---- the same of all that the steps of a turn change

abbrev pub gone_astray : State → State
gone_astray s = record s { is_astray = true }

abbrev pub gone_astray_where : Bool → State → State
gone_astray_where true s = gone_astray s
gone_astray_where false s = s
