-- From where rows leave memory to the next wait none is left to be noted.
use Rattle.std.proofs.Common.{◌≡◌, ap, ◌∙◌, false, []}
use Rattle.pp_desk.specs.declared.desk.Desk.{Desk}
use Rattle.pp_joints_law.proofs.Settled.{settles_work}
use Rattle.pp_joints_law.specs.Unnoted.{KeepingsForgetNone, KnowsAlike, LeavingsNoteAll, SettlingsForgetNone, WaitsForgetNone}
use Rattle.pp_law.specs.State.{State}
use Rattle.pp_law.specs.Turn.{rest_with}
use Rattle.pp_state.specs.declared.state.State.{State as Turn}
use Rattle.pp_world.specs.declared.event.Wants.{Wants}

pub leavings_note : LeavingsNoteAll
leavings_note x y log it = ap (λ (d : Desk). d.state.forgotten) it.gives.rest ∙ ap (λ (p : Turn). p.forgotten) it.leaves.is.rest

pub keepings_none : KeepingsForgetNone
keepings_none x y it none = ap (λ (d : Desk). d.state.forgotten) it.rest ∙ none

pub settlings_none : SettlingsForgetNone
settlings_none shelf x y log it none = ap (λ (d : Desk). d.state.forgotten) (settles_work shelf x y log it) ∙ none

knows : (w : Wants) (f : Desk) (s : State) → f.state.forgotten ≡ [] → f.state.is_evicting ≡ false → KnowsAlike f (rest_with w s)
unfolding rest_with
knows w f s none still = record { forgotten = none; evicting = still }

pub waits_none : WaitsForgetNone
waits_none before w clients d e f s awaits rests none =
    knows w f s (ap (λ (x : Desk). x.state.forgotten) rests.rest ∙ ap (λ (x : Desk). x.state.forgotten) awaits.rest ∙ none) (ap (λ (x : Desk). x.state.is_evicting) rests.rest)
