-- Several happenings, one behind the other: what holds behind the last, and where they lead.
use Rattle.std.proofs.Common.{◌≡◌, sym, subst, [], ◌∷◌, ◌++◌}
use Rattle.pp_law.specs.After.{after}
use Rattle.pp_law.specs.State.{State}
use Rattle.pp_obeys.specs.Calls.{LeadsJoin}
use Rattle.pp_obeys.specs.Moves.{Leads, MovesAll}
use Rattle.pp_world.specs.Log.{Log}

pub moves_map : (P Q : State → Type 0) → ((t : State) → P t → Q t) → (hs : Log) (s : State) → MovesAll P hs s → MovesAll Q hs s
moves_map P Q words [] s holds = words s holds
moves_map P Q words (h ∷ hs) s moves = record { awake = moves.awake; may = moves.may; holds = moves_map P Q words hs (after s h) moves.holds }

pub moves_append : (Q : State → Type 0) (one two : Log) (s : State) → MovesAll (λ t. MovesAll Q two t) one s → MovesAll Q (one ++ two) s
moves_append Q [] two s moves = moves
moves_append Q (h ∷ one) two s moves = record { awake = moves.awake; may = moves.may; holds = moves_append Q one two (after s h) moves.holds }

-- they lead to a state, of which this holds
pub leads_to : (Q : State → Type 0) (hs : Log) (s t : State) → Leads hs s t → Q t → MovesAll Q hs s
leads_to Q hs s t leads holds = moves_map (λ u. u ≡ t) Q (λ u is. subst Q (sym is) holds) hs s leads

-- and others on from there
pub leads_then : (Q : State → Type 0) (one two : Log) (s t : State) → Leads one s t → MovesAll Q two t → MovesAll Q (one ++ two) s
leads_then Q one two s t leads moves = moves_append Q one two s (leads_to (λ u. MovesAll Q two u) one s t leads moves)

pub lead_joined : LeadsJoin
lead_joined one two s t u first then = leads_then (λ v. v ≡ u) one two s t first then
