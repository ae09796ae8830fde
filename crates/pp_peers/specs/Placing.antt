-- Where an ask goes (RFC 2616, sections 8.1.2.2 and 8.1.4).
use Rattle.std.specs.Prelude.{ℕ, Bool, true, false, nat_lt, if◌then◌else◌, List, length, Option, Some, None, option_map, unwrap_or}
use Rattle.pp_peers.specs.Peers.{Loaded}
use Rattle.pp_peers.specs.Searches.{count_of, is_any, is_of, lightest, lowest_idle}
use Rattle.pp_peers.specs.declared.placing.Limits.{Limits}
use Rattle.pp_peers.specs.declared.placing.Placed.{Placed}
use Rattle.pp_peers.specs.declared.placing.Placed.TheVariants.{On, Dial, CloseThenDial, Wait}

-- an idle connection gives way to a new one
abbrev pub giving_way : (Loaded → Bool) → List Loaded → Option Placed
giving_way among peers = option_map CloseThenDial (lowest_idle among peers)

-- "Clients that use persistent connections SHOULD limit the number of simultaneous connections that they maintain to a
-- given server"; ours: to as many as a setting says, and to 64 in all
abbrev pub new_place : ℕ → List ℕ → ℕ → List Loaded → Option Placed
new_place most host port peers =
    if nat_lt (count_of (is_of host port) peers) most
    then (if nat_lt (length peers) 64 then Some Dial else giving_way is_any peers)
    else giving_way (is_of host port) peers

-- the first that there is
abbrev pub first_of : Option Placed → Option Placed → Option Placed
first_of None other = other
first_of (Some placed) other = Some placed

-- behind the asks of a connection, where a setting lets asks go there
abbrev pub pipelined_place : Bool → List ℕ → ℕ → List Loaded → Option Placed
pipelined_place false host port peers = None
pipelined_place true host port peers = option_map (λ w. On w.1) (lightest (is_of host port) peers)

abbrev pub shared_place : Limits → List ℕ → ℕ → List Loaded → Placed
shared_place limits host port peers =
    unwrap_or
    (first_of (option_map On (lowest_idle (is_of host port) peers))
    (first_of (new_place limits.host_connections host port peers) (pipelined_place limits.pipelines_asks host port peers))) Wait

-- "Clients SHOULD NOT pipeline requests using non-idempotent methods": such an ask goes alone
abbrev pub place : Limits → List ℕ → ℕ → Bool → List Loaded → Placed
place limits host port alone peers =
    if alone then unwrap_or (new_place limits.host_connections host port peers) Wait else shared_place limits host port peers
