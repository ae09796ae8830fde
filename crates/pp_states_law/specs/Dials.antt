-- A connection is dialled, and one is dropped (RFC 2616, section 8.1).
use Rattle.std.specs.Prelude.{◌≡◌, ◌≤◌, ℕ, [], ◌∷◌, ◌++◌, count_by, None}
use Rattle.pp_flow_law.specs.Frames.{still}
use Rattle.pp_flow_law.specs.Tables.{line_at}
use Rattle.pp_law.specs.After.{new_conn, out}
use Rattle.pp_law.specs.Connections.{conn, is_conn}
use Rattle.pp_law.specs.Lists.{Bytes}
use Rattle.pp_peers.specs.Peers.{unused, without}
use Rattle.pp_states_law.specs.States.{OfStates, ShowsState}

-- nothing was asked there yet
abbrev pub DialsAreTheLaws : Type 0
DialsAreTheLaws = OfStates (λ number name owed l p s. (n port : ℕ) (host : Bytes) → conn s n ≡ None
    → ShowsState number name owed l (record p { peers = p.peers ++ unused n host port s.clock ∷ [] }) (record s { conns = s.conns ++ new_conn n host port s.clock ∷ []; top = n }))

-- what stood in its line still has to leave it
abbrev pub DropsAreTheLaws : Type 0
DropsAreTheLaws = OfStates (λ number name owed l p s. (n : ℕ) → count_by (is_conn n) s.conns ≤ 1 → ShowsState number name owed (still n (line_at s n) l) (record p { peers = without n p.peers }) (out n s))

-- where nothing did
abbrev pub EmptyDropsAreTheLaws : Type 0
EmptyDropsAreTheLaws = OfStates (λ number name owed l p s. (n : ℕ) → count_by (is_conn n) s.conns ≤ 1 → line_at s n ≡ [] → ShowsState number name owed l (record p { peers = without n p.peers }) (out n s))
