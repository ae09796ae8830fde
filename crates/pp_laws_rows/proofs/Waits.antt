-- The laws' words on a worked log, and what they refuse: a request that nothing is done for, and a connection that nobody looks at.
use Rattle.std.proofs.Common.{◌≡◌, refl, ℕ, Bool, true, false, List, [], ◌∷◌, ◌++◌, map, codes, Option, Some, None}
use Rattle.pp_world.specs.Log.{Log}
use Rattle.pp_world.specs.declared.event.Wants.{Wants}
use Rattle.pp_world.specs.declared.happening.Happening.{Happening}
use Rattle.pp_world.specs.declared.happening.Happening.TheVariants.{Woke, Waits, CanRead, CanWrite, Clock, Opened, Heard, Dialled, Reached, Asked, Noted, Rooted, Listed, Listens}
use Rattle.pp_world.specs.declared.note.Decision.TheVariants.{Pass}
use Rattle.pp_world.specs.declared.note.Remark.TheVariants.{Taken}
use Rattle.pp_law.proofs.OnLiterals.{pp_law_on_literals}
use Rattle.pp_law.specs.After.{new_client, new_conn}
use Rattle.pp_law.specs.Lawful.{first_fault}
use Rattle.pp_law.specs.Requests.{NoHead, has_request}
use Rattle.pp_law.specs.Served.{wants_read, wants_write}
use Rattle.pp_law.specs.State.{Term, Client, Conn, Exchange, start}
use Rattle.pp_laws_waits.specs.Waits.{at_wait, IsServed, written_to, may_ask, waits, GoesOn, dialled, read, written, held_back}

abbrev one_life : List Term
one_life = record { words = codes "diskRun=1" ∷ codes "pipelineAsks=1" ∷ codes "hostConnections=4" ∷ []; faults = 0 } ∷ []

-- it waits to accept, and for these to be read and to be written
abbrev wants : List ℕ → List ℕ → Wants
wants reads writes = record { accept = true; read = record { items = reads }; write = record { items = writes } }

abbrev wait : List ℕ → List ℕ → Happening
wait reads writes = Waits (wants reads writes)

-- a request that no cache may answer is passed, and its origin, connection 2, was asked
abbrev asked : Log
asked =
    Woke [] ∷ Rooted (codes "polipo-cache") ∷ Listed true ∷ Listens 8123 true ∷ wait [] [] ∷ Clock 784111777 ∷ wait [] []
    ∷ Opened 1 ∷ wait (1 ∷ []) [] ∷ CanRead 1 ∷ Heard 1 (codes "GET http://h/a HTTP/1.1\r\nHost: h\r\nCache-Control: no-store\r\n\r\n") ∷ Noted (Taken 1 0 Pass)
    ∷ Dialled 2 (codes "h") 80 ∷ wait (1 ∷ []) [] ∷ Reached 2 ∷ wait (1 ∷ 2 ∷ []) (2 ∷ []) ∷ CanWrite 2
    ∷ Asked 2 (codes "GET /a HTTP/1.1\r\nhost: h\r\ncache-control: no-store\r\nvia: 1.1 polipo\r\n\r\n") ∷ []

wait_is_lawful : first_fault one_life (asked ++ wait (1 ∷ 2 ∷ []) [] ∷ []) ≡ None
unfolding pp_law_on_literals
wait_is_lawful = refl

-- as the turn ends the client has a request, and is not written to; an exchange is there for it
client_there : map {B = ℕ × Bool × Bool} (λ (c : Client). (c.number, has_request c.front, wants_write (wants (1 ∷ 2 ∷ []) []) c.number)) (at_wait one_life asked).clients ≡ (1, true, false) ∷ []
unfolding pp_law_on_literals
client_there = refl

exchange_there : map {B = ℕ × Option ℕ} (λ (e : Exchange). (e.number, e.asker)) (at_wait one_life asked).exchanges ≡ (0, Some 1) ∷ []
unfolding pp_law_on_literals
exchange_there = refl

-- and stands in the line of a connection that is read
connection_there : map {B = ℕ × List ℕ × Bool} (λ (k : Conn). (k.number, k.line, wants_read (wants (1 ∷ 2 ∷ []) []) k.number)) (at_wait one_life asked).conns ≡ (2, 0 ∷ [], true) ∷ []
unfolding pp_law_on_literals
connection_there = refl

-- ---- nobody else is left

-- a client with a request, which is not written to, where no exchange is
abbrev alone : Client
alone = record (new_client 1 0) { front = NoHead 400 }

none_serves : IsServed (record (start []) { clients = alone ∷ [] }) (wants (1 ∷ []) []) alone → ⊥
none_serves (written_to is) = cc is
none_serves (may_ask none is) = cc none
none_serves (waits e there why) = there

-- a connection that was reached, with nothing in its line, which is in no want
abbrev idle : Conn
idle = record (new_conn 2 (codes "h") 80 0) { is_reached = true }

none_goes_on : GoesOn (record (start []) { conns = idle ∷ [] }) (wants [] []) idle → ⊥
none_goes_on (dialled none) = cc none
none_goes_on (read is) = cc is
none_goes_on (written is) = cc is
none_goes_on (held_back e first holds) = cc first
