-- The laws' words on the worked log, and where the last client that may come has come.
use Rattle.std.proofs.Common.{◌≡◌, refl, ℕ, zero, suc, true, false, List, [], ◌∷◌, ◌++◌, map, filter, length, codes}
use Rattle.pp_world.specs.Log.{Log}
use Rattle.pp_world.specs.declared.happening.Happening.{Happening}
use Rattle.pp_world.specs.declared.happening.Happening.TheVariants.{Woke, Waits, CanRead, CanWrite, Clock, Opened, Heard, Dialled, Reached, Asked, Noted, Rooted, Listed, Listens}
use Rattle.pp_world.specs.declared.note.Decision.TheVariants.{Pass}
use Rattle.pp_world.specs.declared.note.Remark.TheVariants.{Taken}
use Rattle.pp_law.proofs.OnLiterals.{pp_law_on_literals}
use Rattle.pp_law.specs.After.{new_client}
use Rattle.pp_law.specs.Lists.{Bytes}
use Rattle.pp_law.specs.Permits.{is_permitted}
use Rattle.pp_law.specs.State.{State, Term, Awaiting, Client, Conn, start}
use Rattle.pp_laws.specs.Runs.{state_after}
use Rattle.pp_laws_bounds.specs.Bounds.{goes_to, has_place}

-- runs of one chunk, asks that are pipelined, and four connections to a host
abbrev small_words : List Bytes
small_words = codes "diskRun=1" ∷ codes "pipelineAsks=1" ∷ codes "hostConnections=4" ∷ []

-- one life, in which nothing fails outside
abbrev one_life : List Term
one_life = record { words = small_words; faults = 0 } ∷ []

-- it waits to accept, and for these to be read and to be written
abbrev wait : List ℕ → List ℕ → Happening
wait read write = Waits (record { accept = true; read = record { items = read }; write = record { items = write } })

-- the clock tells Sun, 06 Nov 1994 08:49:37 GMT
abbrev opening : Log
opening = Woke [] ∷ Rooted (codes "polipo-cache") ∷ Listed true ∷ Listens 8123 true ∷ wait [] [] ∷ Clock 784111777 ∷ wait [] [] ∷ []

-- client 1 comes, and sends this
abbrev client_sends : Bytes → Log
client_sends bytes = Opened 1 ∷ wait (1 ∷ []) [] ∷ CanRead 1 ∷ Heard 1 bytes ∷ []

-- a request that no cache may answer
abbrev request : Bytes
request = codes "GET http://h/a HTTP/1.1\r\nHost: h\r\nCache-Control: no-store\r\n\r\n"

-- its origin, connection 2, is dialled, reached and asked
abbrev origin_asked : Log
origin_asked =
    Dialled 2 (codes "h") 80 ∷ wait (1 ∷ []) [] ∷ Reached 2 ∷ wait (1 ∷ 2 ∷ []) (2 ∷ []) ∷ CanWrite 2
    ∷ Asked 2 (codes "GET /a HTTP/1.1\r\nhost: h\r\ncache-control: no-store\r\nvia: 1.1 polipo\r\n\r\n") ∷ wait (1 ∷ 2 ∷ []) [] ∷ []

-- a request is passed to its origin
abbrev asked : Log
asked = opening ++ client_sends request ++ Noted (Taken 1 0 Pass) ∷ origin_asked

-- one client, and one connection, to that host, with one ask in its line
connections_there : map {B = ℕ × ℕ} (λ (k : Conn). (k.number, length k.line)) (state_after one_life asked).conns ≡ (2, 1) ∷ []
unfolding pp_law_on_literals
connections_there = refl

host_there : length (filter (goes_to (codes "h") 80) (state_after one_life asked).conns) ≡ 1
unfolding pp_law_on_literals
host_there = refl

placed_there : length (filter has_place (state_after one_life asked).exchanges) ≡ 1
unfolding pp_law_on_literals
placed_there = refl

clients_there : length (state_after one_life asked).clients ≡ 1
unfolding pp_law_on_literals
clients_there = refl

-- ---- the 256th client may come, and no further one

abbrev many : ℕ → List Client
many zero = []
many (suc n) = new_client n 0 ∷ many n

abbrev awaiting_with : ℕ → State
awaiting_with n = record (start []) { phase = Awaiting; clients = many n; top = n }

last_one : is_permitted (awaiting_with 255) (Opened 300) ≡ true
unfolding pp_law_on_literals
last_one = refl

none_beyond : is_permitted (awaiting_with 256) (Opened 300) ≡ false
unfolding pp_law_on_literals
none_beyond = refl
