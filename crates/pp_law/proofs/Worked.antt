-- The log that a few rows begin with: a request that no cache may answer, and its response.
use Rattle.std.proofs.Common.{ℕ, List, [], ◌∷◌, ◌++◌, true, codes}
use Rattle.pp_world.specs.declared.happening.Happening.{Happening}
use Rattle.pp_world.specs.declared.happening.Happening.TheVariants.{Woke, Waits, CanRead, CanWrite, Clock, Opened, Heard, Dialled, Reached, Asked, Got, Noted, Rooted, Listed, Listens}
use Rattle.pp_world.specs.declared.note.Decision.TheVariants.{Pass}
use Rattle.pp_world.specs.declared.note.Remark.TheVariants.{Taken}
use Rattle.pp_world.specs.Log.{Log}
use Rattle.pp_law.specs.Lists.{Bytes}
use Rattle.pp_law.specs.State.{Term}

-- runs of one chunk, asks that are pipelined, and four connections to a host
abbrev pub small_words : List Bytes
small_words = codes "diskRun=1" ∷ codes "pipelineAsks=1" ∷ codes "hostConnections=4" ∷ []

-- one life, in which nothing fails outside
abbrev pub one_life : List Term
one_life = record { words = small_words; faults = 0 } ∷ []

-- it waits to accept, and for these to be read and to be written
abbrev pub wait : List ℕ → List ℕ → Happening
wait read write = Waits (record { accept = true; read = record { items = read }; write = record { items = write } })

-- the clock tells Sun, 06 Nov 1994 08:49:37 GMT
abbrev pub opening : Log
opening = Woke [] ∷ Rooted (codes "polipo-cache") ∷ Listed true ∷ Listens 8123 true ∷ wait [] [] ∷ Clock 784111777 ∷ wait [] [] ∷ []

-- client 1 comes, and sends this
abbrev pub client_sends : Bytes → Log
client_sends bytes = Opened 1 ∷ wait (1 ∷ []) [] ∷ CanRead 1 ∷ Heard 1 bytes ∷ []

-- a request that no cache may answer
abbrev pub request : Bytes
request = codes "GET http://h/a HTTP/1.1\r\nHost: h\r\nCache-Control: no-store\r\n\r\n"

-- its origin, connection 2, is dialled, reached and asked
abbrev pub origin_asked : Log
origin_asked =
    Dialled 2 (codes "h") 80 ∷ wait (1 ∷ []) [] ∷ Reached 2 ∷ wait (1 ∷ 2 ∷ []) (2 ∷ []) ∷ CanWrite 2
    ∷ Asked 2 (codes "GET /a HTTP/1.1\r\nhost: h\r\ncache-control: no-store\r\nvia: 1.1 polipo\r\n\r\n") ∷ wait (1 ∷ 2 ∷ []) [] ∷ []

-- the response comes whole
abbrev pub answered : Log
answered =
    opening ++ client_sends request ++ Noted (Taken 1 0 Pass) ∷ origin_asked
    ++ CanRead 2 ∷ Got 2 (codes "HTTP/1.1 200 OK\r\nContent-Length: 5\r\n\r\nhello") ∷ wait (1 ∷ 2 ∷ []) (1 ∷ []) ∷ []
