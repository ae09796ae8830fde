-- The law's words on a worked log, and on a state that it is false of.
use Rattle.std.proofs.Common.{◌≡◌, refl, ℕ, nat_le, Bool, true, false, List, [], ◌∷◌, ◌++◌, map, length, codes}
use Rattle.pp_conf.specs.Conf.{defaults}
use Rattle.pp_world.specs.Log.{Log}
use Rattle.pp_world.specs.declared.happening.Happening.{Happening}
use Rattle.pp_world.specs.declared.happening.Happening.TheVariants.{Woke, Waits, CanRead, CanWrite, Clock, Opened, Heard, Dialled, Reached, Asked, Got, Noted, Rooted, Listed, Listens}
use Rattle.pp_world.specs.declared.note.Decision.TheVariants.{Fetch}
use Rattle.pp_world.specs.declared.note.Remark.TheVariants.{Taken}
use Rattle.pp_law.proofs.OnLiterals.{pp_law_on_literals}
use Rattle.pp_law.specs.Lists.{Bytes}
use Rattle.pp_law.specs.State.{State, Term, Chunk, start}
use Rattle.pp_laws.specs.Runs.{state_after}

-- the least critical mark, and one life in which nothing fails outside
abbrev one_life : List Term
one_life = record { words = codes "diskRun=1" ∷ codes "chunkLowMark=512" ∷ codes "chunkHighMark=512" ∷ codes "chunkCriticalMark=512" ∷ []; faults = 0 } ∷ []

-- it waits to accept, and for these to be read and to be written
abbrev wait : List ℕ → List ℕ → Happening
wait read write = Waits (record { accept = true; read = record { items = read }; write = record { items = write } })

-- the clock tells Sun, 06 Nov 1994 08:49:37 GMT; client 1 asks for something, and its origin is asked
abbrev asked : Log
asked =
    Woke [] ∷ Rooted (codes "polipo-cache") ∷ Listed true ∷ Listens 8123 true ∷ wait [] [] ∷ Clock 784111777 ∷ wait [] []
    ∷ Opened 1 ∷ wait (1 ∷ []) [] ∷ CanRead 1 ∷ Heard 1 (codes "GET http://h/a HTTP/1.1\r\nHost: h\r\n\r\n") ∷ Noted (Taken 1 0 Fetch)
    ∷ Dialled 2 (codes "h") 80 ∷ wait (1 ∷ []) [] ∷ Reached 2 ∷ wait (1 ∷ 2 ∷ []) (2 ∷ []) ∷ CanWrite 2
    ∷ Asked 2 (codes "GET /a HTTP/1.1\r\nhost: h\r\nvia: 1.1 polipo\r\n\r\n") ∷ wait (1 ∷ 2 ∷ []) [] ∷ []

-- its response comes whole, and is in one chunk
abbrev answered : Log
answered = asked ++ CanRead 2 ∷ Got 2 (codes "HTTP/1.1 200 OK\r\nETag: \"x\"\r\nContent-Length: 5\r\n\r\nhello") ∷ []

-- the test of the law
abbrev is_within : State → Bool
is_within s = nat_le (length s.chunks) s.settings.critical

nothing_yet : map length (map (λ (c : Chunk). c.bytes) (state_after one_life asked).chunks) ≡ []
unfolding pp_law_on_literals
nothing_yet = refl

one_chunk : map length (map (λ (c : Chunk). c.bytes) (state_after one_life answered).chunks) ≡ 5 ∷ []
unfolding pp_law_on_literals
one_chunk = refl

answered_within : is_within (state_after one_life answered) ≡ true
unfolding pp_law_on_literals
answered_within = refl

-- two chunks where one may be are one too many
abbrev too_many : State
too_many = record (start []) {
  settings = record defaults { critical = 1 };
  chunks = record { instance = 0; index = 0; bytes = [] } ∷ record { instance = 0; index = 1; bytes = [] } ∷ [];
}

none_beyond : is_within too_many ≡ false
none_beyond = refl
