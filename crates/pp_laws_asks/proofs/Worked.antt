-- The laws' words on the worked log, on an exchange that its request leaves for another, and on states that they are false of.
use Rattle.std.proofs.Common.{◌≡◌, refl, ℕ, zero, suc, nat_le, Bool, true, false, List, [], ◌∷◌, ◌++◌, map, filter, length, Option, Some, None, codes}
use Rattle.pp_head.specs.Request.{Request}
use Rattle.pp_target.specs.Key.{Key}
use Rattle.pp_world.specs.Log.{Log}
use Rattle.pp_world.specs.declared.happening.Happening.{Happening}
use Rattle.pp_world.specs.declared.happening.Happening.TheVariants.{Woke, Waits, CanRead, CanWrite, Clock, Opened, Heard, Dialled, Reached, Asked, Got, Noted, Rooted, Listed, Listens}
use Rattle.pp_world.specs.declared.note.Decision.TheVariants.{Fetch}
use Rattle.pp_world.specs.declared.note.Remark.TheVariants.{Taken}
use Rattle.pp_law.proofs.OnLiterals.{pp_law_on_literals}
use Rattle.pp_law.specs.After.{new_client}
use Rattle.pp_law.specs.Deciding.{begin_exchange}
use Rattle.pp_law.specs.Sharing.{is_shared}
use Rattle.pp_law.specs.State.{State, Term, Client, Exchange, Own, Pending, start}
use Rattle.pp_laws.specs.Runs.{state_after}
use Rattle.pp_laws_asks.specs.Asks.{is_waiting}

-- ---- one life, in which a request is fetched

abbrev one_life : List Term
one_life = record { words = codes "diskRun=1" ∷ []; faults = 0 } ∷ []

-- it waits to accept, and for these to be read and to be written
abbrev wait : List ℕ → List ℕ → Happening
wait read write = Waits (record { accept = true; read = record { items = read }; write = record { items = write } })

-- the clock tells Sun, 06 Nov 1994 08:49:37 GMT; client 1 asks for something
abbrev decided : Log
decided =
    Woke [] ∷ Rooted (codes "polipo-cache") ∷ Listed true ∷ Listens 8123 true ∷ wait [] [] ∷ Clock 784111777 ∷ wait [] []
    ∷ Opened 1 ∷ wait (1 ∷ []) [] ∷ CanRead 1 ∷ Heard 1 (codes "GET http://h/a HTTP/1.1\r\nHost: h\r\n\r\n") ∷ Noted (Taken 1 0 Fetch) ∷ []

-- and its origin, connection 2, is asked
abbrev asked : Log
asked =
    decided ++ Dialled 2 (codes "h") 80 ∷ wait (1 ∷ []) [] ∷ Reached 2 ∷ wait (1 ∷ 2 ∷ []) (2 ∷ []) ∷ CanWrite 2
    ∷ Asked 2 (codes "GET /a HTTP/1.1\r\nhost: h\r\nvia: 1.1 polipo\r\n\r\n") ∷ wait (1 ∷ 2 ∷ []) [] ∷ []

abbrev shown : Exchange → Option ℕ × Option ℕ × Bool
shown e = (e.asker, e.place, is_waiting e)

-- one exchange, for client 1: without a place at first, then on connection 2
begun_there : map shown (state_after one_life decided).exchanges ≡ (Some 1, None, true) ∷ []
unfolding pp_law_on_literals
begun_there = refl

asked_there : map shown (state_after one_life asked).exchanges ≡ (Some 1, Some 2, true) ∷ []
unfolding pp_law_on_literals
asked_there = refl

-- who asks for the same now would wait for it
shared_there : map (is_shared (codes "http://h/a")) (state_after one_life asked).exchanges ≡ true ∷ []
unfolding pp_law_on_literals
shared_there = refl

-- ---- a request asks another thing: what it asked before is over, where it had no place

abbrev no_request : Request
no_request = record { method = []; target = []; minor = 1; fields = []; length = 0 }

abbrev ask_of : ℕ → Option ℕ → Exchange
ask_of n place = record {
  number = n;
  asker = Some 1;
  head = no_request;
  key = record { host = codes "h"; port = 80; path = codes "/a" };
  aim = Own;
  named = None;
  is_ranged = false;
  is_moved = false;
  text = codes "a";
  asked = 0;
  body_left = 0;
  requested = 0;
  place = place;
  body = Pending;
}

abbrev with_asks : List Exchange → State
with_asks es = record (start []) { clients = new_client 1 0 ∷ []; exchanges = es; next_exchange = 2 }

without_place : map shown (begin_exchange (ask_of 2 None) (with_asks (ask_of 1 None ∷ []))).exchanges ≡ (Some 1, None, true) ∷ []
unfolding pp_law_on_literals
without_place = refl

-- and else it is nobody's
with_place : map shown (begin_exchange (ask_of 2 None) (with_asks (ask_of 1 (Some 5) ∷ []))).exchanges ≡ (None, Some 5, false) ∷ (Some 1, None, true) ∷ []
unfolding pp_law_on_literals
with_place = refl

-- ---- what would be too many

-- two of one request
two_of_one : map (λ e. e.asker) (with_asks (ask_of 1 None ∷ ask_of 2 (Some 5) ∷ [])).exchanges ≡ Some 1 ∷ Some 1 ∷ []
two_of_one = refl

abbrev many : ℕ → List Exchange
many zero = []
many (suc n) = ask_of n None ∷ many n

-- the 257th that waits
one_beyond : nat_le (length (filter is_waiting (many 257))) 256 ≡ false
one_beyond = refl
