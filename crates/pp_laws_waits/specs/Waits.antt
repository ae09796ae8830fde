-- Nobody waits on nothing: whom everybody waits for where a turn ends. All of it is ours.
use Rattle.std.specs.Prelude.{◌≡◌, ◌⊎◌, ℕ, true, false, List, [], ◌∷◌, ◌++◌, Some}
use Rattle.pp_peers.specs.declared.placing.Placed.TheVariants.{Wait}
use Rattle.pp_target.specs.Key.{Key, text_of}
use Rattle.pp_world.specs.Log.{Log}
use Rattle.pp_world.specs.declared.event.Wants.{Wants}
use Rattle.pp_world.specs.declared.happening.Happening.TheVariants.{Waits}
use Rattle.pp_law.specs.Connections.{front_of_line, is_for, place_for}
use Rattle.pp_law.specs.Lawful.{Lawful}
use Rattle.pp_law.specs.Phases.{ending}
use Rattle.pp_law.specs.Requests.{has_request, key_in}
use Rattle.pp_law.specs.Served.{has_full_pipe, is_furthest, wants_read, wants_write}
use Rattle.pp_law.specs.Sharing.{is_shared}
use Rattle.pp_law.specs.Stages.{is_headed}
use Rattle.pp_law.specs.State.{State, Term, Shared, Client, Conn, Exchange}
use Rattle.pp_law.specs.Table.{Next, brings, next_of}
use Rattle.pp_laws.specs.Runs.{state_after, IsIn}

-- what is there as a turn ends, and the wait comes: what the turn owed is done, and replies that may begin have begun
abbrev pub at_wait : List Term → Log → State
at_wait terms log = ending (state_after terms log)

-- it stands in the wants, to be read; to be written to
abbrev pub IsRead : Wants → ℕ → Type 0
IsRead w n = wants_read w n ≡ true

abbrev pub IsWritten : Wants → ℕ → Type 0
IsWritten w n = wants_write w n ≡ true

-- ---- clients

-- the exchange brings the next byte of what the client follows
pub record BringsNext (s : State) (c : Client) (e : Exchange) : Type 0 where
  pub next : Next
  pub follows : next_of s c ≡ Some next
  pub comes : brings s next.source next.at e ≡ true

-- another asked for what the client's request names, by this exchange, and its answer has not come
abbrev pub IsAskedForBoth : Client → Exchange → Type 0
IsAskedForBoth c e = (is_headed e ≡ false)
    × (((shared : Shared) × (c.waits_on ≡ Some shared) × (e.number ≡ shared.exchange)) ⊎ ((key : Key) × (key_in c.front ≡ Some key) × (is_shared (text_of key) e ≡ true)))

-- why a client waits for an exchange: it is that of its request; it brings its next byte; or another asked for both
pub data WaitsFor (s : State) (c : Client) (e : Exchange) : Type 0 where
  its_own : is_for e c ≡ true → WaitsFor s c e
  its_next : BringsNext s c e → WaitsFor s c e
  shared : IsAskedForBoth c e → WaitsFor s c e

-- a client is written to; or it has no request, and is read; or it waits for an exchange that is there
pub data IsServed (s : State) (w : Wants) (c : Client) : Type 0 where
  written_to : IsWritten w c.number → IsServed s w c
  may_ask : has_request c.front ≡ false → IsRead w c.number → IsServed s w c
  waits : (e : Exchange) → IsIn e s.exchanges → WaitsFor s c e → IsServed s w c

abbrev pub NobodyWaitsOnNothing : Type 0
NobodyWaitsOnNothing = (terms : List Term) (log : Log) (w : Wants) → Lawful terms (log ++ Waits w ∷ [])
    → (c : Client) → IsIn c (at_wait terms log).clients → IsServed (at_wait terms log) w c

-- ---- exchanges

-- it has no place, and there is none for it to go to; or it stands in the line of a connection that is there
pub data IsPlaced (s : State) (e : Exchange) : Type 0 where
  nowhere : place_for s e ≡ Wait → IsPlaced s e
  in_line : (k : Conn) → IsIn k s.conns → IsIn e.number k.line → IsPlaced s e

abbrev pub EachExchangeIsPlaced : Type 0
EachExchangeIsPlaced = (terms : List Term) (log : Log) (w : Wants) → Lawful terms (log ++ Waits w ∷ [])
    → (e : Exchange) → IsIn e (at_wait terms log).exchanges → IsPlaced (at_wait terms log) e

-- ---- connections

-- reading stops for a client that is written to: its pipe is full, or it is the furthest of those that follow
pub record IsHeldBack (s : State) (w : Wants) (e : Exchange) : Type 0 where
  pub client : Client
  pub there : IsIn client s.clients
  pub is_written : IsWritten w client.number
  pub holds : (has_full_pipe e client ≡ true) ⊎ (is_furthest s e client ≡ true)

-- a connection is dialled, and not reached; it is read; it is written to; or the first of its line is held back
pub data GoesOn (s : State) (w : Wants) (k : Conn) : Type 0 where
  dialled : k.is_reached ≡ false → GoesOn s w k
  read : IsRead w k.number → GoesOn s w k
  written : IsWritten w k.number → GoesOn s w k
  held_back : (e : Exchange) → front_of_line s k ≡ Some e → IsHeldBack s w e → GoesOn s w k

-- so whoever waits for an exchange waits, in the end, for one who stands in the wants
abbrev pub NoRingOfWaits : Type 0
NoRingOfWaits = (terms : List Term) (log : Log) (w : Wants) → Lawful terms (log ++ Waits w ∷ [])
    → (k : Conn) → IsIn k (at_wait terms log).conns → GoesOn (at_wait terms log) w k
