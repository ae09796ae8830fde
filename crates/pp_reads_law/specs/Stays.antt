-- What a read of an origin leaves as it was: each client stays at its place, at its request and with its decision, no connection comes or goes, and
-- what the turn knows beside clients, exchanges and rows is the same (RFC 2616, section 8.1). Of the program alone.
use Rattle.std.specs.Prelude.{◌≡◌, ℕ, false, List, [], slice_get, Option, Some}
use Rattle.pp_desk.specs.Closings.{peer_numbers}
use Rattle.pp_origins.specs.Gots.{Both, GotFrom, Remains}
use Rattle.pp_seats.specs.declared.seat.Seat.{Seat}
use Rattle.pp_state.specs.Ends.{numbers_of}
use Rattle.pp_state.specs.declared.state.State.{State as Turn}
use Rattle.pp_store.specs.Kept.{KeptMap}

-- ---- a client, and all

pub record IsStill (seat new : Seat) : Type 0 where
  pub id : new.client.id ≡ seat.client.id
  pub front : new.front ≡ seat.front
  pub stage : new.stage ≡ seat.stage
  pub hung_up : new.has_hung_up ≡ seat.has_hung_up
  pub closing : new.is_closing ≡ seat.is_closing

pub record WasStill (seats : List Seat) (i : ℕ) (new : Seat) : Type 0 where
  pub old : Seat
  pub here : slice_get seats i ≡ Some old
  pub is : IsStill old new

pub record AreStill (olds news : List Seat) : Type 0 where
  pub numbers : numbers_of news ≡ numbers_of olds
  pub was : (i : ℕ) (new : Seat) → slice_get news i ≡ Some new → WasStill olds i new

-- ---- what the turn knows beside them

pub record KnowsAsMuch (old new : Turn) : Type 0 where
  pub name : new.name.items ≡ old.name.items
  pub shares : new.shares_fetches ≡ old.shares_fetches
  pub clock : new.now ≡ old.now
  pub ticked : new.is_ticked ≡ old.is_ticked
  pub was_ticked : new.has_ticked ≡ old.has_ticked
  pub stopped : new.is_stopped ≡ old.is_stopped
  pub awake : new.awake.items ≡ old.awake.items

-- ---- of both

pub record StaysBeside (old new : Both) : Type 0 where
  pub clients : AreStill old.state.seats.items new.state.seats.items
  pub conns : peer_numbers new.peers ≡ peer_numbers old.peers
  pub knows : KnowsAsMuch old.state new.state
  -- a life that went astray stays so; and where it did not, memory was refused for no row
  pub astray : new.state.is_astray ≡ false → old.state.is_astray ≡ false
  pub refused : new.state.is_astray ≡ false → old.state.refused ≡ [] → new.state.refused ≡ []

-- step by step, as many as there are
abbrev pub ReadsStay : Type 0
ReadsStay = (most : ℕ) (shelf : KeptMap) (k : ℕ) (here : Option Remains) (x y : Both) → GotFrom most shelf k here x y → StaysBeside x y
