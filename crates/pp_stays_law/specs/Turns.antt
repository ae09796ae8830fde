-- What stands in a turn through its decisions and rounds, beside what the turn shows (ours).
use Rattle.std.specs.Prelude.{◌≡◌, ◌≤◌, ℕ, false, length, slice_get, Some}
use Rattle.pp_cache_law.specs.Outdated.{AreNoted}
use Rattle.pp_turns_law.specs.Unread.{IsCountedOn}
use Rattle.pp_keeps_law.specs.Stands.{HasOpenNames}
use Rattle.pp_law.specs.Connections.{conn}
use Rattle.pp_law.specs.State.{State, Conn}
use Rattle.pp_seats.specs.Dues.{is_refused_in}
use Rattle.pp_seats.specs.declared.seat.Seat.{Seat}
use Rattle.pp_shelf_law.specs.Shelf.{ShowsShelf}
use Rattle.pp_state.specs.Ends.{parts}
use Rattle.pp_state.specs.declared.state.State.{State as Turn}
use Rattle.pp_store.specs.Kept.{KeptMap}
use Rattle.pp_stays_law.specs.Names.{HasRoomToNote}

-- memory was refused for no row that a client waits for: where it is, this life goes astray
abbrev pub NoSeatIsRefused : Turn → Type 0
NoSeatIsRefused p = (i : ℕ) (seat : Seat) → slice_get p.seats.items i ≡ Some seat → is_refused_in seat.brought ≡ false

-- what each client is to be said first has room: `Reply` of `pp_client` holds so much
abbrev pub TextsHaveRoom : Turn → Type 0
TextsHaveRoom p = (i : ℕ) (seat : Seat) → slice_get p.seats.items i ≡ Some seat → length seat.client.reply.text ≤ 20480

-- of what is dropped as much is counted as came
abbrev pub AreCounted : Turn → State → Type 0
AreCounted p s = (n : ℕ) (k : Conn) → conn s n ≡ Some k → IsCountedOn p.flow k

-- the shelf shows the law's entries, of which those that stand no more are noted by their names, and none has a closed name. From all
-- three follows what is kept of each key (KeptOnesMayComeIn of `pp_kept_law`)
pub record IsNotedFor (shelf : KeptMap) (p : Turn) (s : State) : Type 0 where
  pub shows : ShowsShelf shelf s
  pub noted : AreNoted p.cache.outdated s.displaced s.entries
  pub names : HasOpenNames s
  pub room : HasRoomToNote (parts p)

-- ---- all of it

pub record StandsInTurn (shelf : KeptMap) (p : Turn) (s : State) : Type 0 where
  pub given : NoSeatIsRefused p
  pub texts : TextsHaveRoom p
  pub counted : AreCounted p s
  pub disk : IsNotedFor shelf p s
