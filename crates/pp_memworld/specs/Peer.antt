-- What a read of a connection finds, how many bytes a write leaves there, and what is there afterwards. Nothing comes from a
-- number that no connection has, and nothing is taken there.
use Rattle.std.specs.Prelude.{◌≡◌, ℕ, ◌-◌, Bool, true, false, min, List, [], ◌∷◌, length, take, drop, Option, Some, None}
use Rattle.pp_world.specs.declared.event.Got.{Got}
use Rattle.pp_world.specs.declared.event.Got.TheVariants.{Bytes, End, NotYet}
use Rattle.pp_memworld.specs.declared.peer.Peer.{Peer}
use Rattle.pp_memworld.specs.declared.peer.Ending.{Ending}
use Rattle.pp_memworld.specs.declared.peer.Ending.TheVariants.{None as StandsOpen, Unread, Read}

-- the bytes that came and were not read
abbrev pub unread : Option Peer → List ℕ
unread None = []
unread (Some p) = drop p.read p.sent.items

abbrev pub is_over : Ending → Bool
is_over StandsOpen = false
is_over Unread = true
is_over Read = true

-- an end stands behind them, and stays there once it was read
abbrev pub has_ended : Option Peer → Bool
has_ended None = false
has_ended (Some p) = is_over p.ending

-- how many bytes are taken still; without a window all are
abbrev pub window_of : Option Peer → Option ℕ
window_of None = Some 0
window_of (Some p) = p.window

-- the front of the bytes, as many as there is room for; behind them the end; not yet where neither is there
abbrev pub found_in : ℕ → List ℕ → Bool → Got
found_in room [] false = NotYet
found_in room [] true = End
found_in room (b ∷ bytes) ended = Bytes (min room (length (b ∷ bytes)))

abbrev pub found : ℕ → Option Peer → Got
found room peer = found_in room (unread peer) (has_ended peer)

abbrev pub count_of : Got → ℕ
count_of (Bytes n) = n
count_of End = 0
count_of NotYet = 0

-- all that is offered, or as much as the window is wide
abbrev pub taken_in : ℕ → Option ℕ → ℕ
taken_in offered None = offered
taken_in offered (Some room) = min room offered

abbrev pub taken : ℕ → Option Peer → ℕ
taken offered peer = taken_in offered (window_of peer)

-- the window, once so many bytes were taken
abbrev pub narrowed : ℕ → Option ℕ → Option ℕ
narrowed count None = None
narrowed count (Some room) = Some (room - count)

-- a connection that begins: nothing came, no end stands there, and all is taken
pub record IsFresh (peer : Option Peer) : Type 0 where
  pub empty : unread peer ≡ []
  pub unended : has_ended peer ≡ false
  pub unlimited : window_of peer ≡ None

-- so many bytes were read: those behind them are unread still
pub record IsReadBy (count : ℕ) (old new : Option Peer) : Type 0 where
  pub rest : unread new ≡ drop count (unread old)
  pub ended : has_ended new ≡ has_ended old
  pub window : window_of new ≡ window_of old

-- so many bytes were taken: what was unread is so still, and an answer may stand behind it
pub record IsWrittenBy (count : ℕ) (old new : Option Peer) : Type 0 where
  pub kept : take (length (unread old)) (unread new) ≡ unread old
  pub ended : has_ended new ≡ has_ended old
  pub window : window_of new ≡ narrowed count (window_of old)
