-- How a read of a connection to an origin ends (RFC 2616, sections 4.4, 6, 8.1 and 10.1): at a moment between two pieces of the law, from which
-- nothing is read any more; or behind one by a last step, which takes what is left: no head is whole, or nothing came of a body, and that it waits
-- for more; or what came is no head, or came before the first ask of the line was asked whole, and the connection is closed.
use Rattle.std.specs.Prelude.{◌≡◌, ◌⊎◌, ℕ, true, [], List, Option, Some, None}
use Rattle.std.specs.List.{find}
use Rattle.pp_law.specs.Connections.{close_conn, on_conn}
use Rattle.pp_law.specs.Lists.{Bytes}
use Rattle.pp_law.specs.Responses.{bad_head, is_early, with_unread}
use Rattle.pp_law.specs.State.{State, Conn, Exchange}
use Rattle.pp_origins.specs.Gots.{Both, IsStepOn, Makes, going_on, remaining, sides_of}
use Rattle.pp_origins.specs.Responses.{bad_response}
use Rattle.pp_peers.specs.Peers.{is_number}
use Rattle.pp_pipe.specs.Line.{Line}
use Rattle.pp_reads_law.specs.Bads.{IsDue, IsOpen, piped}
use Rattle.pp_reads_law.specs.Interims.{IsClearedTo}
use Rattle.pp_store.specs.Kept.{KeptMap}
use Rattle.pp_turns_law.specs.Sides.{ShowsSides}

-- ---- the last step

-- it waits for more: the text of a head stands unread, or nothing came of a body
pub record StaysUnread (x : Both) (s : State) (n : ℕ) (y : Both) (t : State) : Type 0 where
  pub same : y.state ≡ x.state
  pub law : (t ≡ s) ⊎ ((text : Bytes) × (t ≡ on_conn n (with_unread text) s))

-- behind the interim heads that came is none
pub record FailsAtHead (s : State) (n : ℕ) (k : Conn) (t : State) : Type 0 where
  pub before : Conn
  pub then : State
  pub exchange : Exchange
  pub stands : IsClearedTo s n k before then
  pub due : IsDue then n before exchange
  pub law : t ≡ bad_head before then

pub record ComesTooEarly (s : State) (k : Conn) (t : State) : Type 0 where
  pub early : is_early s k ≡ true
  pub law : t ≡ close_conn true k s

-- the connection is closed, where a head was awaited
pub record IsShut (x : Both) (s : State) (n : ℕ) (k : Conn) (y : Both) (t : State) : Type 0 where
  pub quiet : k.answer ≡ None
  pub line : Line
  pub makes : Makes (λ z. bad_response n (piped n line z)) x y
  pub law : FailsAtHead s n k t ⊎ ComesTooEarly s k t

pub record Stops (name : Bytes) (shelf : KeptMap) (n : ℕ) (x : Both) (s : State) (bytes : Bytes) (y : Both) (t : State) : Type 0 where
  pub number : ℕ → ℕ
  pub shows : ShowsSides number name (sides_of x) s
  pub conn : Conn
  pub on : IsOpen s n conn
  pub step : IsStepOn (going_on (find (is_number n) x.peers)) shelf n (remaining bytes []) x y None
  pub way : StaysUnread x s n y t ⊎ IsShut x s n conn y t

-- ---- the end, behind what is so at each moment

pub record EndsAt (I : Both → State → Bytes → Type 0) (name : Bytes) (shelf : KeptMap) (n : ℕ) (y : Both) (t : State) : Type 0 where
  pub x : Both
  pub s : State
  pub bytes : Bytes
  pub holds : I x s bytes
  pub last : ((y ≡ x) × (t ≡ s)) ⊎ Stops name shelf n x s bytes y t
