-- A kept row comes into memory before the request that names it is decided (ours). The law has it come in with that decision.
use Rattle.std.specs.Prelude.{◌≡◌, ◌<◌, ℕ, Bool, true, false, bytes_eq, List, [], ◌∷◌, slice_get, Option, Some, None}
use Rattle.std.specs.List.{list_any}
use Rattle.pp_cache.specs.Memory.{Memory}
use Rattle.pp_cache_law.specs.Pairs.{AreBoth}
use Rattle.pp_cache_law.specs.Tables.{OfTables}
use Rattle.pp_turns_law.specs.Turns.{IsFollowing, ShowsTurn}
use Rattle.pp_flow_law.specs.Tables.{Leaving}
use Rattle.pp_law.specs.Due.{due_of}
use Rattle.pp_law.specs.Lists.{Bytes}
use Rattle.pp_law.specs.State.{State, Client, Entry, Joins}
use Rattle.pp_law.specs.Table.{add_row, row, row_on_disk}
use Rattle.pp_objects.specs.Kept.{kept_of}
use Rattle.pp_objects.specs.declared.id.ObjectId.{ObjectId}
use Rattle.pp_peers.specs.declared.peers.Peer.{Peer}
use Rattle.pp_seats.specs.Dues.{refused_in}
use Rattle.pp_seats.specs.declared.seat.Brought.TheVariants.{Joins as JoinsRow}
use Rattle.pp_seats.specs.declared.seat.Seat.{Seat}
use Rattle.pp_seats_law.specs.Words.{HasSource}
use Rattle.pp_due.specs.Entering.{Comes}
use Rattle.pp_due.specs.OnDisk.{kept_alone as kept_in_turn}
use Rattle.pp_state.specs.declared.state.State.{State as Turn}
use Rattle.pp_states_law.specs.Told.{IsTold}
use Rattle.pp_store.specs.Kept.{Kept, KeptMap, kept_of as kept_in_store}
use Rattle.pp_target.specs.Name.{name_of}

-- ---- of the law

-- the kept row of a key of which none is in memory
abbrev pub kept_alone : State → Bytes → Option Entry
kept_alone s key = elim (row s key) [ Some x ↦ None | None ↦ row_on_disk s key ]

abbrev pub with_entry : Bytes → Option Entry → State → State
with_entry key None s = s
with_entry key (Some e) s = add_row key e.version e.fields e.times false s

-- it is in memory, whether there is room or not
abbrev pub with_row_of : Bytes → State → State
with_row_of key s = with_entry key (kept_alone s key) s

-- those of these keys, one behind the other
abbrev pub with_rows_of : List Bytes → State → State
with_rows_of [] s = s
with_rows_of (key ∷ keys) s = with_rows_of keys (with_row_of key s)

-- what it follows is there, and what its exchange joins was made before
pub record IsMadeBefore (s : State) (c : Client) : Type 0 where
  pub source : HasSource s c
  pub joined : (id : ℕ) (plain : Bool) → c.brought ≡ Joins id plain → id < s.next_instance

-- what is due of each is as it was: the kept row of a key is read as the row that it is in memory
abbrev pub DuesStayAsTheyWere : Type 0
DuesStayAsTheyWere = OfTables (λ number m s. (key : Bytes) (c : Client) → (c.is_closing ≡ false → IsMadeBefore s c) → due_of (with_row_of key s) c ≡ due_of s c)

-- ---- of a turn

-- an entry that is kept is the law's: a row has the fields that are kept of those that stand there
pub record IsKeptAs (kept : Kept) (e : Entry) : Type 0 where
  pub version : kept.entry.version ≡ e.version
  pub fields : e.fields ≡ kept_of kept.entry.fields e.times
  pub times : kept.entry.times ≡ e.times
  pub extent : kept.extent ≡ e.extent

-- of each key of which no row is in memory, what is kept and may come in
abbrev pub ShowsKept : KeptMap → Memory → State → Type 0
ShowsKept shelf m s = (key : Bytes) → row s key ≡ None → AreBoth IsKeptAs (kept_in_turn key shelf m) (row_on_disk s key)

-- of each key, as long as it may come in, also where its row is in memory
abbrev pub AllAreKept : KeptMap → Memory → State → Type 0
AllAreKept shelf m s = (key : Bytes) → AreBoth IsKeptAs (elim (list_any (bytes_eq (name_of key)) m.outdated) [ true ↦ None | false ↦ kept_in_store key shelf ]) (row_on_disk s key)

-- a client goes on: what it follows is there, memory was not refused for its key, and what its exchange joins is told by its number
pub record IsReady (number : ℕ → ℕ) (m : Memory) (next : ℕ) (seat : Seat) : Type 0 where
  pub follows : IsFollowing m seat
  pub key : refused_in seat.front ≡ Some 500 → ⊥
  pub joined : (id : ObjectId) (plain : Bool) → seat.brought ≡ JoinsRow id plain → IsTold number m next id

-- each that is not closing does
abbrev pub AreReady : (ℕ → ℕ) → Memory → ℕ → List Seat → Type 0
AreReady number m next seats = (i : ℕ) (seat : Seat) → slice_get seats i ≡ Some seat → seat.is_closing ≡ false → IsReady number m next seat

-- what the exchange of each client joins was made before
abbrev pub AreMade : State → Type 0
AreMade s = (i : ℕ) (c : Client) (id : ℕ) (plain : Bool) → slice_get s.clients i ≡ Some c → c.brought ≡ Joins id plain → id < s.next_instance

-- a turn that shows the law's state, with what is kept on the disk, and in which all clients go on
pub record ShowsDisk (number : ℕ → ℕ) (l : Leaving) (peers : List Peer) (shelf : KeptMap) (p : Turn) (s : State) : Type 0 where
  pub turn : ShowsTurn number l peers p s
  pub kept : ShowsKept shelf p.cache s
  pub ready : AreReady number p.cache s.next_instance p.seats.items
  pub made : AreMade s

-- the kept row of that key comes in: what the turn has shows the law's state with it, by the numbers of before and one more
pub record HasComeIn (l : Leaving) (peers : List Peer) (shelf : KeptMap) (key : Bytes) (p : Turn) (s : State) : Type 0 where
  pub number : ℕ → ℕ
  pub shows : ShowsDisk number l peers shelf p (with_row_of key s)
  pub there : row (with_row_of key s) key ≡ None → row_on_disk (with_row_of key s) key ≡ None

abbrev pub RowsComeInAsTheLaws : Type 0
RowsComeInAsTheLaws = (number : ℕ → ℕ) (l : Leaving) (peers : List Peer) (shelf : KeptMap) (key : Bytes) (p q : Turn) (s : State) → ShowsDisk number l peers shelf p s → Comes shelf key p q → HasComeIn l peers shelf key q s
