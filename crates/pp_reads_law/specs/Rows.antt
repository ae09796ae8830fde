-- The row that is kept of the key of an exchange comes into memory beside the head of its response (ours): another leaves for it, of at
-- most 1,024. The law has that one leave before, the program behind.
--
-- Where the premises come from: of the rows that stand in memory 320 at most are busy (`rows_busy` in proofs/SmallRows of pp_laws_bounds, of each
-- state of a lawful log), so where there are 1,024 one is idle. A turn forgets fewer than 16 rows, each once, as the pieces of one read have 8 heads at
-- most (Moments of `pp_comes_law`). No key of a row has more than 8,192 bytes (the type of pp_target).
use Rattle.std.specs.Prelude.{◌≡◌, ℕ, true, false, nat_le, nat_lt, length, List, Option, Some, None, ⊤}
use mathlib.Core.Logic.{inl, inr}
use Rattle.pp_cache.specs.Bounds.{IsBounded}
use Rattle.pp_cache.specs.Notes.{has_noted}
use Rattle.pp_due.specs.Entering.{HasRowFor, MayCome}
use Rattle.pp_due.specs.OnDisk.{kept_alone}
use Rattle.pp_flow.specs.Changes.{entry_of}
use Rattle.pp_flow.specs.declared.entry.Entry.{Entry}
use Rattle.pp_flow_law.specs.Tables.{Leaving}
use Rattle.pp_head.specs.Response.{Response}
use Rattle.pp_law.specs.Lists.{Bytes}
use Rattle.pp_law.specs.Responses.{bring_row, is_readable}
use Rattle.pp_law.specs.State.{State, Exchange, Instance as Known}
use Rattle.pp_law.specs.Table.{enter, idle_row, rows}
use Rattle.pp_peers.specs.declared.peers.Peer.{Peer}
use Rattle.pp_seats_law.specs.Exchanges.{ShowsExchange}
use Rattle.pp_state.specs.Keys.{key_of}
use Rattle.pp_state.specs.declared.state.State.{State as Turn}
use Rattle.pp_store.specs.Kept.{KeptMap}
use Rattle.pp_reads_law.specs.Amid.{IsAmidRead, ShowsRead}

-- a row that leaves is one that may be noted
pub record MayForget (s : State) (x : Known) : Type 0 where
  pub new : has_noted x.key s.forgotten ≡ false
  pub few : nat_le 16 (length s.forgotten) ≡ false
  pub short : nat_lt 8192 (length x.key) ≡ false

-- where there is no room for another row, one may leave
pub record HasWay (s : State) : Type 0 where
  pub row : Known
  pub idle : idle_row s ≡ Some row
  pub may : MayForget s row

abbrev pub MayMakeRoom : State → Type 0
MayMakeRoom s = nat_lt (rows s) 1024 ≡ false → HasWay s

-- memory was not refused for it
abbrev pub IsGivenRow : (shelf : KeptMap) (key : Bytes) (old new : Turn) → MayCome shelf key old new → Type 0
IsGivenRow shelf key old new (inl comes) = ⊤
IsGivenRow shelf key old new (inr stays) = kept_alone key shelf old.cache ≡ None

abbrev pub IsGivenFor : (shelf : KeptMap) (key : Option Bytes) (old new : Turn) → HasRowFor shelf key old new → Type 0
IsGivenFor shelf None old new it = ⊤
IsGivenFor shelf (Some key) old new it = IsGivenRow shelf key old it.entered it.comes

-- of a key, whether its row is in memory, or kept, or not there at all; the cache is bounded, as each is
abbrev pub RowsComeInWithRoom : Type 0
RowsComeInWithRoom = (number : ℕ → ℕ) (l : Leaving) (peers : List Peer) (shelf : KeptMap) (key : Bytes) (p q : Turn) (s : State) → ShowsRead number l peers shelf p s → MayMakeRoom s → (it : HasRowFor shelf (Some key) p q) → IsGivenFor shelf (Some key) p q it → IsBounded q.cache
    → IsAmidRead number p.cache.lives s.next_instance l peers shelf q (enter key true s)

-- of the key of an exchange, beside a head that is read on
abbrev pub RowsAreBroughtAsTheLaws : Type 0
RowsAreBroughtAsTheLaws = (number : ℕ → ℕ) (l : Leaving) (peers : List Peer) (shelf : KeptMap) (p q : Turn) (s : State) (n : ℕ) (x : Entry) (e : Exchange) (head : Response) → ShowsRead number l peers shelf p s → MayMakeRoom s → entry_of n p.flow ≡ Some x → ShowsExchange number x e
    → is_readable e head ≡ true → (it : HasRowFor shelf (key_of n p.flow) p q) → IsGivenFor shelf (key_of n p.flow) p q it → IsBounded q.cache → IsAmidRead number p.cache.lives s.next_instance l peers shelf q (bring_row e head s)
