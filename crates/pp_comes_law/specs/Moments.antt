-- What each moment of a read of an origin rests on, from a lawful log, between two pieces of the law (RFC 2616, sections 4.4, 6, 8.1 and 10.1).
--
-- The law alone gives of it: each piece takes a byte at least; of a head that is awaited more is to come; a body that was begun goes on, and is of
-- the response to the first exchange of its line, of which alone a head came; a request has one exchange at most, whose client goes on, at that
-- very request, to which nothing was passed before a head; what goes alone and is passed has its client; there are no more rows than may be, nor
-- exchanges that are bound to one, and where another row comes, one may leave: of 1,024 rows 320 at most are busy, at most 8 heads come, and no key
-- has more than 8,192 bytes. Of each version whole chunks are kept, or its end: no entry changes amid a read, but for whether it is stale. For 31
-- chunks there is room where the read begins, and 24 come at most; and the pipe of whoever a response is passed to has room for its data (Pipes).
-- What is still asked stands at each field.
use Rattle.std.specs.Prelude.{◌≡◌, ℕ, true, false, [], List}
use Rattle.std.specs.List.{list_any}
use Rattle.pp_turns_law.specs.Sides.{ShowsSides}
use Rattle.pp_comes_law.specs.Named.{NamesAreThere}
use Rattle.pp_law.specs.Asking.{is_read, read_room}
use Rattle.pp_law.specs.Lists.{Bytes}
use Rattle.pp_law.specs.State.{State, Term, Handling, ReadOf}
use Rattle.pp_law.specs.Store.{is_closed}
use Rattle.pp_obeys.specs.Obeys.{Obeys}
use Rattle.pp_origins.specs.Gots.{Both, HasGot, Makes, both, sides_of}
use Rattle.pp_proxy.specs.Moving.{Turning}
use Rattle.pp_reads_law.specs.Brings.{IsMoment, LeadsTo, ReadRestsOn}
use Rattle.pp_reads_law.specs.Readable.{IsBrought}
use Rattle.pp_shelf_law.specs.Shelf.{ShowsShelf}
use Rattle.pp_state.specs.Ends.{parts}
use Rattle.pp_store.specs.Kept.{KeptMap}
use Rattle.pp_turns_law.specs.Rows.{AllAreKept}
use Rattle.pp_world.specs.Log.{Log}

-- ---- what is still asked of a moment

pub record RestsBeside (shelf : KeptMap) (n : ℕ) (y x : Both) (s : State) (bytes : Bytes) : Type 0 where
  -- from wait to wait; amid a read `reads_come_with_what_they_clear` of `pp_joints_law` has both
  pub disk : AllAreKept shelf x.state.cache s
  pub forgotten : x.state.forgotten ≡ s.forgotten

-- where the read begins: what is kept on the disk, of which an event changes nothing. From wait to wait (`StandsOnDisk` of `pp_joints_law`)
pub record StandsToRead (shelf : KeptMap) (s : State) : Type 0 where
  pub done : s.agenda.todo ≡ []
  pub shows : ShowsShelf shelf s
  pub names : list_any (λ e. is_closed s e.name) s.entries ≡ false

-- of all of one read, each moment by what is shown there
abbrev pub ReadRestsBeside : (name : Bytes) (shelf : KeptMap) (n : ℕ) (begins : Both) (from : State) (all : Bytes) (ends : Both) → Type 0
ReadRestsBeside name shelf n begins from all ends = (pieces : ℕ) (x : Both) (s : State) (bytes : Bytes) → IsMoment pieces name shelf n begins from all x s bytes → LeadsTo shelf n x ends
    → (number : ℕ → ℕ) → ShowsSides number name (sides_of x) s → RestsBeside shelf n ends x s bytes

-- ---- with it, all that the read rests on is there

-- where the read is owed, before Stop, since the wait no row was forgotten, there was room for what came, the cache may have as many chunks as are set,
-- and what clients name is there (Named)
abbrev pub ReadsRest : Type 0
ReadsRest = (terms : List Term) (log : Log) (name : Bytes) (shelf : KeptMap) (n : ℕ) (begins : Both) (from : State) (all : Bytes) (ends : Both) → Obeys terms from log → from.phase ≡ Handling → from.owed ≡ ReadOf n → from.is_stopped ≡ false → from.forgotten ≡ []
    → StandsToRead shelf from → is_read (read_room from n) all ≡ true → ends.state.cache.size ≡ from.settings.critical → NamesAreThere (parts begins.state) → ReadRestsBeside name shelf n begins from all ends → ReadRestsOn name shelf n begins from all ends

-- ---- whatever one read brings

pub record MayBringBeside (k : ℕ) (x y : Turning) (s : State) : Type 0 where
  pub rests : (begins next : Both) (bytes : Bytes) → IsBrought k x y s bytes → Makes (λ z. z) (both x.moving.desk) begins → HasGot x.shelf k bytes begins next → next.state.is_astray ≡ false → ReadRestsBeside x.moving.desk.state.name.items x.shelf k begins s bytes next
