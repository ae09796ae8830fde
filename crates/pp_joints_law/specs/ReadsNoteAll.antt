-- From where a read of an origin begins to each of its moments, and behind it (RFC 2616, sections 4.4, 6, 8.1.2.2, 10.1 and 13.10; ours): each entry
-- that stands no more is noted by its name, what has to leave memory is the same in both, and what is kept on the disk is the law's.
--
-- With one for each row a head notes three names at most, and one comes for each of the line alone: so 8 at most. One that names other places notes
-- these, too, of which a head has 200 at most (PlacesAreFew of ReadsNoteFew); it answers a request that is not safe, which goes alone, so that no other
-- head comes behind it. Data and ends note none more.
--
-- Where the premises come from: a line has 8 asks at most (HasShortLines of `pp_laws_bounds`), and one that goes alone has no other in its line
-- (`by_itself` of IsSoundTurn of `pp_laws_turn`); where the read begins at most 768 names are noted, and there are 1,024 rows at most (`most_names` and
-- RowsMayBeNoted of `pp_given_law`). ReadsBegin has all of it from the wait on. That each head is that of a text is of HeadIsGot of `pp_reads_law`.
use Rattle.std.specs.Prelude.{◌≡◌, ◌≤◌, ℕ, true, length, Some}
use Rattle.pp_joints_law.specs.MomentsNote.{HasRoomFor, NotesAt}
use Rattle.pp_law.specs.Connections.{conn}
use Rattle.pp_law.specs.Lists.{Bytes}
use Rattle.pp_law.specs.Requests.{goes_alone}
use Rattle.pp_law.specs.Responses.{got}
use Rattle.pp_law.specs.State.{State, Conn, Exchange}
use Rattle.pp_laws.specs.Runs.{IsIn}
use Rattle.pp_origins.specs.Gots.{Both, HasGot, sides_of}
use Rattle.pp_reads_law.specs.Brings.{IsMoment, ReadEnds}
use Rattle.pp_store.specs.Kept.{KeptMap}
use Rattle.pp_turns_law.specs.Rows.{AllAreKept}
use Rattle.pp_turns_law.specs.Sides.{ShowsSides}

-- ---- where the read begins

-- on this connection an exchange that goes alone has no other in its line
abbrev pub LineGoesAlone : ℕ → State → Type 0
LineGoesAlone n s = (k : Conn) (e : Exchange) → conn s n ≡ Some k → IsIn e s.exchanges → IsIn e.number k.line → goes_alone e.head ≡ true → length k.line ≤ 1

pub record MayNoteAll (shelf : KeptMap) (n : ℕ) (begins : Both) (from : State) : Type 0 where
  pub short : (k : Conn) → conn from n ≡ Some k → length k.line ≤ 8
  pub alone : LineGoesAlone n from
  -- three for each of a line, and the places that one of them names
  pub room : HasRoomFor 224 begins
  pub notes : NotesAt shelf begins from

-- ---- each moment

-- the same entries are stale, and the same rows have to leave memory
pub record NotesThere (shelf : KeptMap) (x : Both) (s : State) : Type 0 where
  pub notes : NotesAt shelf x s
  -- of RestsBeside of `pp_comes_law`
  pub kept : AllAreKept shelf x.state.cache s
  pub forgotten : x.state.forgotten ≡ s.forgotten

abbrev pub ReadsNoteAll : Type 0
ReadsNoteAll = (pieces : ℕ) (name : Bytes) (shelf : KeptMap) (n : ℕ) (begins : Both) (from : State) (all : Bytes) (x : Both) (s : State) (bytes : Bytes) → MayNoteAll shelf n begins from → IsMoment pieces name shelf n begins from all x s bytes → NotesThere shelf x s

-- and behind all of it, where both sides are shown there (ReadsAreGotAsTheLaws of `pp_reads_law`)
abbrev pub ReadsNoteBehind : Type 0
ReadsNoteBehind = (number : ℕ → ℕ) (name : Bytes) (shelf : KeptMap) (n : ℕ) (begins next : Both) (from : State) (all : Bytes) → MayNoteAll shelf n begins from → HasGot shelf n all begins next
    → ReadEnds name shelf n begins from all next (got (length all) n all from) → ShowsSides number name (sides_of next) (got (length all) n all from) → NotesAt shelf next (got (length all) n all from)
