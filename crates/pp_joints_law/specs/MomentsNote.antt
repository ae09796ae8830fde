-- From one moment of a read of an origin to the next: each entry that stands no more is noted by its name behind it, what has to leave memory is the
-- same in both, rows and chunks, and what is kept on the disk is the law's (RFC 2616, sections 4.4, 6, 8.1 and 10.1; ours).
--
-- Where the premises come from: a moment is one of `Brings` of `pp_reads_law`, and so is what a head rests on (HeadRestsOn) and where the data of a
-- body may go. Where the read begins it stands so (ReadsBegin): the trigger is one that is set, nothing is noted but what stands no more, the shelf
-- shows the law's entries, of which none has a closed name (StandsBefore of Behind, from wait to wait), and eviction stands alike in both. How many
-- names are noted then is of RowsMayBeNoted of `pp_given_law`. ReadsNoteAll joins it over all moments of a read.
use Rattle.std.specs.Prelude.{◌≡◌, ◌<◌, ◌+◌, ℕ, false, count_by, length}
use Rattle.pp_joints_law.specs.DataTies.{EvictAlike}
use Rattle.pp_joints_law.specs.HeadsNote.{IsTied, others_told}
use Rattle.pp_keeps_law.specs.Stands.{HasOpenNames}
use Rattle.pp_law.specs.Chunks.{trigger}
use Rattle.pp_law.specs.Lists.{Bytes}
use Rattle.pp_law.specs.State.{State, Handling}
use Rattle.pp_objects.specs.Instances.{is_row}
use Rattle.pp_origins.specs.Gots.{Both, sides_of}
use Rattle.pp_reads_law.specs.Brings.{HeadRestsOn, IsBehindHead, IsBehindPiece}
use Rattle.pp_reads_law.specs.Data.{MayGo}
use Rattle.pp_reads_law.specs.Pieces.{data_in}
use Rattle.pp_shelf_law.specs.Shelf.{ShowsShelf}
use Rattle.pp_store.specs.Kept.{KeptMap}
use Rattle.pp_turns_law.specs.Rows.{AllAreKept}
use Rattle.pp_turns_law.specs.Sides.{ShowsSides}

-- ---- at a moment

-- nothing of the disk changes in an event
pub record IsOnShelf (shelf : KeptMap) (s : State) : Type 0 where
  pub handling : s.phase ≡ Handling
  pub shows : ShowsShelf shelf s
  pub names : HasOpenNames s

pub record NotesAt (shelf : KeptMap) (x : Both) (s : State) : Type 0 where
  pub tied : IsTied x.state s
  pub evict : EvictAlike x.state s
  pub set : x.state.trigger ≡ trigger s
  pub disk : IsOnShelf shelf s

-- so what is kept is the law's
abbrev pub NotedOnesAreKept : Type 0
NotedOnesAreKept = (shelf : KeptMap) (x : Both) (s : State) → NotesAt shelf x s → AllAreKept shelf x.state.cache s

-- with a name of each row that is in memory, so many more may be noted
abbrev pub HasRoomFor : ℕ → Both → Type 0
HasRoomFor more x = length x.state.cache.outdated + count_by is_row x.state.cache.instances + more < 2048

-- ---- behind a head: the row of its key may come in beside it, the places that it names may be noted, and where it has no body its response may be whole

abbrev pub HeadsNoteOn : Type 0
HeadsNoteOn = (name : Bytes) (shelf : KeptMap) (n : ℕ) (x : Both) (s : State) (bytes : Bytes) (next : Both) (t : State) (rest : Bytes) (number : ℕ → ℕ) → (it : IsBehindHead name shelf n x s bytes next t rest)
    → HeadRestsOn shelf n it.head s it.exchange bytes it.behind it.there.begin it.there.then it.there.before it.there.peer it.it → next.state.is_astray ≡ false → ShowsSides number name (sides_of next) t → HasRoomFor (3 + others_told it.exchange it.it.head) x → NotesAt shelf x s → NotesAt shelf next t

-- ---- behind a piece of a body

abbrev pub PiecesNoteOn : Type 0
PiecesNoteOn = (name : Bytes) (shelf : KeptMap) (n : ℕ) (x : Both) (s : State) (bytes : Bytes) (next : Both) (t : State) (rest : Bytes) (number : ℕ → ℕ) → ShowsSides number name (sides_of x) s → (it : IsBehindPiece name shelf n x s bytes next t rest)
    → MayGo x.state s it.exchange (data_in it.answer bytes) → HasRoomFor 0 x → NotesAt shelf x s → NotesAt shelf next t
