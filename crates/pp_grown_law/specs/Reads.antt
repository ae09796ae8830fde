-- The read of an origin brings bytes: each instance to which some come is noted as grown (ours). A line has 8 exchanges at most, and one read
-- brings bytes to no more instances, and to that of the one that is amid.
--
-- Where the premises come from: room for the data of all that one read may bring is there from the opening on (`HasBuffers` of `pp_desk`); a line
-- of the law has 8 exchanges at most (HasShortLines of `pp_laws_bounds`), and one that shows it too (`ShownLinesAreShort`).
use Rattle.std.specs.Prelude.{◌≡◌, ◌≤◌, ℕ, true, length, vec_capacity}
use Rattle.pp_cache.specs.Bounds.{IsBounded}
use Rattle.pp_flow.specs.Changes.{Exchanges, line_of}
use Rattle.pp_flow_law.specs.Tables.{ShowsFlow, none_leaves}
use Rattle.pp_laws.specs.Runs.{IsIn}
use Rattle.pp_law.specs.State.{State, Conn}
use Rattle.pp_proxy.specs.Handling.{Handles}
use Rattle.pp_proxy.specs.Moving.{Turning}
use Rattle.pp_world.specs.declared.event.Event.{Event}
use Rattle.pp_world.specs.declared.event.Event.TheVariants.{Readable}
use Rattle.pp_grown_law.specs.Grown.{HasNothingToKeep, NotesGrown}
use Rattle.pp_grown_law.specs.Handled.{KeepsWholeChunks, reads_origin}
use Rattle.pp_grown_law.specs.Numbered.{AreNumbered}

abbrev pub HasShortLine : ℕ → Exchanges → Type 0
HasShortLine k f = length (line_of k f.placed) ≤ 8

-- where none has to leave its line
abbrev pub ShownLinesAreShort : Type 0
ShownLinesAreShort = (number : ℕ → ℕ) (f : Exchanges) (s : State) (k : ℕ) → ShowsFlow number none_leaves f s → ((c : Conn) → IsIn c s.conns → length c.line ≤ 8) → HasShortLine k f

abbrev pub ReadsNoteGrown : Type 0
ReadsNoteGrown = (k : ℕ) (x y : Turning) → reads_origin (Readable k) x.moving.desk.state ≡ true → length x.moving.desk.buffer.items ≤ vec_capacity x.moving.desk.«data» → IsBounded x.moving.desk.state.cache → AreNumbered x.moving.desk.state.flow → HasShortLine k x.moving.desk.state.flow
    → Handles (Readable k) x y → HasNothingToKeep x.moving.desk.state x.shelf → NotesGrown y.moving.desk.state y.shelf

-- ---- each event

-- what an event rests on beside, where it comes
pub record StandsToGrow (x : Turning) : Type 0 where
  pub bounded : IsBounded x.moving.desk.state.cache
  pub numbered : AreNumbered x.moving.desk.state.flow
  pub short : (k : ℕ) → HasShortLine k x.moving.desk.state.flow
  pub room : length x.moving.desk.buffer.items ≤ vec_capacity x.moving.desk.«data»
  pub whole : KeepsWholeChunks x.shelf

abbrev pub HandlingsNoteGrown : Type 0
HandlingsNoteGrown = (event : Event) (x y : Turning) → StandsToGrow x → Handles event x y → HasNothingToKeep x.moving.desk.state x.shelf → NotesGrown y.moving.desk.state y.shelf
