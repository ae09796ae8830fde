-- Where the head of a response comes, to a Fetch or Validate, to the ask of a follower, or of one that is passed, each entry that stands for its
-- row no more, or gives its name to another key, is noted by its name behind it, and no other is (RFC 2616, sections 9.4, 10.3.5, 13.5, 13.10
-- and 14.9; ours): also where memory is refused for a row.
--
-- The row that has to leave memory for it is the same in both.
--
-- Where the premises come from: those of `Owns`, `Throughs`, `Fills` and `Outdates` of `pp_answers_law`, and of `Rows` and `Heads` of `pp_reads_law`.
-- Each entry has the name of its key (ShowsShelf of `pp_shelf_law`). At most 2,048 names may be noted: RowsMayBeNoted of `pp_given_law` has how
-- many there are before a read, and HeadsNoteFew how many a head adds.
use Rattle.std.specs.Prelude.{◌≡◌, ◌≤◌, ◌<◌, ◌+◌, ℕ, Bool, true, false, List, [], Option, Some, None, count_by, length}
use Rattle.pp_answers.specs.FinalHeads.{AnswersAsk, FillsHead, PassesHead, TakesOwn, TakesPart, roomed, version_in}
use Rattle.pp_answers.specs.ThroughHeads.{invalidates, places_named as places_in}
use Rattle.pp_answers_law.specs.Outdates.{IsKeyed, WereReadIf}
use Rattle.pp_answers_law.specs.Owns.{IsAtHead}
use Rattle.pp_answers_law.specs.Throughs.{IsPassed}
use Rattle.pp_cache_law.specs.Outdated.{AreNamed, AreNoted}
use Rattle.pp_cache_law.specs.Tables.{ShowsTable}
use Rattle.pp_due.specs.Entering.{HasRowFor}
use Rattle.pp_flow.specs.declared.entry.Aim.{Aim}
use Rattle.pp_flow.specs.declared.entry.Aim.TheVariants.{Own as OfItself, Hole, Pass as AsPassed}
use Rattle.pp_flow.specs.declared.entry.Entry.{Entry}
use Rattle.pp_flow_law.specs.Tables.{Leaving}
use Rattle.pp_framing.specs.declared.body.BodyRule.{BodyRule}
use Rattle.pp_head.specs.Response.{Response}
use Rattle.pp_law.specs.Lists.{Bytes}
use Rattle.pp_law.specs.OwnHeads.{filling_head, is_wrong_head, key_of, own_head, part_head}
use Rattle.pp_law.specs.Responses.{head_came}
use Rattle.pp_law.specs.State.{State, Conn, Exchange}
use Rattle.pp_law.specs.Table.{row}
use Rattle.pp_law.specs.ThroughHeads.{invalidates as law_invalidates, places_named, through_head}
use Rattle.pp_objects.specs.Instances.{is_row}
use Rattle.pp_origins.specs.Gots.{Both, HeadCame}
use Rattle.pp_peers.specs.declared.peers.Peer.{Peer}
use Rattle.pp_pipe.specs.Reading.{Reading}
use Rattle.pp_reads_law.specs.Heads.{HeadIsDue, HeadIsRead, IsGivenHead, MayAnswer, ShowsBoth, begun_by, with_head}
use Rattle.pp_reads_law.specs.Rows.{MayMakeRoom}
use Rattle.pp_state.specs.Ends.{Parts, parts}
use Rattle.pp_state.specs.Keys.{key_of as key_in_flow}
use Rattle.pp_state.specs.Lines.{first_on}
use Rattle.pp_state.specs.declared.state.State.{State as Turn}
use Rattle.pp_states_law.specs.Steps.{ShowsSteps}
use Rattle.pp_store.specs.Kept.{KeptMap}

-- with a name of each row that is in memory, one more may be noted
abbrev pub MayNoteOneMore : Parts → Type 0
MayNoteOneMore p = length p.cache.outdated + count_by is_row p.cache.instances + 1 < 2048

-- to a Fetch or Validate
abbrev pub OwnHeadsNote : Type 0
OwnHeadsNote = (number : ℕ → ℕ) (name : Bytes) (l : Leaving) (peers : List Peer) (t : Turn) (s : State) (n : ℕ) (x : Entry) (e : Exchange) (head : Response) (rule : BodyRule) (new : Parts) → IsAtHead number name l peers t s n x e → MayNoteOneMore (parts t)
    → TakesOwn x.exchange x.errand head rule (version_in x.errand head) t new → AreNamed s.entries → AreNoted t.cache.outdated s.displaced s.entries → AreNoted new.cache.outdated (own_head e head rule s).displaced (own_head e head rule s).entries

-- of a response that is passed
abbrev pub PassedHeadsNote : Type 0
PassedHeadsNote = (number : ℕ → ℕ) (name : Bytes) (l : Leaving) (peers : List Peer) (p : Parts) (s : State) (n : ℕ) (x : Entry) (e : Exchange) (head : Response) (rule : BodyRule) (new : Parts) → ShowsSteps number name l peers p s → IsPassed p s n x e → places_named head ≡ [] → MayNoteOneMore p
    → PassesHead name x.exchange x.errand head rule p new → AreNamed s.entries → AreNoted p.cache.outdated s.displaced s.entries → AreNoted new.cache.outdated (through_head e head rule s).displaced (through_head e head rule s).entries

-- so many more may be noted
abbrev pub MayNoteMore : ℕ → Parts → Type 0
MayNoteMore more p = length p.cache.outdated + count_by is_row p.cache.instances + more < 2048

-- the places that it names, where it tells of them: where the method was not safe
abbrev pub others_named : Bool → Response → ℕ
others_named true head = length (places_in head)
others_named false head = 0

abbrev pub others_told : Exchange → Response → ℕ
others_told e head = others_named (law_invalidates e head) head

-- and where it names other places, each of which may have an entry, too
abbrev pub NamingHeadsNote : Type 0
NamingHeadsNote = (number : ℕ → ℕ) (name : Bytes) (l : Leaving) (peers : List Peer) (p : Parts) (s : State) (n : ℕ) (x : Entry) (e : Exchange) (head : Response) (rule : BodyRule) (new : Parts) → ShowsSteps number name l peers p s → IsPassed p s n x e → (law_invalidates e head ≡ true → IsKeyed x e head)
    → MayNoteMore (others_told e head + 1) p → (it : PassesHead name x.exchange x.errand head rule p new) → WereReadIf (invalidates x.errand.is_safe head) (key_in_flow x.exchange.number p.flow) x.errand.place.path head p it.outdated.between it.outdated.invalidated
    → AreNamed s.entries → AreNoted p.cache.outdated s.displaced s.entries → AreNoted new.cache.outdated (through_head e head rule s).displaced (through_head e head rule s).entries

-- to the ask of a follower, but for what it costs where it is no use for that follower
abbrev pub PartHeadsNote : Type 0
PartHeadsNote = (number : ℕ → ℕ) (name : Bytes) (l : Leaving) (peers : List Peer) (t : Turn) (s : State) (n : ℕ) (x : Entry) (e : Exchange) (head : Response) (rule : BodyRule) (new : Parts) → IsAtHead number name l peers t s n x e → MayNoteOneMore (parts t)
    → TakesPart x.exchange x.errand head rule (version_in x.errand head) t new → AreNamed s.entries → AreNoted t.cache.outdated s.displaced s.entries → AreNoted new.cache.outdated (part_head e head rule s).displaced (part_head e head rule s).entries

-- and with that, where memory was refused for no row and both show the same rows behind it
abbrev pub FillingHeadsNote : Type 0
FillingHeadsNote = (number other : ℕ → ℕ) (name : Bytes) (l : Leaving) (peers : List Peer) (t : Turn) (s : State) (n : ℕ) (x : Entry) (e : Exchange) (head : Response) (rule : BodyRule) (new : Parts) → IsAtHead number name l peers t s n x e → MayNoteMore 2 (parts t)
    → (it : FillsHead x.exchange x.errand head rule t new) → it.between.refused ≡ [] → ShowsTable other new.cache (filling_head e head rule s)
    → AreNamed s.entries → AreNoted t.cache.outdated s.displaced s.entries → AreNoted new.cache.outdated (filling_head e head rule s).displaced (filling_head e head rule s).entries

-- ---- how many names a head may note, with one for each row that is in memory

abbrev pub others_in : Aim → Bool → Response → ℕ
others_in OfItself is_safe head = 0
others_in (Hole v from to) is_safe head = 0
others_in AsPassed is_safe head = others_named (invalidates is_safe head) head

abbrev pub others_by : Response → Option (Entry × BodyRule) → ℕ
others_by head None = 0
others_by head (Some a) = others_in a.0.exchange.aim a.0.errand.is_safe head

-- beside those, its row and a name or two of its key (of the program alone)
abbrev pub HeadsNoteFew : Type 0
HeadsNoteFew = (n : ℕ) (head : Response) (o : Option (Entry × BodyRule)) (t : Turn) (new : Parts) → AnswersAsk n head o t new
    → length new.cache.outdated + count_by is_row new.cache.instances ≤ length t.cache.outdated + count_by is_row t.cache.instances + (others_by head o + 2)

-- and its row beside it
abbrev pub RowsNoteFew : Type 0
RowsNoteFew = (shelf : KeptMap) (key : Option Bytes) (old new : Turn) → HasRowFor shelf key old new
    → length new.cache.outdated + count_by is_row new.cache.instances ≤ length old.cache.outdated + count_by is_row old.cache.instances + 1

-- ---- a row that leaves memory for the one that a head makes

-- the same rows have to leave memory
pub record LeavesAsTheLaw (t : Turn) (s : State) : Type 0 where
  pub forgotten : t.forgotten ≡ s.forgotten

-- at most one row leaves, where another comes in that has no room
abbrev pub OfForgetting : (Exchange → Response → BodyRule → State → State) → Type 0
OfForgetting law = (number : ℕ → ℕ) (name : Bytes) (l : Leaving) (peers : List Peer) (t : Turn) (s : State) (n : ℕ) (x : Entry) (e : Exchange) (head : Response) (rule : BodyRule) → IsAtHead number name l peers t s n x e → (row s (key_of e) ≡ None → MayMakeRoom s) → LeavesAsTheLaw t s
    → LeavesAsTheLaw (roomed (version_in x.errand head) x.exchange.number t) (law e head rule s)

-- to a Fetch or Validate
abbrev pub OwnHeadsForget : Type 0
OwnHeadsForget = OfForgetting own_head

-- to the ask of a follower
abbrev pub FillingHeadsForget : Type 0
FillingHeadsForget = OfForgetting filling_head

-- ---- both, of a head that comes on a connection, beside the row that is kept of its key

-- the same entries stand no more, each has the name of its key, and the same rows have to leave memory
pub record IsTied (t : Turn) (s : State) : Type 0 where
  pub noted : AreNoted t.cache.outdated s.displaced s.entries
  pub named : AreNamed s.entries
  pub leaves : LeavesAsTheLaw t s

-- of each head that comes, whatever was asked: its row may come in beside it, and two names of its key and the places that it names may be noted
abbrev pub OfHeads : (Both → State → Conn → Exchange → Response → BodyRule → Type 0) → Type 0
OfHeads P = (number : ℕ → ℕ) (shelf : KeptMap) (x y : Both) (s : State) (n : ℕ) (k : Conn) (e : Exchange) (peer : Peer) (head : Response) (rule : BodyRule) (left : Reading) → ShowsBoth number shelf x s → HeadIsDue x s n k e peer → HeadIsRead e head rule left → MayAnswer x.state s e head → MayNoteMore (3 + others_told e head) (parts x.state)
    → (it : HeadCame shelf n (with_head n peer left x) y) → IsGivenHead (first_on n (parts x.state)) shelf n (with_head n peer left x) y it → y.state.refused ≡ [] → y.state.is_astray ≡ false → IsTied x.state s → P y s k e head rule

-- it is taken: but for the end of an empty body, as in HeadsComeAsTheLaws of `pp_reads_law`
abbrev pub HeadsTie : Type 0
HeadsTie = OfHeads (λ y s k e head rule. is_wrong_head e head ≡ false → IsTied y.state (begun_by k e head rule s))

-- it answers no ask of its kind, and the connection is closed
abbrev pub RefusedHeadsTie : Type 0
RefusedHeadsTie = OfHeads (λ y s k e head rule. is_wrong_head e head ≡ true → IsTied y.state (head_came k head s))
