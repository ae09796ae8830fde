-- A turn ends behind its last round, where nothing is due: it may wait, and replies begin (RFC 2616, sections 6, 8.1.4, 13.2.3 and 14; the
-- order is ours).
use Rattle.std.specs.Prelude.{◌≡◌, ◌≤◌, ◌&&◌, ℕ, true, false, not, is_some, length, slice_get, List, [], Some, None}
use Rattle.std.specs.List.{list_any}
use Rattle.pp_cache.specs.Bounds.{IsBounded}
use Rattle.pp_turns_law.specs.Begins.{MayShow, is_kept_by}
use Rattle.pp_deciding_law.specs.Stands.{StandsToDecide}
use Rattle.pp_desk.specs.declared.desk.Desk.{Desk}
use Rattle.pp_flow_law.specs.Tables.{none_leaves}
use Rattle.pp_law.specs.Closing.{is_of}
use Rattle.pp_law.specs.Deciding.{span_of}
use Rattle.pp_law.specs.Due.{first_due}
use Rattle.pp_law.specs.Phases.{ending, has_closings, may_end}
use Rattle.pp_law.specs.Requests.{Parsed, IsRequest}
use Rattle.pp_law.specs.Stages.{is_headed, is_passing, passed_of}
use Rattle.pp_law.specs.State.{State, Client, Instance as Known, Term, DecidingAgain, Free}
use Rattle.pp_law.specs.Table.{instance}
use Rattle.pp_objects.specs.declared.id.ObjectId.{ObjectId}
use Rattle.pp_obeys.specs.Obeys.{Obeys}
use Rattle.pp_proxy.specs.Rounds.{BeginsAll}
use Rattle.pp_seats.specs.Dues.{is_refused_in}
use Rattle.pp_seats.specs.declared.seat.Answer.{Answer}
use Rattle.pp_seats.specs.declared.seat.Seat.{Seat}
use Rattle.pp_seats.specs.declared.seat.Stage.TheVariants.{Answering as IsAnswering}
use Rattle.pp_store.specs.Kept.{KeptMap}
use Rattle.pp_turns_law.specs.Firsts.{AreAwake}
use Rattle.pp_turns_law.specs.Rows.{AllAreKept, AreReady}
use Rattle.pp_turns_law.specs.Turns.{ShowsTurn}
use Rattle.pp_world.specs.Log.{Log}

-- ---- what a reply that begins rests on, beside what stands (Begins.`MayBegin` of `pp_turns_law`)

-- its reply is by the version of its source, from the first offset of what was decided to the last, and may be shown; and memory was
-- refused for no row that its exchange brought: as `IsDecidedAs` has it, but for what tells rows apart
pub record WasDecidedAs (number : ℕ → ℕ) (s : State) (seat : Seat) (c : Client) (a : Answer) : Type 0 where
  pub passes : is_passing a.decision ≡ true → a.source ≡ None
  pub kept : is_passing a.decision ≡ false → is_kept_by a.decision ≡ true
  pub from : a.from ≡ (span_of a.decision).0
  pub to : a.to ≡ (span_of a.decision).1
  pub order : a.from ≤ a.to
  pub given : is_refused_in seat.brought ≡ false
  pub shows : (r : Parsed) (x : Known) (id : ObjectId) → is_passing a.decision ≡ false → c.front ≡ IsRequest r → a.source ≡ Some id → instance s (number id.life) ≡ Some x → MayShow s a c r x

pub record MayBeginNow (number : ℕ → ℕ) (s : State) (seat : Seat) (c : Client) : Type 0 where
  -- its text has room in its buffer, as each of `pp_client` has
  pub room : length seat.client.reply.text ≤ 20480
  -- where a response is passed to it, its exchange had its head (`pp_laws_passed`, of a reply that has begun; `pp_asks_law`)
  pub headed : is_some (passed_of c) ≡ true → list_any (λ e. is_of c.number e && not (is_headed e)) s.exchanges ≡ false
  -- what was decided of it stands (`pp_asks_law`)
  pub decided : (a : Answer) → seat.stage ≡ IsAnswering a → a.has_begun ≡ false → WasDecidedAs number s seat c a

-- of each client that goes on
abbrev pub AllMayBeginNow : (ℕ → ℕ) → Desk → State → Type 0
AllMayBeginNow number p s = (i : ℕ) (seat : Seat) (c : Client) → slice_get p.state.seats.items i ≡ Some seat → slice_get s.clients i ≡ Some c → c.is_closing ≡ false → MayBeginNow number s seat c

-- ---- the end

-- behind a last round, in which nothing was decided
pub record MayEnd (number : ℕ → ℕ) (shelf : KeptMap) (p : Desk) (s : State) : Type 0 where
  -- what stands amid decisions, and nothing is due (Stands.`NoneIsNext` of `pp_deciding_law`)
  pub stands : StandsToDecide number p.peers shelf p.state s
  pub at : s.phase ≡ DecidingAgain
  pub done : first_due s ≡ None
  -- closings come before places, and no cut behind them
  pub closed : has_closings s ≡ false
  pub begins : AllMayBeginNow number p s

-- the law lets the turn wait, and what it has then is shown: it goes on from there as `rest_with` has it
pub record HasEnded (number : ℕ → ℕ) (shelf : KeptMap) (q : Desk) (s : State) : Type 0 where
  pub may : may_end s ≡ true
  pub turn : ShowsTurn number none_leaves q.peers q.state (ending s)
  pub ready : AreReady number q.state.cache (ending s).next_instance q.state.seats.items
  pub disk : AllAreKept shelf q.state.cache (ending s)
  pub awake : AreAwake q.state
  -- nobody is closing any more, nothing is owed, no row left memory for a decision, and the disk is at rest
  pub closed : has_closings (ending s) ≡ false
  pub free : (ending s).owed ≡ Free
  pub none : (ending s).made_room_for ≡ None
  pub idle : (ending s).under_way ≡ None
  pub nothing : (ending s).agenda.todo ≡ []
  -- no number was given
  pub top : (ending s).top ≡ s.top

-- beside a log that obeys the law; the cache is bounded, as each is
abbrev pub EndsAreTheLaws : Type 0
EndsAreTheLaws = (terms : List Term) (number : ℕ → ℕ) (before : Log) (shelf : KeptMap) (p q : Desk) (s : State) → Obeys terms s before → MayEnd number shelf p s → BeginsAll p q → IsBounded q.state.cache → HasEnded number shelf q s
