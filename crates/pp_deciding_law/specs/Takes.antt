-- A decision that is found is permitted, behind the row that gives way to it, and leads where the law leads (RFC 2616, sections 6, 8.1.4
-- and 13; the order is ours).
use Rattle.std.specs.Prelude.{◌≡◌, ◌≤◌, ℕ, true, false, ◌||◌, not, List, [], ◌∷◌, ◌++◌, is_some, length, slice_get, Some, None}
use Rattle.std.specs.List.{filter_map, list_any}
use Rattle.pp_turns_law.specs.Decides.{FollowsWhatIsThere, MayRefuse}
use Rattle.pp_turns_law.specs.Follows.{FollowsNoRow}
use Rattle.pp_turns_law.specs.Takes.{taken}
use Rattle.pp_turns_law.specs.Ways.{left_for}
use Rattle.pp_due.specs.Entering.{key_at}
use Rattle.pp_flow_law.specs.Tables.{none_leaves}
use Rattle.pp_law.specs.After.{take_decision}
use Rattle.pp_law.specs.Closing.{is_over}
use Rattle.pp_law.specs.Connections.{client}
use Rattle.pp_law.specs.Deciding.{is_for_memory}
use Rattle.pp_law.specs.Due.{first_due}
use Rattle.pp_law.specs.Leaving.{forgets_next}
use Rattle.pp_law.specs.Lists.{Bytes}
use Rattle.pp_law.specs.Phases.{in_phase}
use Rattle.pp_law.specs.Replies.{regained}
use Rattle.pp_law.specs.Requests.{parsed_in}
use Rattle.pp_law.specs.Stages.{is_undecided}
use Rattle.pp_law.specs.State.{State, Client, Instance as Known, Deciding}
use Rattle.pp_law.specs.Table.{idle_row}
use Rattle.pp_laws_turn.specs.SoundTurn.{IsSoundTurn}
use Rattle.pp_obeys.specs.Moves.{Leads}
use Rattle.pp_peers.specs.declared.peers.Peer.{Peer}
use Rattle.pp_seats.specs.declared.due.Due.TheVariants.{Decide as IsDecided}
use Rattle.pp_seats.specs.declared.seat.Seat.{Seat}
use Rattle.pp_state.specs.Ends.{Parts, parts}
use Rattle.pp_state.specs.Pins.{busy_row, exchanges_of}
use Rattle.pp_state.specs.declared.state.State.{State as Turn}
use Rattle.pp_steps.specs.Evicting.{given_way, row_in_way, row_notes}
use Rattle.pp_states_law.specs.Steps.{ShowsSteps}
use Rattle.pp_store.specs.Kept.{KeptMap}
use Rattle.pp_take.specs.Deciding.{Takes, afforded, ask_at}
use Rattle.pp_turns_law.specs.Firsts.{FirstDueInMemory, with_row_if}
use Rattle.pp_world.specs.declared.happening.Happening.TheVariants.{Noted}
use Rattle.pp_world.specs.declared.note.Decision.{Decision}
use Rattle.pp_world.specs.declared.note.Decision.TheVariants.{Refuse, Hit, Part, Head, NotModified, Unsatisfiable, Relay, Validate, Fetch, Pass}
use Rattle.pp_world.specs.declared.note.Remark.TheVariants.{Taken}
use Rattle.pp_deciding_law.specs.Stands.{StandsToDecide}

-- ---- in the law

-- the row that has to leave for the decision that is next leaves; one for want of memory brings no other in
abbrev pub room_made : Decision → State → State
room_made d s = elim (is_for_memory d || not (forgets_next s (first_due s))) [
  | true ↦ s
  | false ↦ elim (idle_row s) [ None ↦ s | Some x ↦ left_for x s ]
]

-- what it is taken in
abbrev pub to_take : Decision → State → State
to_take d s = in_phase Deciding (room_made d s)

abbrev pub behind_taken : ℕ → Decision → State → State
behind_taken n d s = take_decision n d (to_take d s)

-- ---- in the program

-- it is found for the client at this place, which the law has, too; `first`: C of `first_due`, where memory is refused for no row (the
-- other half of MemoryIsGivenOrRefused is F4, as a premise); `there`: `ShowsDisk`
pub record IsNext (shelf : KeptMap) (i : ℕ) (due : Decision) (p q : Turn) (s : State) (seat : Seat) (c : Client) : Type 0 where
  pub first : FirstDueInMemory shelf p.awake.items p q (Some (i, IsDecided due))
  pub here : slice_get q.seats.items i ≡ Some seat
  pub there : client s seat.client.id ≡ Some c

-- what each kind of decision rests on, beside what is known of one that is found: a page has room; what is asked fits into an ask, as the
-- decision was taken so (C of `decide`); what is followed from now on was not followed before (C of `due_reply`); and what was is there,
-- which IsReady has before a row gives way
pub record MayAskNext (name : Bytes) (i : ℕ) (d : Decision) (p : Parts) : Type 0 where
  pub there : FollowsWhatIsThere i p
  pub asks : is_some (ask_at name i d p) ≡ true

pub record MayFollowNext (i : ℕ) (p : Parts) (s : State) (c : Client) : Type 0 where
  pub there : FollowsWhatIsThere i p
  pub other : FollowsNoRow s c

abbrev pub MayDoNext : Bytes → ℕ → Decision → Parts → State → Seat → Client → Type 0
MayDoNext name i (Refuse status) p s seat c = MayRefuse i status p seat
MayDoNext name i Pass p s seat c = MayAskNext name i Pass p
MayDoNext name i Fetch p s seat c = MayAskNext name i Fetch p
MayDoNext name i Validate p s seat c = MayAskNext name i Validate p
MayDoNext name i Relay p s seat c = FollowsWhatIsThere i p
MayDoNext name i (Hit from to) p s seat c = MayFollowNext i p s c
MayDoNext name i (Part from to) p s seat c = MayFollowNext i p s c
MayDoNext name i Head p s seat c = MayFollowNext i p s c
MayDoNext name i NotModified p s seat c = MayFollowNext i p s c
MayDoNext name i Unsatisfiable p s seat c = MayFollowNext i p s c

-- what it rests on beside that: `pp_rests_law` has it, of each decision that is found beside a lawful log, where no count ends at 2 ^ 64
pub record RestsOn (i : ℕ) (due : Decision) (p q : Turn) (s : State) (seat : Seat) (c : Client) : Type 0 where
  -- an ask has memory: IsSoundTurn bounds the exchanges until Stop, and IsReady has that its key was not refused any
  pub affords : afforded i due q ≡ due
  -- one for want of memory brings no row in: the clause of `first_due`, where no head is refused with 500
  pub bare : is_for_memory due ≡ true → key_at i p ≡ None
  -- what is no head was not decided before
  pub first : (is_undecided c.stage || is_some (parsed_in c.front)) ≡ true
  -- no exchange is nobody's and nowhere: so behind Evicting, where those are given up
  pub going : list_any is_over s.exchanges ≡ false
  -- IsSoundTurn, of the law's
  pub busy : length (filter_map busy_row (exchanges_of q.flow)) ≤ 64
  -- the row that has to leave did not come in this turn: 320 are busy and 16 new at most
  pub old : (x : Known) → forgets_next s (first_due s) ≡ true → idle_row s ≡ Some x → x.is_new ≡ false
  -- by its kind
  pub may : MayDoNext q.name.items i due (parts (given_way due i q)) (with_row_if (key_at i p) (to_take due s)) seat c

-- ---- both

-- its notes lead there, where attempts count anew; and before they do, the program's parts show the law's state
pub record TakesAsTheLaw (number : ℕ → ℕ) (i : ℕ) (due : Decision) (peers : List Peer) (q : Turn) (s : State) (seat : Seat) (c : Client) (between : Parts) : Type 0 where
  pub leads : Leads (row_notes (row_in_way due i q) ++ Noted (Taken seat.client.id seat.index due) ∷ []) s (behind_taken seat.client.id due s)
  pub regains : behind_taken seat.client.id due s ≡ regained (taken c due (to_take due s))
  pub shows : ShowsSteps number q.name.items none_leaves peers between (taken c due (to_take due s))

abbrev pub DecisionsLead : Type 0
DecisionsLead = (number : ℕ → ℕ) (peers : List Peer) (shelf : KeptMap) (i : ℕ) (due : Decision) (p q : Turn) (s : State) (seat : Seat) (c : Client) (between : Parts) → StandsToDecide number peers shelf p s → IsSoundTurn s → IsNext shelf i due p q s seat c → RestsOn i due p q s seat c
    → Takes q.name.items i due (parts (given_way due i q)) between → (later : ℕ → ℕ) × TakesAsTheLaw later i due peers q s seat c between
