-- What is due of a seat is what is due of its client (RFC 2616, section 8.1; the order is ours). What the table, the exchanges and
-- the row of its key tell of it stands as the law says it.
use Rattle.std.specs.Prelude.{◌≡◌, ◌⊎◌, ℕ, Bool, true, false, ◌&&◌, ◌||◌, not, List, [], ◌∷◌, is_some, Option, Some, None, option_map, ⊤}
use Rattle.pp_objects.specs.declared.id.ObjectId.{ObjectId}
use Rattle.pp_target.specs.Key.{Key, key_in}
use Rattle.pp_world.specs.declared.note.Cause.{Cause}
use Rattle.pp_world.specs.declared.note.Decision.{Decision}
use Rattle.pp_world.specs.declared.note.Decision.TheVariants.{Refuse}
use Rattle.pp_law.specs.Decisions.{begun_now, decide, decide_for}
use Rattle.pp_law.specs.Due.{Due, Decide, CutOff, cut_in, due_by_stage, due_of, first_due, has_lost_row, is_superseded, still_waits}
use Rattle.pp_law.specs.Lists.{Bytes, first_some, is_some_with}
use Rattle.pp_law.specs.Offers.{has_to_say}
use Rattle.pp_law.specs.Replies.{is_finished}
use Rattle.pp_law.specs.Requests.{IsRequest, Parsed}
use Rattle.pp_law.specs.Sharing.{due_undecided, is_patient, shared_ask}
use Rattle.pp_law.specs.Stages.{is_page, reply_of}
use Rattle.pp_law.specs.State.{State, Client}
use Rattle.pp_law.specs.Table.{row as row_of, source_of}
use Rattle.pp_seats.specs.declared.due.Due.{Due as SeatDue}
use Rattle.pp_seats.specs.declared.due.Due.TheVariants.{Decide as IsDecided, CutOff as IsCut}
use Rattle.pp_seats.specs.declared.key.Key.{Key as OwnedKey}
use Rattle.pp_seats.specs.declared.seat.Brought.{Brought}
use Rattle.pp_seats.specs.declared.seat.Brought.TheVariants.{Joins}
use Rattle.pp_seats.specs.declared.seat.Seat.{Seat}
use Rattle.pp_seats.specs.declared.seat.Shared.{Shared as SeatShared}
use Rattle.pp_seats.specs.declared.seat.Stage.{Stage as SeatStage}
use Rattle.pp_seats.specs.declared.seat.Stage.TheVariants.{Undecided as IsUndecided, Waiting as IsWaiting, Passing as IsPassing, Answering as IsAnswering}
use Rattle.pp_seats.specs.Courses.{has_begun, is_trying_in}
use Rattle.pp_seats.specs.Dues.{begun_in, cause_in, decision_in, due_in, is_idle_in, is_read_in, is_refused_in, is_short_in, lost_in, may_share as may_share_in, refused_in, undecided_in}
use Rattle.pp_seats.specs.Follows.{answer_in}
use Rattle.pp_seats.specs.Heads.{asked_in, owned_in}
use Rattle.pp_seats.specs.Seats.{finished_in, is_told_in, is_undecided_in}
use Rattle.pp_seats_law.specs.Replies.{shared_of, source_number}
use Rattle.pp_seats_law.specs.Seats.{ShowsOpen, ShowsSeat}
use Rattle.pp_seats_law.specs.Words.{OfOpen}

-- ---- what is decided of a request

-- by its head alone, unless memory was refused for its key: then it is refused with 500, whatever the law has
abbrev pub HeadsAreTheLaws : Type 0
HeadsAreTheLaws = (s : State) (status : ℕ) → OfOpen (λ number name owed seat c. refused_in seat.front ≡ Some status → (status ≡ 500) ⊎ (decide s c ≡ Some (Refuse status)))

-- by the row of its key, where its head is not refused
pub record IsByRow (s : State) (c : Client) (key : Key) : Type 0 where
  pub request : Parsed
  pub front : c.front ≡ IsRequest request
  pub decides : decide s c ≡ Some (decide_for s c request.head key)

abbrev pub RowsDecideAsTheLaws : Type 0
RowsDecideAsTheLaws = (s : State) (key : OwnedKey) → OfOpen (λ number name owed seat c. refused_in seat.front ≡ None → owned_in (asked_in seat.front) ≡ Some key → IsByRow s c (key_in key.text.items key.place))

-- no two instances have one number: the row of its key, and what its exchange joins
abbrev pub AreApart : (ℕ → ℕ) → Option ObjectId → Brought → Type 0
AreApart number row brought = (id joined : ObjectId) (plain : Bool) → row ≡ Some id → brought ≡ Joins joined plain → number id.life ≡ number joined.life → id ≡ joined

-- what its exchange brought counts as long as it belongs to the row of its key
abbrev pub BroughtCountsAsTheLaws : Type 0
BroughtCountsAsTheLaws = (s : State) (row : Option ObjectId) (key : Bytes)
    → OfOpen (λ number name owed seat c. is_refused_in seat.brought ≡ false → source_number number row ≡ option_map (λ x. x.id) (row_of s key) → AreApart number row seat.brought → begun_in seat.brought row ≡ begun_now s c key)

-- ---- decisions

abbrev pub has_source_standing : State → Client → Bool
has_source_standing s c = is_some_with (λ r. is_some_with (λ x. not x.is_retired) (source_of s r)) (reply_of c)

abbrev pub has_lost_its_row : State → Client → Bool
has_lost_its_row s c = is_some_with (has_lost_row s) (reply_of c)

abbrev pub LostIsTheLaws : Type 0
LostIsTheLaws = (s : State) → OfOpen (λ number name owed seat c. lost_in (answer_in seat.stage) (has_source_standing s c) ≡ has_lost_its_row s c)

-- it waits for another's answer, and may wait on
abbrev pub waits_on_still : State → Option SeatShared → Bool
waits_on_still s waits = is_some_with (λ w. is_patient s (shared_of w)) waits

abbrev pub SharingIsTheLaws : Type 0
SharingIsTheLaws = (s : State)
    → OfOpen (λ number name owed seat c. undecided_in seat.waits_on (waits_on_still s seat.waits_on) s.settings.shares_fetches (is_some (shared_ask s c)) (decide s c) ≡ due_undecided s c)

abbrev pub DecisionIsTheLaws : Type 0
DecisionIsTheLaws = (number : ℕ → ℕ) (s : State) (name : Bytes) (seat : Seat) (c : Client) → ShowsOpen number name [] seat c → decision_in seat (has_lost_its_row s c) (due_undecided s c) (decide s c) ≡ due_by_stage s c

-- it is to have a reply that is no page
abbrev pub still_waits_in : SeatStage → Bool
still_waits_in IsUndecided = false
still_waits_in IsWaiting = true
still_waits_in IsPassing = false
still_waits_in (IsAnswering a) = not a.has_begun && not (is_page a.decision)

abbrev pub WaitingIsTheLaws : Type 0
WaitingIsTheLaws = (number : ℕ → ℕ) (name : Bytes) (owed : List Bytes) (seat : Seat) (c : Client) → ShowsOpen number name owed seat c → still_waits_in seat.stage ≡ still_waits c

-- ---- the end of a client that sends no more

-- nothing that it sent is left to answer
abbrev pub FinishedIsTheLaws : Type 0
FinishedIsTheLaws = (number : ℕ → ℕ) (name : Bytes) (owed : List Bytes) (seat : Seat) (c : Client) → ShowsSeat number name owed seat c → finished_in seat ≡ is_finished c

-- ---- cuts

abbrev pub cut_of : State → Seat → Client → Option Cause
cut_of s seat c = cause_in s.is_stopped (is_idle_in s.is_ticked s.clock seat) seat (not (has_to_say s c)) (is_superseded s c)

abbrev pub CutIsTheLaws : Type 0
CutIsTheLaws = (number : ℕ → ℕ) (s : State) (name : Bytes) (seat : Seat) (c : Client) → ShowsOpen number name [] seat c → cut_of s seat c ≡ cut_in s c

-- ---- both

-- of that client, and of the request of that number
abbrev pub due_as : ℕ → ℕ → SeatDue → Due
due_as n i (IsDecided d) = Decide n i d
due_as n i (IsCut cause) = CutOff n cause

abbrev pub DueIsTheLaws : Type 0
DueIsTheLaws = (number : ℕ → ℕ) (s : State) (name : Bytes) (seat : Seat) (c : Client) → ShowsSeat number name [] seat c
    → option_map (due_as seat.client.id seat.index) (due_in seat.is_closing s.is_stopped (cut_of s seat c) (decision_in seat (has_lost_its_row s c) (due_undecided s c) (decide s c))) ≡ due_of s c

-- ---- as a turn reads it: what does not count is not asked for

-- whether something is left to say, where a reply may be cut for its origin
abbrev pub dry_read : Seat → Bool → Bool
dry_read seat dry = has_begun seat && (is_short_in seat.brought || not (is_trying_in seat.course)) && dry

abbrev pub cut_read : State → Seat → Client → Option Cause
cut_read s seat c = cause_in s.is_stopped (is_idle_in s.is_ticked s.clock seat) seat (dry_read seat (not (has_to_say s c))) (has_begun seat && is_superseded s c)

-- whether it is asked already, where fetches are shared, and what is decided may be another's
abbrev pub asked_read : Bool → Option Decision → Bool → Bool
asked_read shares None asked = false
asked_read shares (Some d) asked = shares && may_share_in d && asked

abbrev pub if_so : Bool → Option Decision → Option Decision
if_so b decided = elim b [ true ↦ decided | false ↦ None ]

-- what is decided is read where it does not wait on
abbrev pub undecided_read : State → Seat → Client → Option Decision
undecided_read s seat c =
    let decided : Option Decision = if_so (not (waits_on_still s seat.waits_on)) (decide s c) in
    undecided_in seat.waits_on (waits_on_still s seat.waits_on) s.settings.shares_fetches (not (is_some seat.waits_on) && asked_read s.settings.shares_fetches decided (is_some (shared_ask s c))) decided

abbrev pub decision_read : State → Seat → Client → Option Decision
decision_read s seat c =
    let lost : Bool = lost_in (answer_in seat.stage) (has_source_standing s c) in
    decision_in seat lost (if_so (is_undecided_in seat.stage) (undecided_read s seat c)) (if_so (is_read_in seat.stage (is_told_in seat.brought) lost) (decide s c))

abbrev pub cut_if_open : State → Seat → Client → Option Cause
cut_if_open s seat c = elim seat.is_closing [ true ↦ None | false ↦ cut_read s seat c ]

abbrev pub due_read : State → Seat → Client → Option SeatDue
due_read s seat c =
    due_in seat.is_closing s.is_stopped (cut_if_open s seat c) (if_so (not seat.is_closing && not s.is_stopped && not (is_some (cut_if_open s seat c))) (decision_read s seat c))

abbrev pub DueAsReadIsTheLaws : Type 0
DueAsReadIsTheLaws = (number : ℕ → ℕ) (s : State) (name : Bytes) (seat : Seat) (c : Client) → ShowsSeat number name [] seat c → option_map (due_as seat.client.id seat.index) (due_read s seat c) ≡ due_of s c

-- ---- which comes first

-- what is due of each seat is what is due of its client
abbrev pub AreDue : State → (Seat → Option SeatDue) → List Seat → List Client → Type 0
AreDue s due [] [] = ⊤
AreDue s due (seat ∷ seats) (c ∷ cs) = (option_map (due_as seat.client.id seat.index) (due seat) ≡ due_of s c) × AreDue s due seats cs
AreDue s due seats cs = ⊥

abbrev pub FirstDueIsTheLaws : Type 0
FirstDueIsTheLaws = (s : State) (due : Seat → Option SeatDue) (seats : List Seat) → AreDue s due seats s.clients → first_some (λ seat. option_map (due_as seat.client.id seat.index) (due seat)) seats ≡ first_due s
