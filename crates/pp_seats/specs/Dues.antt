-- What is due to a client, by what is known of the row of its key and of the exchanges (RFC 2616, section 8.1; the order is ours).
use Rattle.std.specs.Prelude.{ℕ, ◌-◌, Bool, true, false, ◌&&◌, not, nat_le, Option, Some, None, option_map}
use Rattle.pp_objects.specs.Instances.{is_same_id}
use Rattle.pp_objects.specs.declared.id.ObjectId.{ObjectId}
use Rattle.pp_plan.specs.declared.table.Begun.{Begun}
use Rattle.pp_plan.specs.declared.table.Begun.TheVariants.{Nothing, Settled, Other, Widened}
use Rattle.pp_world.specs.declared.note.Cause.{Cause}
use Rattle.pp_world.specs.declared.note.Cause.TheVariants.{Superseded, Origin, Short as ShortOf, Idle, Stop}
use Rattle.pp_world.specs.declared.note.Decision.{Decision}
use Rattle.pp_world.specs.declared.note.Decision.TheVariants.{Fetch, Hit, Part, Refuse, Validate}
use Rattle.pp_seats.specs.declared.due.Due.{Due}
use Rattle.pp_seats.specs.declared.due.Due.TheVariants.{Decide, CutOff}
use Rattle.pp_seats.specs.declared.front.Front.{Front}
use Rattle.pp_seats.specs.declared.front.Front.TheVariants.{NoHeadYet, NoHead, Request as IsThere}
use Rattle.pp_seats.specs.declared.key.Key.{Key}
use Rattle.pp_seats.specs.declared.seat.Answer.{Answer}
use Rattle.pp_seats.specs.declared.seat.Brought.{Brought}
use Rattle.pp_seats.specs.declared.seat.Brought.TheVariants.{Awaited, Useless, Joins, Passes, TooWide, Refused}
use Rattle.pp_seats.specs.declared.seat.Course.{Course}
use Rattle.pp_seats.specs.declared.seat.Course.TheVariants.{Trying, OutOfTries, AskTooLong}
use Rattle.pp_seats.specs.declared.seat.Passed.{Passed}
use Rattle.pp_seats.specs.declared.seat.PassedEnd.{PassedEnd}
use Rattle.pp_seats.specs.declared.seat.PassedEnd.TheVariants.{Coming, Whole, Short}
use Rattle.pp_seats.specs.declared.seat.Seat.{Seat}
use Rattle.pp_seats.specs.declared.seat.Shared.{Shared}
use Rattle.pp_seats.specs.declared.seat.Stage.{Stage}
use Rattle.pp_seats.specs.declared.seat.Stage.TheVariants.{Undecided, Waiting, Passing, Answering}
use Rattle.pp_seats.specs.Courses.{has_begun, is_trying_in}
use Rattle.pp_seats.specs.Seats.{is_told_in, passed_in}

-- ---- what is decided of a request

-- by its head alone: what is no head, one that is refused for itself, and one whose target has no key
abbrev pub refused_for : Option ℕ → Option Key → Option ℕ
refused_for (Some status) key = Some status
refused_for None (Some key) = None
refused_for None None = Some 400

abbrev pub refused_in : Front → Option ℕ
refused_in NoHeadYet = None
refused_in (NoHead status) = Some status
refused_in (IsThere a) = refused_for a.refusal a.key

-- by the row of its key and by what its exchange brought: a body counts as long as it belongs to that row
abbrev pub is_row_joined : ObjectId → Option ObjectId → Bool
is_row_joined joined None = false
is_row_joined joined (Some id) = is_same_id id joined

abbrev pub begun_in : Brought → Option ObjectId → Begun
begun_in Awaited row = Nothing
begun_in Useless row = Nothing
begun_in (Joins joined plain) row = elim (is_row_joined joined row) [ true ↦ Settled | false ↦ Nothing ]
begun_in (Passes x) row = Other
begun_in TooWide row = Widened
begun_in Refused row = Nothing

-- ---- decisions

-- a request that cannot be answered is refused
abbrev pub give_up_in : Course → Option Decision → Option Decision
give_up_in (Trying n) other = other
give_up_in OutOfTries other = Some (Refuse 502)
give_up_in AskTooLong other = Some (Refuse 431)

-- a reply that was decided is decided again as long as it has not begun, where its row is lost
abbrev pub again_in : Bool → Course → Bool → Option Decision → Option Decision
again_in begun course lost decided = elim begun [ true ↦ None | false ↦ give_up_in course (elim lost [ true ↦ decided | false ↦ None ]) ]

abbrev pub by_stage_in : Stage → Course → Bool → Bool → Option Decision → Option Decision → Option Decision
by_stage_in Undecided course told lost undecided decided = undecided
by_stage_in Waiting course told lost undecided decided = give_up_in course (elim told [ true ↦ decided | false ↦ None ])
by_stage_in Passing course told lost undecided decided = give_up_in course None
by_stage_in (Answering a) course told lost undecided decided = again_in a.has_begun course lost decided

abbrev pub is_refused_in : Brought → Bool
is_refused_in Awaited = false
is_refused_in Useless = false
is_refused_in (Joins id plain) = false
is_refused_in (Passes x) = false
is_refused_in TooWide = false
is_refused_in Refused = true

-- by whether the row of its reply is lost, and by what is decided of one that may wait for another's answer, and of any
abbrev pub decision_in : Seat → Bool → Option Decision → Option Decision → Option Decision
decision_in seat lost undecided decided = elim (is_refused_in seat.brought) [
  | true ↦ Some (Refuse 500)
  | false ↦ by_stage_in seat.stage seat.course (is_told_in seat.brought) lost undecided decided
]

-- what the row of its key says is read of one whose exchange brought a head, and of one that has lost its row
abbrev pub is_read_in : Stage → Bool → Bool → Bool
is_read_in Undecided told lost = false
is_read_in Waiting told lost = told
is_read_in Passing told lost = false
is_read_in (Answering a) told lost = not a.has_begun && lost

-- an instance is followed
abbrev pub follows : Decision → Bool
follows (Hit from to) = true
follows (Part from to) = true
follows d = false

-- what it asks may be what another has asked for already
abbrev pub may_share : Decision → Bool
may_share Fetch = true
may_share Validate = true
may_share d = false

-- the row that it was decided by is replaced or cleared, by whether the instance that it follows still stands
abbrev pub lost_in : Option Answer → Bool → Bool
lost_in None stands = false
lost_in (Some a) stands = follows a.decision && not stands

-- a request waits once for what is asked already, by whether it is patient still, whether fetches are shared, and whether it is asked
abbrev pub undecided_in : Option Shared → Bool → Bool → Bool → Option Decision → Option Decision
undecided_in (Some w) is_patient shares is_asked decided = elim is_patient [ true ↦ None | false ↦ decided ]
undecided_in None is_patient shares is_asked None = None
undecided_in None is_patient shares is_asked (Some d) = elim (shares && may_share d && is_asked) [ true ↦ None | false ↦ Some d ]

-- ---- cuts

abbrev pub ends_short : PassedEnd → Bool
ends_short Coming = false
ends_short Whole = false
ends_short Short = true

abbrev pub is_end_short : Option Passed → Bool
is_end_short None = false
is_end_short (Some x) = ends_short x.end

-- the response that is passed to it ended early
abbrev pub is_short_in : Brought → Bool
is_short_in brought = is_end_short (passed_in brought)

-- ours: so many seconds, and longer in the midst of a reply, where one that reads slowly shows that only once the system's buffer has
-- room again
abbrev pub patience_in : Seat → ℕ
patience_in seat = elim (has_begun seat) [ true ↦ 900 | false ↦ 120 ]

-- for so long nothing came from it, and nothing was said to it
abbrev pub is_idle_in : Bool → ℕ → Seat → Bool
is_idle_in is_ticked now seat = is_ticked && nat_le (patience_in seat) (now - seat.client.mark)

-- the first cause that applies, by whether nothing that came is left to say, and whether another version stands
abbrev pub cause_in : Bool → Bool → Seat → Bool → Bool → Option Cause
cause_in is_stopped is_idle seat dry superseded =
    elim (has_begun seat && is_stopped) [
      | true ↦ Some Stop
      | false ↦
          elim (has_begun seat && is_short_in seat.brought && dry) [
            | true ↦ Some ShortOf
            | false ↦
                elim (has_begun seat && not (is_trying_in seat.course) && dry) [
                  | true ↦ Some Origin
                  | false ↦
                      elim (has_begun seat && superseded) [
                        | true ↦ Some Superseded
                        | false ↦
                            elim is_idle [ true ↦ Some Idle | false ↦ None ]
                      ]
                ]
          ]
    ]

-- ---- both

-- a cut comes first; of one that is closing nothing is due, and once all is to be closed no decision
abbrev pub due_in : Bool → Bool → Option Cause → Option Decision → Option Due
due_in is_closing is_stopped cut decision = elim is_closing [
  | true ↦ None
  | false ↦ elim cut [ Some cause ↦ Some (CutOff cause) | None ↦ elim is_stopped [ true ↦ None | false ↦ option_map Decide decision ] ]
]
