-- Who is answered, where origins answer: a statement that is not proved (RFC 2616, section 8.1.4). What is missing is said in docs/LAW.md.
use Rattle.std.specs.Prelude.{◌≡◌, ℕ, zero, suc, Bool, true, false, ◌==◌, ◌&&◌, ◌||◌, not, List, [], ◌∷◌, ◌++◌, length, Some, None, Ok, Err, max}
use Rattle.std.specs.List.{list_any, list_all}
use Rattle.pp_framing.specs.Body.{Done, Going, Bad}
use Rattle.pp_framing.specs.Framing.{rule_of}
use Rattle.pp_framing.specs.Rules.{body_of}
use Rattle.pp_head.specs.Read.{Whole, TooLong, Bad as NoHead, More}
use Rattle.pp_head.specs.Response.{Response, response_at}
use Rattle.pp_pipe.specs.Front.{is_interim}
use Rattle.pp_text.specs.Bytes.{is_empty}
use Rattle.pp_world.specs.Log.{Log}
use Rattle.pp_world.specs.declared.happening.Happening.{Happening}
use Rattle.pp_world.specs.declared.happening.Happening.TheVariants.{Clock, Undialled, Ended, Broke, Got, Noted, Stopped}
use Rattle.pp_world.specs.declared.note.Cause.TheVariants.{Superseded, Origin, Short, Idle}
use Rattle.pp_world.specs.declared.note.Decision.TheVariants.{Refuse}
use Rattle.pp_world.specs.declared.note.Remark.TheVariants.{Taken, Cut}
use Rattle.pp_law.specs.After.{after}
use Rattle.pp_law.specs.Connections.{client, conn, front_of_line, is_out}
use Rattle.pp_law.specs.Lawful.{Lawful}
use Rattle.pp_law.specs.Lists.{Bytes, is_some_with}
use Rattle.pp_law.specs.OwnHeads.{is_wrong_head}
use Rattle.pp_law.specs.Phases.{come_to_decide}
use Rattle.pp_law.specs.Responses.{asks_head, by_aim, is_early, is_whole_at_end, next_piece, bring_row}
use Rattle.pp_law.specs.State.{State, Term, Course, Trying, OutOfTries, AskTooLong, RowRefused, Answer, Conn, Exchange, start}
use Rattle.pp_law.specs.Turn.{is_idle_conn}

-- ---- nobody goes away, and nothing outside fails

abbrev pub is_calm : Happening → Bool
is_calm (Undialled host port) = false
is_calm (Broke k) = false
is_calm Stopped = false
is_calm (Noted (Cut c Idle)) = false
is_calm (Noted (Cut c Superseded)) = false
is_calm h = true

-- ---- origins answer

-- it lost no attempt
abbrev pub is_fresh : Course → Bool
is_fresh (Trying n) = n == 0
is_fresh OutOfTries = false
is_fresh AskTooLong = true
is_fresh RowRefused = true

abbrev pub are_fresh : State → Bool
are_fresh s = list_all (λ c. is_fresh c.course) s.clients

-- a head that its ask allows, of a body that has a rule, and that costs no request an attempt
abbrev pub is_useful : State → Exchange → Response → Bool
is_useful s e head = not (is_wrong_head e head) && (elim (rule_of (asks_head e) head.status head.fields) [ Ok rule ↦ not (are_fresh s) || are_fresh (by_aim e head rule (bring_row e head s)) | Err fault ↦ false ])

abbrev pub is_good_head : State → Conn → Bytes → Bool
is_good_head s k bytes = elim (response_at bytes) [
  | More ↦ true
  | TooLong ↦ false
  | NoHead ↦ false
  | Whole head ↦ is_interim head.status || is_some_with (λ e. is_useful s e head) (front_of_line s k)
]

abbrev pub is_good_body : Answer → Bytes → Bool
is_good_body a bytes = elim (body_of a.rule (a.raw ++ bytes)).outcome [ Done rest ↦ true | Going ↦ true | Bad ↦ false ]

abbrev pub is_good_piece : State → Conn → Bytes → Bool
is_good_piece s k bytes = elim k.answer [ Some a ↦ is_good_body a bytes | None ↦ not (is_early s k) && is_good_head s k (k.unread ++ bytes) ]

-- one read, response by response
unfoldable pub is_good_read : ℕ → ℕ → Bytes → State → Bool
is_good_read zero n bytes s = true
is_good_read (suc more) n bytes s = elim (conn s n) [
  | None ↦ true
  | Some k ↦ elim (k.is_closing || is_empty bytes) [ true ↦ true | false ↦ is_good_piece s k bytes && is_good_read more n (next_piece k bytes s).rest (next_piece k bytes s).state ]
]

-- a connection ends where nothing is asked on it, or where its end ends a body
abbrev pub is_good_end : State → ℕ → Bool
is_good_end s n = is_some_with (λ k. elim k.answer [ Some a ↦ is_whole_at_end a | None ↦ k.has_brought || is_empty k.line ]) (conn s n)

-- at a tick no origin owes an answer for longer than it is waited for
abbrev pub is_patient : State → ℕ → Bool
is_patient s now = not (list_any (λ k. is_idle_conn (record s { clock = max s.clock now }) k && not (is_empty k.line)) s.conns)

abbrev pub is_answered : State → Happening → Bool
is_answered s (Got n bytes) = is_good_read (length bytes) n bytes s
is_answered s (Ended n) = is_good_end s n
is_answered s (Clock seconds) = is_patient s seconds
is_answered s h = true

-- ---- nobody is turned away for an origin

-- its attempts ended. A reply is also cut so where an ask for its rest would be too long, or where its row is refused memory
abbrev pub has_no_tries : State → ℕ → Bool
has_no_tries s n = is_some_with (λ c. is_out c.course) (client (come_to_decide s) n)

abbrev pub is_turned_away : State → Happening → Bool
is_turned_away s (Noted (Taken c i (Refuse status))) = status == 502
is_turned_away s (Noted (Cut c Origin)) = has_no_tries s c
is_turned_away s (Noted (Cut c Short)) = true
is_turned_away s h = false

-- each happening, along the log
abbrev pub All : (State → Happening → Bool) → State → Log → Type 0
All test s [] = Unit {0}
All test s (h ∷ log) = (test s h ≡ true) × All test (after s h) log

-- so all that is said to a request that is refused nowhere, and whose asks are not too long, is the reply that it was decided to have,
-- or a front of it, or that memory was wanted
abbrev pub EachIsAnswered : Type 0
EachIsAnswered = (terms : List Term) (log : Log) → Lawful terms log → All (λ s h. is_calm h && is_answered s h) (start terms) log → All (λ s h. not (is_turned_away s h)) (start terms) log
