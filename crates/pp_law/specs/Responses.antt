-- Responses on a connection, in the order of its line, and what becomes of their bytes (RFC 2616, sections 4.4, 6, 8.1 and 10.1).
use Rattle.std.specs.Prelude.{ℕ, zero, suc, ◌+◌, ◌-◌, Bool, true, false, ◌==◌, ◌&&◌, ◌||◌, not, [], ◌++◌, length, drop, is_ok, Some, None, Ok, Err}
use Rattle.pp_framing.specs.Body.{Done, Going, Bad}
use Rattle.pp_framing.specs.Framing.{rule_of}
use Rattle.pp_framing.specs.Rules.{body_of, ending_in}
use Rattle.pp_framing.specs.declared.body.BodyRule.{BodyRule}
use Rattle.pp_framing.specs.declared.body.Ending.TheVariants.{Whole as IsWhole, Short as IsShort}
use Rattle.pp_head.specs.Read.{Whole, TooLong, Bad as NoHead, More}
use Rattle.pp_head.specs.Response.{Response, response_at}
use Rattle.pp_pass.specs.Pipe.{finished}
use Rattle.pp_plan.specs.Requests.{is_head}
use Rattle.pp_reply.specs.Keeping.{is_old}
use Rattle.pp_text.specs.Bytes.{is_empty}
use Rattle.pp_pipe.specs.Authentication.{binds_connection}
use Rattle.pp_pipe.specs.Front.{is_interim, stays_open}
use Rattle.pp_law.specs.Connections.{conn, on_conn, on_client_of, front_of_line, is_outstanding, fail, lose_attempt, end_exchange, close_conn}
use Rattle.pp_law.specs.Lists.{Bytes, is_some_with}
use Rattle.pp_law.specs.OwnHeads.{key_of, version_in, is_wrong_head, own_head, filling_head, note_sent, join_bound}
use Rattle.pp_law.specs.Passing.{pour, poured}
use Rattle.pp_law.specs.ThroughHeads.{through_head}
use Rattle.pp_law.specs.State.{State, Through, Own, Filling, Answer, Client, Conn, Exchange}
use Rattle.pp_law.specs.Table.{enter}

-- ---- ends

-- the rest of a body that nobody reads is dropped as it comes
abbrev pub skipping : Client → Client
skipping c = record c { heard = drop c.body_left c.heard; skip = c.skip + (c.body_left - length c.heard); body_left = 0 }

-- the client of an exchange that is passed
unfoldable pub skip_body : Exchange → State → State
skip_body e s = elim e.aim [ Through ↦ on_client_of e skipping s | Own ↦ s | Filling v from to ↦ s ]

abbrev pub rested : Response → Conn → Conn
rested head k = record k { answer = None; unread = []; has_brought = true; may_pipeline = k.may_pipeline || not (is_old head.minor) }

unfoldable pub close_this : ℕ → State → State
close_this n s = elim (conn s n) [ None ↦ s | Some k ↦ close_conn true k s ]

-- a response is whole; the connection goes on unless it says otherwise, its end is in doubt, the request's body was not asked
-- whole, or its credentials would hold for the connection
abbrev pub may_go_on : Exchange → Response → Bool
may_go_on e head = stays_open head && (e.body_left == 0) && not (binds_connection e.head.fields)

unfoldable pub finish : Conn → Exchange → Answer → State → State
finish k e a s =
    let done : State = on_conn k.number (rested a.head) (end_exchange e.number (skip_body e (pour e finished s))) in
    elim (may_go_on e a.head) [ true ↦ done | false ↦ close_this k.number done ]

-- a response outside the grammar, or one that its ask did not allow: its request's attempts end, and the connection is closed
unfoldable pub bad_response : Conn → State → State
bad_response k s = elim (front_of_line s k) [
  | None ↦ close_conn false k s
  | Some e ↦ close_conn false k (end_exchange e.number (fail e s))
]

-- ours: a head that is none, behind a whole response on this connection, may be the rest of that one: it costs an attempt, and
-- its request is asked elsewhere
unfoldable pub bad_head : Conn → State → State
bad_head k s = elim k.has_brought [
  | false ↦ bad_response k s
  | true ↦ elim (front_of_line s k) [ None ↦ close_conn false k s | Some e ↦ close_conn false k (lose_attempt e s) ]
]

-- ---- heads

unfoldable pub by_aim : Exchange → Response → BodyRule → State → State
by_aim e head rule s = elim e.aim [ Through ↦ through_head e head rule s | Own ↦ own_head e head rule s | Filling v from to ↦ filling_head e head rule s ]

-- HEAD is asked only for a client
abbrev pub asks_head : Exchange → Bool
asks_head e = elim e.aim [ Through ↦ is_head e.head.method | Own ↦ false | Filling v from to ↦ false ]

-- of a response, of which nothing but the head came
abbrev pub answer_with : Exchange → Response → BodyRule → Answer
answer_with e head rule = record { head = head; version = version_in e head; rule = rule; raw = [] }

abbrev pub answered_by : Answer → Conn → Conn
answered_by a k = record k { unread = []; answer = Some a }

-- where the body is empty, the response is whole
unfoldable pub end_if_empty : Conn → Exchange → Answer → State → State
end_if_empty k e a s = elim (body_of a.rule []).outcome [ Done rest ↦ finish k e a s | Going ↦ s | Bad ↦ s ]

unfoldable pub begin_answer : Conn → Exchange → Response → BodyRule → State → State
begin_answer k e head rule s =
    end_if_empty k e (answer_with e head rule) (by_aim e head rule (on_conn k.number (answered_by (answer_with e head rule)) s))

unfoldable pub answer_for : Conn → Exchange → Response → State → State
answer_for k e head s = elim (is_wrong_head e head) [
  | true ↦ bad_head k s
  | false ↦ elim (rule_of (asks_head e) head.status head.fields) [ Ok rule ↦ begin_answer k e head rule s | Err fault ↦ bad_head k s ]
]

-- it is read on: ours, 101 would leave HTTP; and how its body ends is known
abbrev pub is_readable : Exchange → Response → Bool
is_readable e head = not (head.status == 101) && is_ok (rule_of (asks_head e) head.status head.fields)

-- ours: what is read on is read beside the row of its key; a kept one comes into memory for it
unfoldable pub bring_row : Exchange → Response → State → State
bring_row e head s = elim (is_readable e head) [ true ↦ enter (key_of e) true s | false ↦ s ]

-- a final head came: it belongs to the first exchange of the line
unfoldable pub head_came : Conn → Response → State → State
head_came k head s = elim (front_of_line s k) [ None ↦ close_conn false k s | Some e ↦ answer_for k e head (bring_row e head s) ]

-- ---- bytes

-- the state, and the bytes that follow
pub record Piece : Type 0 where
  pub state : State
  pub rest : Bytes

-- what comes before the first ask of the line was asked whole answers nobody, and costs nobody: the connection is closed as one
-- that ended (section 8.1.4)
abbrev pub is_early : State → Conn → Bool
is_early s k = not (is_some_with is_outstanding (front_of_line s k))

abbrev pub with_unread : Bytes → Conn → Conn
with_unread bytes k = record k { unread = bytes }

abbrev pub head_piece_of : Conn → Bytes → State → Piece
head_piece_of k bytes s = elim (response_at bytes) [
  | More ↦ record { state = on_conn k.number (with_unread bytes) s; rest = [] }
  | TooLong ↦ record { state = bad_head k s; rest = [] }
  | NoHead ↦ record { state = bad_head k s; rest = [] }
  | Whole head ↦ elim (is_interim head.status) [
    | true ↦ record { state = on_conn k.number (with_unread []) s; rest = drop head.length bytes }
    | false ↦ record { state = head_came k head s; rest = drop head.length bytes }
  ]
]

abbrev pub head_piece : Conn → Bytes → State → Piece
head_piece k bytes s = elim (is_early s k) [
  | true ↦ record { state = close_conn true k s; rest = [] }
  | false ↦ head_piece_of k (k.unread ++ bytes) s
]

-- the data of a response go where its exchange is bound
unfoldable pub deliver : Exchange → Answer → ℕ → Bytes → State → State
deliver e a at bytes s = pour e (poured bytes) (join_bound e bytes (note_sent e a at bytes s))

abbrev pub payload_of : Answer → Bytes
payload_of a = (body_of a.rule a.raw).payload

abbrev pub body_piece_of : Conn → Answer → Exchange → Bytes → State → Piece
body_piece_of k a e bytes s =
    let body = body_of a.rule (a.raw ++ bytes) in
    let at = length (payload_of a) in
    let t : State = deliver e a at (drop at body.payload) s in
    elim body.outcome [
      | Going ↦ record { state = on_conn k.number (λ i. record i { answer = Some (record a { raw = a.raw ++ bytes }) }) t; rest = [] }
      | Bad ↦ record { state = bad_response k t; rest = [] }
      | Done rest ↦ record { state = finish k e a t; rest = rest }
    ]

abbrev pub body_piece : Conn → Answer → Bytes → State → Piece
body_piece k a bytes s = elim (front_of_line s k) [
  | None ↦ record { state = close_conn false k s; rest = [] }
  | Some e ↦ body_piece_of k a e bytes s
]

abbrev pub next_piece : Conn → Bytes → State → Piece
next_piece k bytes s = elim k.answer [ Some a ↦ body_piece k a bytes s | None ↦ head_piece k bytes s ]

-- what one read brings, one response behind the other; each piece has a byte at least
unfoldable pub got : ℕ → ℕ → Bytes → State → State
got zero n bytes s = s
got (suc more) n bytes s = elim (conn s n) [
  | None ↦ s
  | Some k ↦ elim (k.is_closing || is_empty bytes) [
    | true ↦ s
    | false ↦ got more n (next_piece k bytes s).rest (next_piece k bytes s).state
  ]
]

-- a clean end may end a body (section 4.4)
abbrev pub is_whole_at_end : Answer → Bool
is_whole_at_end a = elim (ending_in a.rule (body_of a.rule a.raw).outcome) [ IsWhole ↦ true | IsShort ↦ false ]

unfoldable pub finish_first : Conn → Answer → State → State
finish_first k a s = elim (front_of_line s k) [ None ↦ s | Some e ↦ finish k e a s ]

unfoldable pub ended : Bool → Conn → State → State
ended is_clean k s = elim k.answer [
  | None ↦ close_conn true k s
  | Some a ↦ elim (is_clean && is_whole_at_end a) [ true ↦ close_this k.number (finish_first k a s) | false ↦ close_conn true k s ]
]
