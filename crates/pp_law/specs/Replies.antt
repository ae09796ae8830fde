-- How a reply begins, goes on and ends, and the request behind it (RFC 2616, sections 6, 8.1.2.2, 8.2.3 and 13).
use Rattle.std.specs.List.{list_any}
use Rattle.std.specs.Prelude.{ℕ, zero, suc, ◌+◌, ◌-◌, ◌/◌, Bool, true, false, ◌==◌, ◌&&◌, ◌||◌, not, nat_lt, nat_le, List, [], length, drop, map, is_some, Option, Some, None}
use Rattle.pp_fresh.specs.Age.{age_of}
use Rattle.pp_pass.specs.Pipe.{without_first}
use Rattle.pp_plan.specs.Requests.{is_head}
use Rattle.pp_plan.specs.Spans.{resolved}
use Rattle.pp_ranges.specs.declared.range.Resolved.{Resolved}
use Rattle.pp_ranges.specs.declared.range.Resolved.TheVariants.{Part as OfPart}
use Rattle.pp_reply.specs.Keeping.{is_end_known}
use Rattle.pp_reply.specs.Kept.{whole_head, part_head, not_modified_head, unsatisfiable_page}
use Rattle.pp_reply.specs.Texts.{passed_head}
use Rattle.pp_text.specs.Bytes.{is_empty}
use Rattle.pp_world.specs.declared.note.Decision.{Decision}
use Rattle.pp_world.specs.declared.note.Decision.TheVariants.{Hit, Part, Head, NotModified, Unsatisfiable, Pass}
use Rattle.pp_law.specs.Chunks.{chunk_len, use_chunk}
use Rattle.pp_law.specs.Closing.{close_client, forsake, is_of}
use Rattle.pp_law.specs.Hearing.{with_front}
use Rattle.pp_law.specs.Connections.{anew, on_client, each_client, is_for}
use Rattle.pp_law.specs.Lists.{Bytes, is_some_with}
use Rattle.pp_law.specs.Requests.{Parsed, NoHeadYet, NoHead, IsRequest, keeps_open, has_request}
use Rattle.pp_law.specs.Stages.{is_begun, is_headed, is_passing, on_passed, passed_of, reply_of}
use Rattle.pp_law.specs.State.{State, Client, Exchange, Instance, Passed, Brought, Awaited, Joins, Trying, Undecided, Waiting, Passing, Answering, Reply}
use Rattle.pp_law.specs.Table.{source_of, next_of, Next, is_held, is_next_held, swept}

-- ---- a reply begins at the end of a turn

-- the head of a passed response, for the client of this request
abbrev pub passed_reply : State → Parsed → Passed → Decision → Reply
passed_reply s r p d = record {
  decision = d;
  source = None;
  has_begun = true;
  head_left = passed_head p.head p.rule r.head.minor (is_head r.head.method) s.settings.name (keeps_open r);
  at = 0;
  to = 0;
}

abbrev pub begun_passed : State → Parsed → Decision → Client → Client
begun_passed s r d c = elim (passed_of c) [
  | None ↦ c
  | Some p ↦ record c { stage = Answering (passed_reply s r p d); closes = not (keeps_open r && is_end_known p.rule r.head.minor) }
]

-- ---- a reply by a row begins with the head that the table and the clock of then give

abbrev pub has_plain_age : ℕ → Brought → Bool
has_plain_age id (Joins x plain) = (x == id) && plain
has_plain_age id brought = false

-- no age where the exchange of this very request just brought it, and told none
abbrev pub age_shown : State → Client → Instance → Option ℕ
age_shown s c x = elim (has_plain_age x.id c.brought) [ true ↦ None | false ↦ Some (age_of x.times s.clock) ]

abbrev pub is_part : Resolved → Bool
is_part (OfPart from to) = true
is_part resolved = false

abbrev pub body_head : State → Parsed → Client → Instance → ℕ × ℕ → Bytes
body_head s r c x span = elim (is_part (resolved r.head.fields x.version)) [
  | true ↦ part_head span.0 span.1 x.version.length x.fields (age_shown s c x) s.settings.name (keeps_open r)
  | false ↦ whole_head x.version.length x.fields (age_shown s c x) s.settings.name (keeps_open r)
]

abbrev pub instance_head : State → Parsed → Client → Instance → Decision → Bytes
instance_head s r c x (Hit from to) = body_head s r c x (from, to)
instance_head s r c x (Part from to) = body_head s r c x (from, to)
instance_head s r c x Head = whole_head x.version.length x.fields (age_shown s c x) s.settings.name (keeps_open r)
instance_head s r c x NotModified = not_modified_head x.fields (age_shown s c x) s.settings.name (keeps_open r)
instance_head s r c x Unsatisfiable = unsatisfiable_page x.version.length (keeps_open r)
instance_head s r c x d = []

-- those without a body begin at once, and the others once their first byte is held
abbrev pub may_begin : State → Reply → Instance → Bool
may_begin s reply x = (reply.at == reply.to) || is_held s x reply.at

abbrev pub kept_source : Reply → Option ℕ
kept_source reply = elim (reply.at == reply.to) [ true ↦ None | false ↦ reply.source ]

abbrev pub begun_reply : State → Parsed → Client → Reply → Instance → Reply
begun_reply s r c reply x = record reply { has_begun = true; source = kept_source reply; head_left = instance_head s r c x reply.decision }

abbrev pub begun_instance : State → Parsed → Reply → Client → Client
begun_instance s r reply c = elim (source_of s reply) [
  | None ↦ c
  | Some x ↦ elim (may_begin s reply x) [ true ↦ record c { stage = Answering (begun_reply s r c reply x) } | false ↦ c ]
]

abbrev pub begun_decided : State → Parsed → Reply → Client → Client
begun_decided s r reply c = elim (is_passing reply.decision) [ true ↦ begun_passed s r reply.decision c | false ↦ begun_instance s r reply c ]

abbrev pub begun_by : State → Parsed → Client → Client
begun_by s r c = elim c.stage [
  | Undecided ↦ c
  | Waiting ↦ c
  | Passing ↦ begun_passed s r Pass c
  | Answering reply ↦ elim reply.has_begun [ true ↦ c | false ↦ begun_decided s r reply c ]
]

abbrev pub begun_at_end : State → Client → Client
begun_at_end s c = elim c.is_closing [
  | true ↦ c
  | false ↦ elim c.front [ NoHeadYet ↦ c | NoHead status ↦ c | IsRequest r ↦ begun_by s r c ]
]

abbrev pub begins : State → Client → Bool
begins s c = not (is_begun c) && is_begun (begun_at_end s c)

-- the reply of its request begins from something else
abbrev pub is_outrun : State → Exchange → Bool
is_outrun s e = not (is_headed e) && list_any (λ c. is_for e c && begins s c) s.clients

unfoldable pub begin_replies : State → State
begin_replies s = swept (forsake (is_outrun s) (record s { clients = map (begun_at_end s) s.clients }))

-- ---- so many bytes were said

abbrev pub said_of_body : ℕ → Reply → Client → Client
said_of_body n r c = elim (is_passing r.decision) [
  | true ↦ on_passed (λ p. record p { pipe = without_first n p.pipe }) (record c { stage = Answering r })
  | false ↦ record c { stage = Answering (record r { at = r.at + n }) }
]

-- of its head, and behind it of its body
abbrev pub said_of : ℕ → Reply → Client → Client
said_of n r c = elim (nat_le n (length r.head_left)) [
  | true ↦ record c { stage = Answering (record r { head_left = drop n r.head_left }) }
  | false ↦ said_of_body (n - length r.head_left) (record r { head_left = [] }) c
]

abbrev pub said_by : ℕ → Client → Client
said_by n c = elim (is_empty c.interim_left) [
  | false ↦ record c { interim_left = drop n c.interim_left }
  | true ↦ elim (reply_of c) [ None ↦ c | Some r ↦ said_of n r c ]
]

unfoldable pub use_chunks : ℕ → ℕ → ℕ → State → State
use_chunks zero id i s = s
use_chunks (suc more) id i s = use_chunks more id (i + 1) (use_chunk id i s)

-- each chunk of which a byte was said is the most recently used one, in their order
unfoldable pub use_from : ℕ → Next → State → State
use_from n x s = use_chunks ((x.at + n - 1) / chunk_len + 1 - x.at / chunk_len) x.source.id (x.at / chunk_len) s

-- how many of the bytes that were said are of the body
abbrev pub of_body : ℕ → Client → ℕ
of_body n c = elim (is_empty c.interim_left) [ false ↦ 0 | true ↦ elim (reply_of c) [ None ↦ 0 | Some r ↦ n - length r.head_left ] ]

unfoldable pub use_said : ℕ → Client → State → State
use_said n c s = elim (nat_lt 0 (of_body n c)) [ false ↦ s | true ↦ elim (next_of s c) [ None ↦ s | Some x ↦ use_from (of_body n c) x s ] ]

-- ---- a reply is over

abbrev pub has_no_more : Client → Reply → Bool
has_no_more c r = (r.at == r.to) && (not (is_passing r.decision) || is_some_with (λ p. p.pipe.is_finished && is_empty p.pipe.bytes) (passed_of c))

abbrev pub is_said : Client → Bool
is_said c = is_empty c.interim_left && is_some_with (λ r. r.has_begun && is_empty r.head_left && has_no_more c r) (reply_of c)

-- behind the request and its body
abbrev pub next_request : Client → Client
next_request c = with_front (record c {
  front = NoHeadYet;
  heard = drop c.body_left c.heard;
  skip = c.skip + (c.body_left - length c.heard);
  body_left = 0;
  index = c.index + 1;
  stage = Undecided;
  waits_on = None;
  brought = Awaited;
  course = Trying 0;
  has_given_up = false;
  interim_left = [];
  closes = false;
})

unfoldable pub end_reply : Client → State → State
end_reply c s = elim c.closes [
  | true ↦ close_client c.number false s
  | false ↦ swept (forsake (is_of c.number) (on_client c.number next_request s))
]

unfoldable pub end_said : Client → State → State
end_said c s = elim (is_said c && not c.is_closing) [ true ↦ end_reply c s | false ↦ s ]

-- ---- a client that sends no more

-- nothing that it sent is left to answer: no request, or one whose body stays short
abbrev pub is_finished : Client → Bool
is_finished c = c.has_hung_up && not c.is_closing && (not (has_request c.front) || nat_lt (length c.heard) c.body_left)

unfoldable pub close_finished : Client → State → State
close_finished c s = elim (is_finished c) [ true ↦ close_client c.number false s | false ↦ s ]

-- replies that were said whole are over, and clients of whom nothing is left are closed
unfoldable pub end_replies : State → State
end_replies s =
    let numbers : List ℕ = map (λ c. c.number) s.clients in
    each_client close_finished numbers (each_client end_said numbers s)

-- ---- attempts

-- ours: they count anew once the next byte is held; not where a response is passed, which may be all that is left to it
abbrev pub is_regained : State → Client → Bool
is_regained s c = is_some_with (is_next_held s) (next_of s c) && not (is_some (passed_of c))

abbrev pub regained_by : State → Client → Client
regained_by s c = elim (is_regained s c) [ true ↦ record c { course = anew c.course } | false ↦ c ]

unfoldable pub regained : State → State
regained s = record s { clients = map (regained_by s) s.clients }
