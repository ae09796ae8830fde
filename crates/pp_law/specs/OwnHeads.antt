-- What the head of a response to an exchange of the cache's own does to the row of its key (RFC 2616, sections 10.3.5 and 13.5;
-- RFC 7233, sections 4.1 and 4.3; RFC 7234, section 4.3.3).
use Rattle.std.specs.Prelude.{ℕ, ◌+◌, Bool, true, false, ◌==◌, ◌&&◌, ◌||◌, not, nat_eq, nat_lt, List, [], ◌∷◌, length, bytes_eq, is_some, codes, Option, Some, None, option_map}
use Rattle.std.specs.List.{list_any, starts_with}
use Rattle.pp_fresh.specs.Age.{times_of}
use Rattle.pp_fresh.specs.Guessing.{allows_guess}
use Rattle.pp_fresh.specs.Ready.{may_store}
use Rattle.pp_fresh.specs.declared.aging.Times.{Times}
use Rattle.pp_framing.specs.declared.body.BodyRule.{BodyRule}
use Rattle.pp_head.specs.Response.{Response}
use Rattle.pp_objects.specs.Kept.{kept_of, refreshed_of, has_room}
use Rattle.pp_target.specs.Key.{text_of}
use Rattle.pp_text.specs.Bytes.{is_empty, lower}
use Rattle.pp_text.specs.Fields.{Field, has_field, values_of}
use Rattle.pp_valid.specs.ContentRanges.{content_range_of}
use Rattle.pp_valid.specs.Codings.{accepts_only_identity}
use Rattle.pp_valid.specs.Conditions.{names_other_tag}
use Rattle.pp_valid.specs.Versions.{version_of}
use Rattle.pp_valid.specs.declared.content_range.ContentRange.{ContentRange}
use Rattle.pp_valid.specs.declared.content_range.ContentRange.TheVariants.{Span}
use Rattle.pp_valid.specs.declared.version.Version.{Version}
use Rattle.pp_law.specs.Chunks.{joined, note_use}
use Rattle.pp_law.specs.Connections.{exchange, on_exchange, on_client_of, is_for, attempts_of, without_shared_row, lose_attempt}
use Rattle.pp_law.specs.Lists.{Bytes, change, is_some_with}
use Rattle.pp_law.specs.Passing.{passed_by}
use Rattle.pp_law.specs.Requests.{parsed_in}
use Rattle.pp_law.specs.Stages.{is_begun, bound_of, is_own, is_through}
use Rattle.pp_law.specs.State.{State, Answer, Through, Own, Filling, Bound, Body, Joining, Relaying, Dropping, Brought, Useless, Joins, Passes, TooWide, Client, Exchange, Instance, Sent}
use Rattle.pp_law.specs.Table.{is_same_version, row, instance, extent_of, on_instance, mark_row, make_row, clear, Next, next_of, shown_span, is_provided}

abbrev pub key_of : Exchange → Bytes
key_of e = text_of e.key

-- ---- offsets

abbrev pub first_in : Option ContentRange → ℕ
first_in (Some (Span first last n)) = first
first_in range = 0

abbrev pub end_in : Option ContentRange → ℕ → ℕ
end_in (Some (Span first last m)) n = last + 1
end_in range n = n

-- of a part these are in Content-Range, and else it is all (RFC 7233, section 4.2)
abbrev pub range_in : Response → Option ContentRange
range_in head = elim (head.status == 206) [ true ↦ content_range_of head.fields | false ↦ None ]

abbrev pub first_offset : Response → ℕ
first_offset head = first_in (range_in head)

abbrev pub names_another : Exchange → Version → Bool
names_another e v = is_some_with (λ tag. not (bytes_eq tag v.tag)) e.named

-- "A server MAY ignore the Range header field" (RFC 7233, section 3.1); for another version than its ask names it has to (3.2)
abbrev pub ignores_range : Exchange → Response → Version → Bool
ignores_range e head v = e.is_ranged && (head.status == 200) && not (names_another e v)

abbrev pub span_to_come : Exchange → Response → Version → ℕ → Bound
span_to_come e head v id = record {
  instance = id;
  next = first_offset head;
  to = end_in (range_in head) v.length;
  wanted = first_offset head;
  is_all = ignores_range e head v;
}

-- ---- what the request of the exchange is told

-- the request that did not leave it, and has no reply yet
abbrev pub is_asked_by : Exchange → Client → Bool
is_asked_by e c = is_for e c && not (is_begun c)

unfoldable pub tell : Exchange → Brought → State → State
tell e brought s = record s { clients = change (is_asked_by e) (λ c. record c { brought = brought }) s.clients }

unfoldable pub use_body : Exchange → Body → State → State
use_body e body s = on_exchange e.number (λ x. record x { body = body }) s

-- an answer that is of no use: its request is decided again
unfoldable pub drop_answer : Exchange → State → State
drop_answer e s = tell e Useless (use_body e Dropping s)

-- and it loses an attempt
unfoldable pub useless : Exchange → State → State
useless e s = lose_attempt e (drop_answer e s)

-- ---- a response with a version

-- no wish for codings goes with what is asked of a version
abbrev pub asks_only_identity : Exchange → Bool
asks_only_identity e = elim e.aim [ Through ↦ accepts_only_identity e.head.fields | Own ↦ accepts_only_identity e.head.fields | Filling v from to ↦ true ]

-- what has a content coding has one only where the ask had no other wish
abbrev pub version_in : Exchange → Response → Option Version
version_in e head = version_of head.fields head.status (asks_only_identity e)

-- "private", "no-store" and what varies by client
abbrev pub forbids_sharing : Response → Bool
forbids_sharing head = not (may_store head.fields)

abbrev pub is_private_part : Response → Bool
is_private_part head = (head.status == 206) && forbids_sharing head

abbrev pub times_for : Exchange → Response → State → Times
times_for e head s = times_of head.fields e.requested s.clock (allows_guess (key_of e) e.head.fields)

abbrev pub renewed : Response → Times → Instance → Instance
renewed head times x = record x { fields = refreshed_of x.fields head.fields times; times = times }

unfoldable pub renew : Instance → Response → Times → State → State
renew x head times s = mark_row x.id (on_instance x.id (renewed head times) s)

-- its body belongs to the row of its key
unfoldable pub settle_on : Exchange → Response → Version → State → State
settle_on e head v s = elim (row s (key_of e)) [
  | None ↦ s
  | Some x ↦ tell e (Joins x.id (not (has_field (codes "age") head.fields))) (use_body e (Joining (span_to_come e head v x.id)) s)
]

-- the row takes over what changes with each response
unfoldable pub renew_row : Exchange → Response → State → State
renew_row e head s = elim (row s (key_of e)) [ None ↦ s | Some x ↦ renew x head (times_for e head s) s ]

-- a kept row is in memory by then
abbrev pub known_version : State → Bytes → Option Version
known_version s key = option_map (λ x. x.version) (row s key)

abbrev pub known_fields : State → Bytes → List Field
known_fields s key = elim (row s key) [ Some x ↦ x.fields | None ↦ [] ]

-- what it would take over has room in the row
abbrev pub may_refresh : Exchange → Response → State → Bool
may_refresh e head s = has_room (known_fields s (key_of e)) head.fields (times_for e head s)

unfoldable pub settle_known : Exchange → Response → Version → State → State
settle_known e head v s = elim (may_refresh e head s) [ true ↦ settle_on e head v (renew_row e head s) | false ↦ useless e s ]

-- the tag that its ask names
abbrev pub names_version : Exchange → Version → Bool
names_version e v = is_some_with (λ tag. bytes_eq tag v.tag) e.named

-- "A full response indicates that none of the stored responses nominated in the conditional request are suitable" (RFC 7234,
-- section 4.3.3): it is a new version, whatever its tag
abbrev pub is_full_answer : Exchange → Response → Version → Bool
is_full_answer e head v = elim e.aim [ Own ↦ (head.status == 200) && names_version e v | Through ↦ false | Filling w from to ↦ false ]

abbrev pub may_join : Exchange → Response → Version → Version → Bool
may_join e head v known = is_same_version v known && not (is_full_answer e head known)

-- "An implementation MUST NOT combine" parts of two versions: another one makes a new row
unfoldable pub settle : Exchange → Response → Version → State → State
settle e head v s = elim (is_some_with (may_join e head v) (known_version s (key_of e))) [
  | true ↦ settle_known e head v s
  | false ↦ settle_on e head v (make_row (key_of e) v (kept_of head.fields (times_for e head s)) (times_for e head s) s)
]

-- ---- what forbids sharing is never shared

-- its row is cleared, and its request is decided again without it
unfoldable pub not_shared : Exchange → State → State
not_shared e s = on_client_of e (without_shared_row (attempts_of e)) (drop_answer e (clear (key_of e) s))

-- ---- 304 (RFC 2616, section 10.3.5)

-- nothing of a body comes
abbrev pub nothing_to_come : Instance → Bound
nothing_to_come x = record { instance = x.id; next = 0; to = 0; wanted = 0; is_all = false }

unfoldable pub settle_unchanged : Exchange → State → State
settle_unchanged e s = elim (row s (key_of e)) [ None ↦ s | Some x ↦ tell e (Joins x.id false) (use_body e (Joining (nothing_to_come x)) s) ]

-- it has to name the version of the row
unfoldable pub unchanged : Exchange → Response → State → State
unchanged e head s = elim (is_some_with (names_version e) (known_version s (key_of e)) && may_refresh e head s) [
  | true ↦ settle_unchanged e (renew_row e head s)
  | false ↦ useless e s
]

-- "If a 304 response indicates an entity not currently cached, then the cache MUST disregard the response"
abbrev pub is_of_another : Response → State → Bytes → Bool
is_of_another head s key = is_some_with (λ v. names_other_tag head.fields v.tag) (known_version s key)

unfoldable pub not_modified : Exchange → Response → State → State
not_modified e head s = elim (forbids_sharing head) [
  | true ↦ not_shared e s
  | false ↦ elim (is_of_another head s (key_of e)) [ true ↦ useless e (clear (key_of e) s) | false ↦ unchanged e head s ]
]

-- ---- a response without a version

-- the row was known to be otherwise, or is not to be shared
abbrev pub clears_row : Response → Bool
clears_row head = (head.status == 200) || (head.status == 404) || (head.status == 410) || is_private_part head

unfoldable pub cleared_by : Response → Exchange → State → State
cleared_by head e s = elim (clears_row head) [ true ↦ clear (key_of e) s | false ↦ s ]

-- ours: a part that was asked for from before the client's range is read and dropped, and the request is passed
abbrev pub is_widened : Exchange → Response → Bool
is_widened e head = e.is_moved && (head.status == 206)

-- it is passed to the request that waits for it, or dropped
abbrev pub relayed : Exchange → State → Body
relayed e s = elim (list_any (is_asked_by e) s.clients) [ true ↦ Relaying | false ↦ Dropping ]

unfoldable pub relay_head : Exchange → Response → BodyRule → State → State
relay_head e head rule s = tell e (Passes (passed_by e head rule)) (use_body e (relayed e s) s)

-- to a Fetch or Validate: it is relayed
unfoldable pub other_head : Exchange → Response → BodyRule → State → State
other_head e head rule s = elim (is_widened e head) [
  | true ↦ tell e TooWide (use_body e Dropping (cleared_by head e s))
  | false ↦ relay_head e head rule (cleared_by head e s)
]

-- to a follower's ask: only where it cleared the row, and is not a part that was asked for another's sake
unfoldable pub other_part : Exchange → Response → BodyRule → State → State
other_part e head rule s = elim (is_private_part head) [
  | true ↦ not_shared e s
  | false ↦ elim (clears_row head) [ true ↦ relay_head e head rule (cleared_by head e s) | false ↦ useless e s ]
]

-- ---- heads by what was asked

unfoldable pub own_head : Exchange → Response → BodyRule → State → State
own_head e head rule s = elim (version_in e head) [
  | Some v ↦ settle e head v s
  | None ↦ elim (head.status == 304) [ true ↦ not_modified e head s | false ↦ other_head e head rule s ]
]

abbrev pub is_bound : Exchange → Bool
is_bound e = is_some (bound_of e)

-- what it is to be said of the row that stands: what its request is shown of it, and where its reply has begun the rest of that
abbrev pub rest_by : Client → Next → Instance → ℕ × ℕ
rest_by c n x = elim (is_begun c) [ true ↦ (n.at, n.to) | false ↦ elim (parsed_in c.front) [ None ↦ (0, 0) | Some r ↦ shown_span r.head x.version ] ]

-- of that row; a reply that has begun goes on by its own version alone
abbrev pub lacks_by : State → Client → Next → Instance → Bool
lacks_by s c n x =
    let span = rest_by c n x in
    not (is_begun c && n.source.is_retired) && nat_lt span.0 span.1 && not (is_provided s (record { source = x; at = span.0; to = span.1 }))

-- the follower still lacks its next byte
abbrev pub lacks_next : State → Client → Bool
lacks_next s c = is_some_with (λ n. is_some_with (lacks_by s c n) (row s n.source.key)) (next_of s c)

-- what it brings is no use for its own follower, of the version that its ask names or of another ("the server SHOULD ignore the
-- Range header field" then: RFC 7233, section 3.2); an answer that is of no use at all is counted already
unfoldable pub count_elsewhere : Exchange → State → State
count_elsewhere e s = elim (is_some_with is_bound (exchange s e.number) && list_any (λ c. is_for e c && lacks_next s c) s.clients) [
  | true ↦ lose_attempt e s
  | false ↦ s
]

unfoldable pub part_head : Exchange → Response → BodyRule → State → State
part_head e head rule s = elim (version_in e head) [
  | Some v ↦ settle e head v s
  | None ↦ elim (head.status == 304) [ true ↦ not_modified e head s | false ↦ other_part e head rule s ]
]

unfoldable pub filling_head : Exchange → Response → BodyRule → State → State
filling_head e head rule s = count_elsewhere e (part_head e head rule s)

-- ---- heads that answer no ask of this kind

abbrev pub is_multipart : Response → Bool
is_multipart head = list_any (λ v. starts_with nat_eq (lower v) (codes "multipart/byteranges")) (values_of (codes "content-type") head.fields)

abbrev pub is_wrong_part : Response → Bool
is_wrong_part head = (head.status == 206) && is_multipart head

-- ours: 101 would leave HTTP; one range was asked for; only what was named can be unchanged
abbrev pub is_wrong_head : Exchange → Response → Bool
is_wrong_head e head =
    (head.status == 101) || (not (is_through e) && is_wrong_part head) || (is_own e && (head.status == 304) && not (is_some e.named))

-- ---- bytes

abbrev pub sent_as : Exchange → ℕ → Bytes → Option Version → List Sent → List Sent
sent_as e at bytes None sent = sent
sent_as e at bytes (Some v) sent = record { key = key_of e; version = v; at = at; bytes = bytes } ∷ sent

-- what an exchange of the cache's own brought is put on record, whatever becomes of it
unfoldable pub note_own : Exchange → Answer → ℕ → Bytes → State → State
note_own e a at bytes s = elim (is_empty bytes) [
  | true ↦ s
  | false ↦ record s { sent = sent_as e (first_offset a.head + at) bytes a.version s.sent }
]

unfoldable pub note_sent : Exchange → Answer → ℕ → Bytes → State → State
note_sent e a at bytes s = elim e.aim [ Through ↦ s | Own ↦ note_own e a at bytes s | Filling v from to ↦ note_own e a at bytes s ]

-- the instance that they join: no bytes join none
abbrev pub joined_one : Bound → Bytes → State → Option Instance
joined_one b bytes s = elim (is_empty bytes) [ true ↦ None | false ↦ instance s b.instance ]

unfoldable pub join : Bound → Bytes → State → State
join b bytes s = elim (joined_one b bytes s) [ None ↦ s | Some x ↦ note_use (record s { chunks = joined x.id (extent_of s x) b.next bytes s.chunks }) ]

abbrev pub moved_on : ℕ → Exchange → Exchange
moved_on n e = elim (bound_of e) [ None ↦ e | Some b ↦ record e { body = Joining (record b { next = b.next + n }) } ]

-- the bytes join the instance that they belong to
unfoldable pub join_bound : Exchange → Bytes → State → State
join_bound e bytes s = elim (bound_of e) [ None ↦ s | Some b ↦ on_exchange e.number (moved_on (length bytes)) (join b bytes s) ]
