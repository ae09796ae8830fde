-- What a decision does: a page, an exchange, or a reply by the row (RFC 2616, sections 13 and 14).
use Rattle.std.specs.Prelude.{ℕ, ◌+◌, ◌%◌, Bool, true, false, ◌==◌, ◌&&◌, not, nat_lt, min, max, [], ◌∷◌, ◌++◌, Option, Some, None, option_map, Ok, Err}
use Rattle.pp_ask.specs.declared.kind.AskKind.{AskKind}
use Rattle.pp_ask.specs.declared.kind.AskKind.TheVariants.{Range as AsRange}
use Rattle.pp_head.specs.Request.{Request}
use Rattle.pp_plan.specs.Row.{Row}
use Rattle.pp_ranges.specs.Ranges.{range_of}
use Rattle.pp_ranges.specs.declared.range.Range.{Range}
use Rattle.pp_ranges.specs.declared.range.Range.TheVariants.{Span, From}
use Rattle.pp_reply.specs.Keeping.{interim}
use Rattle.pp_reply.specs.Texts.{page}
use Rattle.pp_target.specs.Key.{Key, text_of}
use Rattle.pp_world.specs.declared.note.Decision.{Decision}
use Rattle.pp_world.specs.declared.note.Decision.TheVariants.{Refuse, Hit, Part, Relay, Validate, Fetch, Pass}
use Rattle.pp_law.specs.Closing.{is_of, leave}
use Rattle.pp_law.specs.Connections.{on_client}
use Rattle.pp_law.specs.Lists.{Bytes, is_some_with}
use Rattle.pp_law.specs.Requests.{Parsed, NoHeadYet, NoHead, IsRequest, key_in, keeps_after, asks_head, expects_interim}
use Rattle.pp_law.specs.Responses.{skipping}
use Rattle.pp_law.specs.Stages.{bound_of, is_undecided}
use Rattle.pp_law.specs.State.{State, Through, Own, Pending, Awaited, Trying, Client, Exchange, Instance, Stage, Waiting, Passing, Answering, Reply, Aim}
use Rattle.pp_law.specs.Table.{row, row_for, swept, mark_row, enter, must_forget, asks_for, is_soon}
use Rattle.pp_law.specs.Decisions.{kind_of, text_for}

abbrev pub page_with : ℕ → Bytes → Stage
page_with status text = Answering (record { decision = Refuse status; source = None; has_begun = true; head_left = text; at = 0; to = 0 })

-- the interim answer comes before the reply, once
abbrev pub interim_for : Client → Parsed → Bytes
interim_for c r = elim (is_undecided c.stage) [ true ↦ elim (expects_interim r) [ true ↦ interim | false ↦ [] ] | false ↦ c.interim_left ]

abbrev pub first_interim : Client → Bytes
first_interim c = elim c.front [ NoHeadYet ↦ [] | NoHead status ↦ [] | IsRequest r ↦ interim_for c r ]

abbrev pub refused_with : ℕ → Client → Client
refused_with status c = skipping (record c {
  interim_left = first_interim c;
  stage = page_with status (page status (asks_head c.front) (keeps_after status c.front));
  closes = not (keeps_after status c.front);
  brought = Awaited;
  course = Trying 0;
})

unfoldable pub refuse : Client → ℕ → State → State
refuse c status s = swept (leave (is_of c.number) (on_client c.number (refused_with status) s))

unfoldable pub add_exchange : Exchange → State → State
add_exchange e s = record s { exchanges = s.exchanges ++ e ∷ []; next_exchange = s.next_exchange + 1 }

-- the exchange begun last is the only one of its request: the one before is nobody's, and over where it has no place
unfoldable pub begin_exchange : Exchange → State → State
begin_exchange e s = add_exchange e (leave (λ x. is_some_with (λ n. is_of n x) e.asker) s)

abbrev pub is_pass : Decision → Bool
is_pass Pass = true
is_pass d = false

abbrev pub tag_named : Option Row → Decision → Option Bytes
tag_named row Validate = option_map (λ r. r.version.tag) row
tag_named row d = None

-- ours: a range is asked for from the front of a chunk on
abbrev pub is_range : AskKind → Bool
is_range (AsRange first last) = true
is_range kind = false

abbrev pub is_moved_in : Option Range → Bool
is_moved_in (Some (Span first last)) = not (first % 4096 == 0)
is_moved_in (Some (From first)) = not (first % 4096 == 0)
is_moved_in range = false

-- nothing is asked of it yet
abbrev pub unasked : State → Client → Request → Key → Aim → Bytes → Exchange
unasked s c head key aim text = record {
  number = s.next_exchange;
  asker = Some c.number;
  head = head;
  key = key;
  aim = aim;
  named = None;
  is_ranged = false;
  is_moved = false;
  text = text;
  asked = 0;
  body_left = 0;
  requested = 0;
  place = None;
  body = Pending;
}

abbrev pub new_exchange : State → Client → Request → Key → Decision → AskKind → Exchange
new_exchange s c head key d kind = record (unasked s c head key (elim (is_pass d) [ true ↦ Through | false ↦ Own ]) (text_for s head key kind)) {
  named = tag_named (row_for s head (text_of key)) d;
  is_ranged = is_range kind;
  is_moved = is_range kind && is_moved_in (range_of head.fields);
  body_left = elim (is_pass d) [ true ↦ c.body_left | false ↦ 0 ];
}

abbrev pub stage_for : Decision → Stage
stage_for d = elim (is_pass d) [ true ↦ Passing | false ↦ Waiting ]

abbrev pub asking_with : Decision → Client → Client
asking_with d c = record c { interim_left = first_interim c; stage = stage_for d; brought = Awaited }

unfoldable pub ask_for : Client → Decision → Request → Key → AskKind → State → State
ask_for c d head key kind s = swept (begin_exchange (new_exchange s c head key d kind) (leave (is_of c.number) (on_client c.number (asking_with d) s)))

unfoldable pub ask_as : Client → Decision → Request → Key → State → State
ask_as c d head key s = elim (kind_of head (row_for s head (text_of key)) d) [ None ↦ s | Some kind ↦ ask_for c d head key kind s ]

unfoldable pub ask_origin : Client → Decision → State → State
ask_origin c d s = elim c.front [
  | NoHeadYet ↦ s
  | NoHead status ↦ s
  | IsRequest r ↦ elim r.key [ Ok key ↦ ask_as c d r.head key s | Err fault ↦ s ]
]

-- ---- a reply by the row

abbrev pub span_of : Decision → ℕ × ℕ
span_of (Hit from to) = (from, to)
span_of (Part from to) = (from, to)
span_of d = (0, 0)

abbrev pub reply_by : Decision → Option ℕ → Reply
reply_by d source = record { decision = d; source = source; has_begun = false; head_left = []; at = (span_of d).0; to = (span_of d).1 }

abbrev pub answering_with : Reply → Client → Client
answering_with r c = record c { interim_left = first_interim c; stage = Answering r; closes = not (keeps_after 200 c.front) }

-- of what the follower still wants, something is still to come by the exchange: of no bytes nothing is
abbrev pub serves : Instance → Reply → Exchange → Bool
serves x r e = nat_lt r.at r.to && (elim (bound_of e) [
  | Some b ↦ (b.instance == x.id) && nat_lt (max b.next r.at) (min b.to r.to) && is_soon b r.at
  | None ↦ asks_for x r.at e
])

-- and leaves an exchange that brings nothing of it
unfoldable pub follow_with : Client → Reply → Instance → State → State
follow_with c r x s = swept (leave (λ e. is_of c.number e && not (serves x r e)) (on_client c.number (answering_with r) s))

unfoldable pub follow_row : Client → Decision → Bytes → State → State
follow_row c d key s = elim (row s key) [ None ↦ s | Some x ↦ follow_with c (reply_by d (Some x.id)) x s ]

unfoldable pub follow : Client → Decision → State → State
follow c d s = elim (key_in c.front) [ None ↦ s | Some key ↦ follow_row c d (text_of key) s ]

unfoldable pub relay : Client → State → State
relay c s = swept (on_client c.number (answering_with (reply_by Relay None)) s)

-- ---- all

-- ours: each decision but one for want of memory brings the row of its key into memory, and marks it
abbrev pub is_for_memory : Decision → Bool
is_for_memory (Refuse status) = status == 500
is_for_memory d = false

unfoldable pub mark_row_of : Bytes → State → State
mark_row_of key s = elim (row s key) [ None ↦ s | Some x ↦ mark_row x.id s ]

unfoldable pub enter_row : Client → Decision → State → State
enter_row c d s = elim (is_for_memory d) [
  | true ↦ s
  | false ↦ elim (key_in c.front) [ None ↦ s | Some key ↦ mark_row_of (text_of key) (enter (text_of key) false s) ]
]

-- another row has to leave memory before
abbrev pub has_to_forget : State → Client → Bool
has_to_forget s c = is_some_with (λ key. must_forget s (text_of key)) (key_in c.front)

unfoldable pub decided_by : Client → Decision → State → State
decided_by c (Refuse status) s = refuse c status s
decided_by c Pass s = ask_origin c Pass s
decided_by c Fetch s = ask_origin c Fetch s
decided_by c Validate s = ask_origin c Validate s
decided_by c Relay s = relay c s
decided_by c d s = follow c d s

unfoldable pub decided : Client → Decision → State → State
decided c d s = decided_by c d (enter_row c d s)
