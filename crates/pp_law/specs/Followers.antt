-- What followers ask for: bytes that are not there and do not come (RFC 7233, sections 3.2 and 4.3; ours: chunk by chunk).
use Rattle.std.specs.Prelude.{ℕ, ◌+◌, ◌-◌, ◌*◌, ◌/◌, Bool, true, false, ◌&&◌, ◌||◌, not, map, is_some, Option, Some, None, Ok, Err}
use Rattle.std.specs.List.{list_any}
use Rattle.pp_ask.specs.declared.kind.AskKind.TheVariants.{Hole as AsHole}
use Rattle.pp_head.specs.Request.{Request}
use Rattle.pp_plan.specs.Need.{need}
use Rattle.pp_target.specs.Key.{Key}
use Rattle.pp_law.specs.Chunks.{chunk_len}
use Rattle.pp_law.specs.Deciding.{begin_exchange, unasked}
use Rattle.pp_law.specs.Decisions.{fits, lent, text_for}
use Rattle.pp_law.specs.Connections.{on_client, each_client, is_for, is_trying}
use Rattle.pp_law.specs.Lists.{Bytes, is_some_with, without}
use Rattle.pp_law.specs.Requests.{NoHeadYet, NoHead, IsRequest}
use Rattle.pp_law.specs.Stages.{filled_of}
use Rattle.pp_law.specs.State.{State, Filling, AskTooLong, Client, Exchange}
use Rattle.pp_law.specs.Table.{next_of, Next, is_brought, brings, held_to, next_held}

-- ---- step 5

-- what is not held: from the first offset in the chunk of the next byte, to the next chunk with any that is
abbrev pub hole_of : State → Next → ℕ × ℕ
hole_of s n =
    let chunk = n.at / chunk_len in
    (held_to s n.source (chunk * chunk_len), next_held s n.source (chunk + 1))

-- of a version that was retired nothing is asked, nor what comes
abbrev pub need_of : State → Next → Option (ℕ × ℕ)
need_of s n = elim (n.source.is_retired || is_brought s n.source n.at) [ true ↦ None | false ↦ need n.at n.to (hole_of s n) ]

abbrev pub hole_text : State → Request → Key → Next → ℕ × ℕ → Bytes
hole_text s head key n span = text_for s head key (AsHole span.0 (span.1 - 1) (lent n.source.version.tag))

abbrev pub filling_exchange : State → Client → Request → Key → Next → ℕ × ℕ → Exchange
filling_exchange s c head key n span = record (unasked s c head key (Filling n.source.version span.0 span.1) (hole_text s head key n span)) {
  named = Some n.source.version.tag;
  is_ranged = true;
}

unfoldable pub fill_with : Exchange → Client → State → State
fill_with e c s = elim (fits e.text) [ true ↦ begin_exchange e s | false ↦ on_client c.number (λ x. record x { course = AskTooLong }) s ]

unfoldable pub fill_span : Client → Next → ℕ × ℕ → State → State
fill_span c n span s = elim c.front [
  | NoHeadYet ↦ s
  | NoHead status ↦ s
  | IsRequest r ↦ elim r.key [ Ok key ↦ fill_with (filling_exchange s c r.head key n span) c s | Err fault ↦ s ]
]

unfoldable pub fill_next : Client → Next → State → State
fill_next c n s = elim (need_of s n) [ None ↦ s | Some span ↦ fill_span c n span s ]

unfoldable pub fill_for : Client → State → State
fill_for c s = elim (is_trying c.course) [ false ↦ s | true ↦ elim (next_of s c) [ None ↦ s | Some n ↦ fill_next c n s ] ]

unfoldable pub fill : State → State
fill s = elim s.is_stopped [ true ↦ s | false ↦ each_client fill_for (map (λ c. c.number) s.clients) s ]

-- ---- step 2: an ask without a place that no longer brings what its own client wants is given up

abbrev pub is_wanted_by : State → Exchange → Client → Bool
is_wanted_by s e c = is_for e c && is_some_with (λ n. brings s n.source n.at e) (next_of s c)

abbrev pub is_useless_ask : State → Exchange → Bool
is_useless_ask s e = is_some (filled_of e) && not (is_some e.place) && not (list_any (is_wanted_by s e) s.clients)

unfoldable pub give_up_asks : State → State
give_up_asks s = record s { exchanges = without (is_useless_ask s) s.exchanges }
