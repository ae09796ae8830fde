-- What a request gets: the first line that applies (RFC 2616, sections 13 and 14; RFC 7232, section 6; RFC 7233,
-- section 3).
use Rattle.std.specs.Prelude.{ℕ, Bool, true, false, ◌&&◌, ◌||◌, not, if◌then◌else◌, Option, Some, None}
use Rattle.pp_head.specs.Request.{Request}
use Rattle.pp_fresh.specs.Directives.{directives_of}
use Rattle.pp_fresh.specs.Ready.{is_ready, may_store}
use Rattle.pp_ranges.specs.declared.range.Resolved.{Resolved}
use Rattle.pp_ranges.specs.declared.range.Resolved.TheVariants.{Whole as OfAll, Part as OfPart, Unsatisfiable as OfNone}
use Rattle.pp_valid.specs.Conditions.{matches_none, not_modified_since}
use Rattle.pp_world.specs.declared.note.Decision.{Decision}
use Rattle.pp_world.specs.declared.note.Decision.TheVariants.{Refuse, Hit, Part, Head, NotModified, Unsatisfiable, Relay, Validate, Fetch, Pass}
use Rattle.pp_plan.specs.Requests.{is_conditional, is_connect, is_get, is_head, never_uses}
use Rattle.pp_plan.specs.Row.{Row}
use Rattle.pp_plan.specs.Spans.{resolved}
use Rattle.pp_plan.specs.declared.table.Begun.{Begun}
use Rattle.pp_plan.specs.declared.table.Begun.TheVariants.{Nothing, Settled, Other, Widened}

abbrev pub either : Option Bool → Bool → Bool
either None other = other
either (Some this) other = this

-- "A recipient MUST ignore If-Modified-Since if the request contains an If-None-Match header field" (RFC 7232,
-- section 3.3)
abbrev pub is_not_modified : Request → Row → Bool
is_not_modified request row = either (matches_none request.fields row.version.tag) (not_modified_since request.fields row.fields)

-- the bytes of the span that the reply would show are held, or have to be asked for
abbrev pub by_range : Bool → ℕ → Resolved → Decision
by_range held length OfNone = Unsatisfiable  -- 11
by_range true length (OfPart from to) = Hit from to  -- 12
by_range false length (OfPart from to) = Part from to  -- 13
by_range true length OfAll = Hit 0 length  -- 14
by_range false length OfAll = Part 0 length  -- 15

-- the row is ready
abbrev pub of_known : Request → Row → Decision
of_known request row =
    if is_not_modified request row then NotModified  -- 9
    else (if is_head request.method then Head  -- 10
    else by_range row.held row.version.length (resolved request.fields row.version))

-- ours: without a row, what may be less than a whole is not shared
abbrev pub by_row : Request → Option Row → Bool → Decision
by_row request None ready =
    if is_conditional request.fields then Pass  -- 6
    else Fetch  -- 7
by_row request (Some row) ready =
    if not ready then Validate  -- 8
    else of_known request row

-- ours: what HEAD would show is not kept
abbrev pub by_ready : Request → Option Row → Bool → Decision
by_ready request row ready =
    if is_head request.method && not ready then Pass  -- 5
    else by_row request row ready

abbrev pub by_begun : Request → Option Row → Begun → Bool → Decision
by_begun request row Other ready = Relay  -- 3
by_begun request row Widened ready = Pass  -- 4
by_begun request row Nothing ready = by_ready request row ready
by_begun request row Settled ready = by_ready request row ready

abbrev pub line : Request → Option Row → Begun → Bool → Decision
line request row begun ready =
    if not (is_get request.method || is_head request.method) then Pass  -- 1
    else (if never_uses request.fields then Pass  -- 2
    else by_begun request row begun ready)

abbrev pub is_settled : Begun → Bool
is_settled Nothing = false
is_settled Settled = true
is_settled Other = false
is_settled Widened = false

-- the row may answer without a word from the origin, or the origin was asked; ours: one that forbids sharing never does
abbrev pub is_ready_row : Request → Option Row → Begun → ℕ → Bool
is_ready_row request None begun now = false
is_ready_row request (Some row) begun now =
    (is_settled begun && may_store row.fields) || is_ready request.fields row.fields row.times now

abbrev pub asks_origin : Decision → Bool
asks_origin (Refuse status) = false
asks_origin (Hit from to) = false
asks_origin (Part from to) = true
asks_origin Head = false
asks_origin NotModified = false
asks_origin Unsatisfiable = false
asks_origin Relay = false
asks_origin Validate = true
asks_origin Fetch = true
asks_origin Pass = true

abbrev pub is_only_cached : Request → Bool
is_only_cached request =
    (is_get request.method || is_head request.method) && (directives_of request.fields).only_if_cached

-- "it SHOULD either respond using a cached entry that is consistent with the other constraints of the request, or
-- respond with a 504 (Gateway Timeout) status" (RFC 2616, section 14.9.4)
-- ours: a CONNECT that has a key did not name its target by host and port alone, and is refused
abbrev pub decision : Request → Option Row → Begun → ℕ → Decision
decision request row begun now =
    let first = line request row begun (is_ready_row request row begun now) in
    if is_connect request.method then Refuse 400
    else (if is_only_cached request && asks_origin first then Refuse 504
    else first)
