-- Requests for http://h/a, and what is known of the row of its key, for worked decisions.
use Rattle.std.proofs.Common.{ℕ, ◌+◌, Bool, true, List, [], ◌∷◌, ◌++◌, Option, Some, None, codes}
use Rattle.pp_text.specs.Fields.{Field}
use Rattle.pp_head.specs.Request.{Request}
use Rattle.pp_fresh.specs.declared.aging.Times.{Times}
use Rattle.pp_valid.specs.declared.version.Version.{Version}
use Rattle.pp_world.specs.declared.note.Decision.{Decision}
use Rattle.pp_plan.specs.Decision.{decision}
use Rattle.pp_plan.specs.Fetch.{fetch_range}
use Rattle.pp_plan.specs.Row.{Row}
use Rattle.pp_plan.specs.Spans.{resolved, span_in}
use Rattle.pp_plan.specs.declared.table.Begun.{Begun}

-- Sun, 06 Nov 1994 08:49:37 GMT, when the kept response came
abbrev pub came : ℕ
came = 784111777

-- what is known of the row, and the second of the decision
abbrev pub Known : Type 0
Known = Option Row × ℕ

abbrev pub kept : List ℕ → ℕ → List Field → ℕ → Bool → Known
kept tag length fields age held =
    let version : Version = record { tag = tag; length = length } in
    let times : Times = record { request = came; response = came; initial = 0; may_guess = true } in
    (Some (record { version = version; fields = fields; times = times; held = held }), came + age)

abbrev pub absent : Known
absent = (None, came)

abbrev pub minute : Field
minute = (codes "Cache-Control", codes "max-age=60")

abbrev pub dates : List Field
dates = (codes "Date", codes "Sun, 06 Nov 1994 08:49:37 GMT") ∷ (codes "Last-Modified", codes "Sat, 05 Nov 1994 08:49:37 GMT") ∷ []

-- a response of ten bytes that is fresh for a minute, so many seconds after it came
abbrev pub fresh : ℕ → Bool → Known
fresh age held = kept (codes "\"x\"") 10 (dates ++ (minute ∷ [])) age held

abbrev pub empty : Known
empty = kept (codes "\"x\"") 0 (dates ++ (minute ∷ [])) 10 true

abbrev pub undated : Known
undated = kept (codes "\"x\"") 10 (minute ∷ []) 10 true

abbrev pub checked : Known
checked = kept (codes "\"x\"") 10 ((codes "Cache-Control", codes "max-age=60, no-cache") ∷ []) 10 true

-- a fresh response that has this field too
abbrev pub with : Field → Known
with field = kept (codes "\"x\"") 10 (minute ∷ field ∷ []) 10 true

abbrev pub request : List ℕ → List Field → Request
request method fields = record { method = method; target = codes "http://h/a"; minor = 1; fields = fields; length = 99 }

abbrev pub get : List Field → Begun → Known → Decision
get fields begun known = decision (request (codes "GET") fields) known.0 begun known.1

-- the decision, and that with `only-if-cached` (RFC 2616, section 14.9.4)
abbrev pub both : List ℕ → List Field → Begun → Known → Decision × Decision
both method fields begun known =
    let only = (codes "Cache-Control", codes "only-if-cached") ∷ [] in
    (decision (request method fields) known.0 begun known.1, decision (request method (fields ++ only)) known.0 begun known.1)

-- the image of RFC 7233, section 4.1, with this tag and so many bytes
abbrev pub image : List ℕ → ℕ → Known
image tag length =
    let dates = (codes "Date", codes "Wed, 15 Nov 1995 06:25:24 GMT") ∷ (codes "Last-Modified", codes "Wed, 15 Nov 1995 04:58:08 GMT") ∷ [] in
    kept tag length (dates ++ (minute ∷ [])) 0 true

-- the span of a reply for a body of this length under the tag "x", and the range to fetch where nothing is known
abbrev pub spans : List Field → ℕ → (ℕ × ℕ) × Option (ℕ × Option ℕ)
spans fields length = (span_in length (resolved fields (record { tag = codes "\"x\""; length = length })), fetch_range fields)
