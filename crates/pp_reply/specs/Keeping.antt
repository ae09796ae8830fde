-- Whether a client's connection goes on (RFC 2616, sections 8.1 and 14.10), and what a request expects
-- (section 8.2.3).
use Rattle.std.specs.Prelude.{ℕ, Bool, true, false, ◌==◌, ◌&&◌, ◌||◌, not, nat_lt, List, codes}
use Rattle.pp_text.specs.Fields.{Field, has_item}
use Rattle.pp_framing.specs.declared.body.BodyRule.{BodyRule}
use Rattle.pp_framing.specs.declared.body.BodyRule.TheVariants.{Empty, Length, Chunked, ToEnd}

abbrev pub is_old : ℕ → Bool
is_old minor = minor == 0

-- "unless .. a Connection header including the connection-token "close" was sent in the request"; before
-- HTTP/1.1 (section 19.6.2) only where the client asks for it; ours: in the older Proxy-Connection too
abbrev pub is_kept_open : ℕ → List Field → Bool
is_kept_open minor fields = elim (is_old minor) [
  | true ↦ has_item (codes "connection") (codes "keep-alive") fields || has_item (codes "proxy-connection") (codes "keep-alive") fields
  | false ↦ not (has_item (codes "connection") (codes "close") fields)
]

-- the client knows the end of a reply whose response has a body by this rule: HTTP/1.0 has no chunks, so
-- that only the end of the connection can tell it
abbrev pub is_end_known : BodyRule → ℕ → Bool
is_end_known Empty minor = true
is_end_known (Length n) minor = true
is_end_known Chunked minor = not (is_old minor)
is_end_known ToEnd minor = not (is_old minor)

abbrev pub has_body : BodyRule → Bool
has_body Empty = false
has_body (Length n) = nat_lt 0 n
has_body Chunked = true
has_body ToEnd = true

-- a request "which includes an Expect request-header field with the "100-continue" expectation"; "MUST NOT
-- send a 100 (Continue) response if .. HTTP/1.0"; none that has no body waits for it
abbrev pub wants_interim : ℕ → BodyRule → List Field → Bool
wants_interim minor rule fields = not (is_old minor) && (has_body rule && has_item (codes "expect") (codes "100-continue") fields)

-- the interim answer
abbrev pub interim : List ℕ
interim = codes "HTTP/1.1 100 Continue\r\n\r\n"
