-- Worked asks, from what a client sent to what an origin is asked (RFC 2616, sections 5.1.2 and 13.5.1; RFC 7232, section 3.2; RFC 7233,
-- sections 2.1 and 3.2).
use Rattle.std.proofs.Common.{refl, ℕ, List, [], ◌∷◌, ◌++◌, length, Option, Some, None, option_map, Result, Ok, Err, codes, replicate, Bor}
use Rattle.pp_text.proofs.Table.{Rows}
use Rattle.pp_head.proofs.OnLiterals.{pp_head_on_literals}
use Rattle.pp_head.specs.Read.{Read, Whole as IsWhole, TooLong, Bad, More}
use Rattle.pp_head.specs.Request.{Request, request_at}
use Rattle.pp_target.proofs.OnLiterals.{pp_target_on_literals}
use Rattle.pp_target.specs.Key.{Key, key_at}
use Rattle.pp_target.specs.declared.target.TargetFault.{TargetFault}
use Rattle.pp_ask.specs.Texts.{ask_text}
use Rattle.pp_ask.specs.declared.kind.AskKind.{AskKind}
use Rattle.pp_ask.specs.declared.kind.AskKind.TheVariants.{Whole, Range, Hole, Check, Pass}

abbrev tag : List ℕ → Bor (List ℕ)
tag text = record { ref_ptr = (0, 0); now = text }

-- the ask for the request of a client, under the name `polipo`
abbrev for_key : AskKind → Request → Result Key TargetFault → Option (List ℕ)
for_key kind request (Ok key) = Some (ask_text kind request key (codes "polipo"))
for_key kind request (Err fault) = None

abbrev for_request : AskKind → Read Request → Option (List ℕ)
for_request kind (IsWhole request) = for_key kind request (key_at request.target)
for_request kind TooLong = None
for_request kind Bad = None
for_request kind More = None

abbrev asked : AskKind × List ℕ → Option (List ℕ)
asked t = for_request t.0 (request_at t.1)

an_ask_has_the_lines_of_its_kind : Rows asked (
    ((Whole, codes "GET http://h/a HTTP/1.1\r\nHost: h\r\n\r\n"), Some (codes "GET /a HTTP/1.1\r\nhost: h\r\nvia: 1.1 polipo\r\n\r\n"))
    ∷ ((Hole 4096 8191 (tag (codes "\"x\"")), codes "GET http://h/b HTTP/1.1\r\nHost: h\r\n\r\n"), Some (codes "GET /b HTTP/1.1\r\nhost: h\r\nrange: bytes=4096-8191\r\nif-range: \"x\"\r\nvia: 1.1 polipo\r\n\r\n"))
    ∷ ((Range 4096 (Some 5999), codes "GET http://h/d HTTP/1.1\r\nHost: h\r\nRange: bytes=5000-5999\r\n\r\n"), Some (codes "GET /d HTTP/1.1\r\nhost: h\r\nrange: bytes=4096-5999\r\nvia: 1.1 polipo\r\n\r\n"))
    ∷ ((Range 0 None, codes "GET http://h/d HTTP/1.1\r\nHost: h\r\nRange: bytes=5-\r\n\r\n"), Some (codes "GET /d HTTP/1.1\r\nhost: h\r\nrange: bytes=0-\r\nvia: 1.1 polipo\r\n\r\n"))
    ∷ ((Check (tag (codes "\"x\"")), codes "GET http://h/a HTTP/1.1\r\nHost: h\r\n\r\n"), Some (codes "GET /a HTTP/1.1\r\nhost: h\r\nif-none-match: \"x\"\r\nvia: 1.1 polipo\r\n\r\n"))
    ∷ ((Pass, codes "POST http://h/p HTTP/1.1\r\nHost: h\r\nContent-Length: 3\r\nExpect: 100-continue\r\n\r\n"), Some (codes "POST /p HTTP/1.1\r\nhost: h\r\ncontent-length: 3\r\nvia: 1.1 polipo\r\n\r\n"))
    ∷ ((Pass, codes "HEAD http://h:8080?q HTTP/1.0\r\n\r\n"), Some (codes "HEAD /?q HTTP/1.1\r\nhost: h:8080\r\nvia: 1.1 polipo\r\n\r\n"))
    ∷ [])
unfolding pp_head_on_literals pp_target_on_literals
an_ask_has_the_lines_of_its_kind = refl

-- the first of two clients that ask for parts of one body, and the second once the row is known; the rest of a body whose origin ended
-- early; a check, a fetch, codings with a hole and with other asks (RFC 9110, section 12.5.3), and the request as it came
what_the_client_asks_of_its_copy_is_left_out : Rows asked (
    ((Range 0 (Some 4095), codes "GET http://h/b HTTP/1.1\r\nHost: h\r\nRange: bytes=0-4095\r\n\r\n"), Some (codes "GET /b HTTP/1.1\r\nhost: h\r\nrange: bytes=0-4095\r\nvia: 1.1 polipo\r\n\r\n"))
    ∷ ((Hole 8192 12287 (tag (codes "\"x\"")), codes "GET http://h/b HTTP/1.1\r\nHost: h\r\nRange: bytes=8192-12287\r\n\r\n"), Some (codes "GET /b HTTP/1.1\r\nhost: h\r\nrange: bytes=8192-12287\r\nif-range: \"x\"\r\nvia: 1.1 polipo\r\n\r\n"))
    ∷ ((Hole 7 9 (tag (codes "\"x\"")), codes "GET http://h/a HTTP/1.1\r\nHost: h\r\n\r\n"), Some (codes "GET /a HTTP/1.1\r\nhost: h\r\nrange: bytes=7-9\r\nif-range: \"x\"\r\nvia: 1.1 polipo\r\n\r\n"))
    ∷ ((Check (tag (codes "\"x\"")), codes "GET http://h/a HTTP/1.1\r\nHost: h\r\nIf-None-Match: \"y\"\r\nIf-Modified-Since: Sat, 29 Oct 1994 19:43:31 GMT\r\n\r\n"), Some (codes "GET /a HTTP/1.1\r\nhost: h\r\nif-none-match: \"x\"\r\nvia: 1.1 polipo\r\n\r\n"))
    ∷ ((Whole, codes "GET http://h/d HTTP/1.1\r\nHost: h\r\nRange: bytes=5000-5999\r\nIf-Range: \"x\"\r\n\r\n"), Some (codes "GET /d HTTP/1.1\r\nhost: h\r\nvia: 1.1 polipo\r\n\r\n"))
    ∷ ((Hole 4096 8191 (tag (codes "\"x\"")), codes "GET http://h/b HTTP/1.1\r\nHost: h\r\nAccept-Encoding: gzip\r\nAccept: a\r\nACCEPT-ENCODING: br\r\n\r\n"), Some (codes "GET /b HTTP/1.1\r\nhost: h\r\naccept: a\r\nrange: bytes=4096-8191\r\nif-range: \"x\"\r\nvia: 1.1 polipo\r\n\r\n"))
    ∷ ((Range 4096 (Some 5999), codes "GET http://h/d HTTP/1.1\r\nHost: h\r\nRange: bytes=5000-5999\r\nAccept-Encoding: gzip\r\n\r\n"), Some (codes "GET /d HTTP/1.1\r\nhost: h\r\naccept-encoding: gzip\r\nrange: bytes=4096-5999\r\nvia: 1.1 polipo\r\n\r\n"))
    ∷ ((Check (tag (codes "\"x\"")), codes "GET http://h/a HTTP/1.1\r\nHost: h\r\nAccept-Encoding: gzip\r\n\r\n"), Some (codes "GET /a HTTP/1.1\r\nhost: h\r\naccept-encoding: gzip\r\nif-none-match: \"x\"\r\nvia: 1.1 polipo\r\n\r\n"))
    ∷ ((Pass, codes "GET http://h/d HTTP/1.1\r\nHost: h\r\nRange: bytes=5000-5999\r\n\r\n"), Some (codes "GET /d HTTP/1.1\r\nhost: h\r\nrange: bytes=5000-5999\r\nvia: 1.1 polipo\r\n\r\n"))
    ∷ [])
unfolding pp_head_on_literals pp_target_on_literals
what_the_client_asks_of_its_copy_is_left_out = refl

-- RFC 2616, section 5.1.2; RFC 7232, sections 2.3.3 and 3.2; RFC 7233, sections 3.2 and 4.1; RFC 7232, section 3.1
requests_of_the_standards_are_asked_of_their_origin : Rows asked (
    ((Whole, codes "GET http://www.w3.org/pub/WWW/TheProject.html HTTP/1.1\r\n\r\n"), Some (codes "GET /pub/WWW/TheProject.html HTTP/1.1\r\nhost: www.w3.org\r\nvia: 1.1 polipo\r\n\r\n"))
    ∷ ((Whole, codes "GET http://www.example.com/index HTTP/1.1\r\nHost: www.example.com\r\nAccept-Encoding: gzip\r\n\r\n"), Some (codes "GET /index HTTP/1.1\r\nhost: www.example.com\r\naccept-encoding: gzip\r\nvia: 1.1 polipo\r\n\r\n"))
    ∷ ((Check (tag (codes "\"xyzzy\"")), codes "GET http://www.example.com/ HTTP/1.1\r\nHost: www.example.com\r\n\r\n"), Some (codes "GET / HTTP/1.1\r\nhost: www.example.com\r\nif-none-match: \"xyzzy\"\r\nvia: 1.1 polipo\r\n\r\n"))
    ∷ ((Hole 21010 47021 (tag (codes "\"xyzzy\"")), codes "GET http://www.example.com/ HTTP/1.1\r\nHost: www.example.com\r\n\r\n"), Some (codes "GET / HTTP/1.1\r\nhost: www.example.com\r\nrange: bytes=21010-47021\r\nif-range: \"xyzzy\"\r\nvia: 1.1 polipo\r\n\r\n"))
    ∷ ((Pass, codes "PUT http://www.example.com/ HTTP/1.1\r\nHost: www.example.com\r\nIf-Match: \"xyzzy\", \"r2d2xxxx\"\r\nContent-Length: 300\r\nCookie: a=b\r\n\r\n"), Some (codes "PUT / HTTP/1.1\r\nhost: www.example.com\r\nif-match: \"xyzzy\", \"r2d2xxxx\"\r\ncookie: a=b\r\ncontent-length: 300\r\nvia: 1.1 polipo\r\n\r\n"))
    ∷ [])
unfolding pp_head_on_literals pp_target_on_literals
requests_of_the_standards_are_asked_of_their_origin = refl

-- a request with this line, whole and as it came
abbrev with_line : List ℕ → Option (List ℕ) × Option (List ℕ)
with_line line =
    let received = codes "GET http://h/a HTTP/1.1\r\n" ++ (line ++ codes "\r\nB: c\r\n\r\n") in
    (asked (Whole, received), asked (Pass, received))

abbrev without_line : Option (List ℕ)
without_line = Some (codes "GET /a HTTP/1.1\r\nhost: h\r\nb: c\r\nvia: 1.1 polipo\r\n\r\n")

lines_for_the_next_hop_go_no_further : Rows with_line (
    (codes "Connection: x", (without_line, without_line))
    ∷ (codes "KEEP-ALIVE: 5", (without_line, without_line))
    ∷ (codes "Proxy-Authenticate: Basic", (without_line, without_line))
    ∷ (codes "Proxy-Authorization: Basic a", (without_line, without_line))
    ∷ (codes "Proxy-Connection: keep-alive", (without_line, without_line))
    ∷ (codes "TE: trailers", (without_line, without_line))
    ∷ (codes "Trailer: a", (without_line, without_line))
    ∷ (codes "Transfer-Encoding: identity", (without_line, without_line))
    ∷ (codes "Upgrade: a", (without_line, without_line))
    ∷ (codes "X-Polipo-A: b", (without_line, without_line))
    ∷ (codes "A: b\r\nConnection: c, A", (without_line, without_line))
    ∷ (codes "Host: other\r\nExpect: 100-continue", (without_line, without_line))
    ∷ [])
unfolding pp_head_on_literals pp_target_on_literals
lines_for_the_next_hop_go_no_further = refl

fields_of_the_connection_stay_and_those_of_the_client_go_on : Rows asked (
    ((Whole, codes "GET http://H:81/a?b#c HTTP/1.1\r\nHOST: other\r\nAccept: a\r\nRange: bytes=1-2\r\nIF-RANGE: \"y\"\r\nIf-None-Match: \"z\"\r\nIf-Modified-Since: Sun, 06 Nov 1994 08:49:37 GMT\r\nConnection: X-A, close\r\nx-a: 1\r\nX-Polipo-B: 2\r\nTE: trailers\r\nProxy-Authorization: p\r\nContent-Length: 000\r\nVia: 1.0 c\r\nExpect: 100-continue\r\nAccept: b\r\n\r\n"), Some (codes "GET /a?b HTTP/1.1\r\nhost: h:81\r\naccept: a\r\nvia: 1.0 c\r\naccept: b\r\nvia: 1.1 polipo\r\n\r\n"))
    ∷ ((Pass, codes "GET http://H:81/a?b#c HTTP/1.1\r\nHOST: other\r\nAccept: a\r\nRange: bytes=1-2\r\nIF-RANGE: \"y\"\r\nIf-None-Match: \"z\"\r\nIf-Modified-Since: Sun, 06 Nov 1994 08:49:37 GMT\r\nConnection: X-A, close\r\nx-a: 1\r\nX-Polipo-B: 2\r\nTE: trailers\r\nProxy-Authorization: p\r\nContent-Length: 000\r\nVia: 1.0 c\r\nExpect: 100-continue\r\nAccept: b\r\n\r\n"), Some (codes "GET /a?b HTTP/1.1\r\nhost: h:81\r\naccept: a\r\nrange: bytes=1-2\r\nif-range: \"y\"\r\nif-none-match: \"z\"\r\nif-modified-since: Sun, 06 Nov 1994 08:49:37 GMT\r\nvia: 1.0 c\r\naccept: b\r\ncontent-length: 0\r\nvia: 1.1 polipo\r\n\r\n"))
    ∷ [])
unfolding pp_head_on_literals pp_target_on_literals
fields_of_the_connection_stay_and_those_of_the_client_go_on = refl

-- without the value there are 50 bytes
abbrev size_of : ℕ → Option ℕ
size_of n = option_map length (asked (Whole, codes "GET http://h/a HTTP/1.1\r\na: " ++ (replicate n 118 ++ codes "\r\n\r\n")))

an_ask_of_16384_bytes_fits : Rows size_of (
    (1, Some 51)
    ∷ (16334, Some 16384)
    ∷ [])
unfolding pp_head_on_literals pp_target_on_literals
an_ask_of_16384_bytes_fits = refl
