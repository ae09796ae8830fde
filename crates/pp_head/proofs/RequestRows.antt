-- Worked heads of requests (RFC 2616, sections 4, 5 and 19.3).
use Rattle.std.proofs.Common.{refl, ℕ, zero, suc, ◌-◌, List, [], ◌∷◌, ◌++◌, length, take, codes, replicate}
use Rattle.pp_text.proofs.Table.{Rows}
use Rattle.pp_head.proofs.OnLiterals.{pp_head_on_literals}
use Rattle.pp_head.specs.Read.{Read, Whole, TooLong, Bad, More}
use Rattle.pp_head.specs.Request.{Request, request_at}

abbrev request : List ℕ → List ℕ → ℕ → List (List ℕ × List ℕ) → ℕ → Read Request
request method target minor fields length = Whole (record { method = method; target = target; minor = minor; fields = fields; length = length })

-- what follows the head is not read; a line may end in LF alone; empty lines may stand before the request line; blanks at the ends
-- of a value are no part of it; the same name may come twice; a method is any token, and a target any visible bytes that are UTF-8
a_whole_request_is_read : Rows request_at (
    (codes "GET http://h/a HTTP/1.1\r\nHost: h\r\n\r\n", request (codes "GET") (codes "http://h/a") 1 ((codes "Host", codes "h") ∷ []) 36)
    ∷ (codes "GET http://h/c HTTP/1.0\r\n\r\n", request (codes "GET") (codes "http://h/c") 0 [] 27)
    ∷ (codes "GET http://h/a HTTP/1.1\r\nHost: h\r\n\r\nnext", request (codes "GET") (codes "http://h/a") 1 ((codes "Host", codes "h") ∷ []) 36)
    ∷ (codes "HEAD /a HTTP/1.1\r\n\r\nGET " ++ (255 ∷ []), request (codes "HEAD") (codes "/a") 1 [] 20)
    ∷ (codes "GET /a HTTP/1.1\nHost: h\r\n\n", request (codes "GET") (codes "/a") 1 ((codes "Host", codes "h") ∷ []) 26)
    ∷ (codes "\r\n\n\r\nGET /a HTTP/1.1\r\n\r\n", request (codes "GET") (codes "/a") 1 [] 24)
    ∷ (codes "GET /a HTTP/1.1\r\nA: \t x \ty\t \r\nB:\r\nc:" ++ (128 ∷ codes "\r\n\r\n"), request (codes "GET") (codes "/a") 1 ((codes "A", codes "x \ty") ∷ (codes "B", codes "") ∷ (codes "c", 128 ∷ []) ∷ []) 41)
    ∷ (codes "GET /a HTTP/1.1\r\na: 1\r\nA: 2\r\n\r\n", request (codes "GET") (codes "/a") 1 ((codes "a", codes "1") ∷ (codes "A", codes "2") ∷ []) 31)
    ∷ (codes "OPTIONS * HTTP/1.1\r\n\r\n", request (codes "OPTIONS") (codes "*") 1 [] 22)
    ∷ (codes "m!~ " ++ (195 ∷ 169 ∷ codes " HTTP/1.1\r\n\r\n"), request (codes "m!~") (195 ∷ 169 ∷ []) 1 [] 19)
    ∷ (codes "POST http://h:8/p?q=1 HTTP/1.1\r\nContent-Length: 3\r\n\r\nabc", request (codes "POST") (codes "http://h:8/p?q=1") 1 ((codes "Content-Length", codes "3") ∷ []) 53)
    ∷ [])
unfolding pp_head_on_literals
a_whole_request_is_read = refl

-- a later version, none, one in lower case; no method, no target, a response; a target that is not UTF-8, with a control byte, with
-- DEL; a control byte in a value, a folded line, a blank before the colon; no name, no colon, CR alone
what_no_bytes_make_a_request_is_bad : Rows request_at (
    (codes "GET /a HTTP/2.0\r\n", Bad)
    ∷ (codes "GET http://h/a HTTP/2", Bad)
    ∷ (codes "GET /a HTTP/1.2", Bad)
    ∷ (codes "GET /a\r\n", Bad)
    ∷ (codes "GET /a h", Bad)
    ∷ (codes " /a HTTP/1.1\r\n\r\n", Bad)
    ∷ (codes "GET  HTTP/1.1\r\n\r\n", Bad)
    ∷ (codes "HTTP/1.1 200 OK\r\n\r\n", Bad)
    ∷ (codes "GET /" ++ (255 ∷ codes " HTTP/1.1\r\n\r\n"), Bad)
    ∷ (codes "GET /" ++ (1 ∷ []), Bad)
    ∷ (codes "GET /" ++ (127 ∷ []), Bad)
    ∷ (codes "GET /a HTTP/1.1\r\nA: " ++ (0 ∷ []), Bad)
    ∷ (codes "GET /a HTTP/1.1\r\nA: b\r\n c\r\n\r\n", Bad)
    ∷ (codes "GET /a HTTP/1.1\r\nA : b\r\n\r\n", Bad)
    ∷ (codes "GET /a HTTP/1.1\r\n: b\r\n\r\n", Bad)
    ∷ (codes "GET /a HTTP/1.1\r\nHost\r\n\r\n", Bad)
    ∷ (codes "GET /a HTTP/1.1\rA: b\r\n\r\n", Bad)
    ∷ [])
unfolding pp_head_on_literals
what_no_bytes_make_a_request_is_bad = refl

a_target_is_judged_once_it_has_ended : Rows request_at (
    (codes "GET ", More)
    ∷ (codes "GET http://h/a", More)
    ∷ (codes "GET /" ++ (195 ∷ []), More)
    ∷ (codes "\r\nGET /" ++ (255 ∷ []), More)
    ∷ (codes "GET /" ++ (255 ∷ codes " "), Bad)
    ∷ (codes "GET /" ++ (195 ∷ 169 ∷ codes " "), More)
    ∷ [])
unfolding pp_head_on_literals
a_target_is_judged_once_it_has_ended = refl

abbrev cut : List ℕ
cut = codes "\r\nGET http://h/" ++ (195 ∷ 169 ∷ codes " HTTP/1.1\r\nHost: h\r\nA:\n\r\n")

-- the answers to the first so many bytes, but one, and so on
abbrev cuts : ℕ → List (Read Request)
cuts zero = []
cuts (suc n) = request_at (take n cut) ∷ cuts n

a_request_is_more_until_its_last_byte : Rows cuts (
    (42, replicate 42 More)
    ∷ (43, request (codes "GET") (codes "http://h/" ++ (195 ∷ 169 ∷ [])) 1 ((codes "Host", codes "h") ∷ (codes "A", codes "") ∷ []) 42 ∷ replicate 42 More)
    ∷ [])
unfolding pp_head_on_literals
a_request_is_more_until_its_last_byte = refl

-- ---- limits

-- the state, the length and the number of fields
abbrev sized : Read Request → Read (ℕ × ℕ)
sized (Whole r) = Whole (r.length, length r.fields)
sized TooLong = TooLong
sized Bad = Bad
sized More = More

abbrev lines : ℕ → List ℕ
lines zero = []
lines (suc n) = codes "a: b\r\n" ++ lines n

-- empty lines before the request line count; what is no field is not looked at once a limit is reached
a_request_has_at_most_100_fields_and_102_line_ends : Rows (λ (t : List ℕ × ℕ × List ℕ). sized (request_at (t.0 ++ (codes "GET http://h/a HTTP/1.1\r\n" ++ (lines t.1 ++ t.2))))) (
    ((codes "", 100, codes "\r\n"), Whole (627, 100))
    ∷ ((codes "", 100, codes ""), More)
    ∷ ((codes "", 100, codes "\r"), More)
    ∷ ((codes "", 101, codes ""), TooLong)
    ∷ ((codes "", 101, codes "\r\n"), TooLong)
    ∷ ((codes "\n", 99, codes "\r\n"), Whole (622, 99))
    ∷ ((codes "\n", 100, codes "\r\n"), TooLong)
    ∷ ((codes "", 101, 1 ∷ []), TooLong)
    ∷ [])
unfolding pp_head_on_literals
a_request_has_at_most_100_fields_and_102_line_ends = refl

-- a request of one field that is so many bytes long with what follows
a_request_has_at_most_16384_bytes : Rows (λ (t : ℕ × List ℕ). sized (request_at (codes "GET /a HTTP/1.1\r\nA: " ++ (replicate (t.0 - 20 - length t.1) 118 ++ t.1)))) (
    ((16383, codes "\r\n\r\n"), Whole (16383, 1))
    ∷ ((16384, codes "\r\n\r\n"), Whole (16384, 1))
    ∷ ((16385, codes "\r\n\r\n"), TooLong)
    ∷ ((16383, codes "\r\n\r"), More)
    ∷ ((16384, codes "\r\n\r"), TooLong)
    ∷ ((16383, codes "\r\n" ++ (1 ∷ [])), Bad)
    ∷ [])
unfolding pp_head_on_literals
a_request_has_at_most_16384_bytes = refl
