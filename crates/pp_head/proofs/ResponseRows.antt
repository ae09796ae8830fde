-- Worked heads of responses (RFC 2616, sections 4, 6 and 19.3).
use Rattle.std.proofs.Common.{refl, ℕ, zero, suc, ◌-◌, List, [], ◌∷◌, ◌++◌, length, take, codes, replicate}
use Rattle.pp_text.proofs.Table.{Rows}
use Rattle.pp_head.proofs.OnLiterals.{pp_head_on_literals}
use Rattle.pp_head.specs.Read.{Read, Whole, TooLong, Bad, More}
use Rattle.pp_head.specs.Response.{Response, response_at}

abbrev response : ℕ → ℕ → List ℕ → List (List ℕ × List ℕ) → ℕ → Read Response
response minor status reason fields length = Whole (record { minor = minor; status = status; reason = reason; fields = fields; length = length })

-- the phrase may be empty, and the space before it may be left out; its blanks are its own; any three digits are a status here; empty
-- lines may stand before the status line
a_whole_response_is_read : Rows response_at (
    (codes "HTTP/1.1 200 OK\r\nETag: \"x\"\r\nContent-Length: 5\r\n\r\nhello", response 1 200 (codes "OK") ((codes "ETag", codes "\"x\"") ∷ (codes "Content-Length", codes "5") ∷ []) 49)
    ∷ (codes "HTTP/1.0 404 Not Found\n\n", response 0 404 (codes "Not Found") [] 24)
    ∷ (codes "HTTP/1.1 200 \r\n\r\n", response 1 200 (codes "") [] 17)
    ∷ (codes "HTTP/1.1 304\r\nA: b\r\n\r\n", response 1 304 (codes "") ((codes "A", codes "b") ∷ []) 22)
    ∷ (codes "HTTP/1.1 200  a\t \r\n\r\n", response 1 200 (codes " a\t ") [] 21)
    ∷ (codes "HTTP/1.1 099 x\r\n\r\n", response 1 99 (codes "x") [] 18)
    ∷ (codes "HTTP/1.1 999 " ++ (255 ∷ codes "\r\n\r\n"), response 1 999 (255 ∷ []) [] 18)
    ∷ (codes "\r\n\nHTTP/1.1 200 OK\r\n\r\n", response 1 200 (codes "OK") [] 22)
    ∷ [])
unfolding pp_head_on_literals
a_whole_response_is_read = refl

-- a later version; a request; two digits, four, none; a control byte in the phrase, in a value; a folded line, a blank before the colon,
-- CR alone
what_no_bytes_make_a_response_is_bad : Rows response_at (
    (codes "HTTP/2 200 OK\r\n\r\n", Bad)
    ∷ (codes "HTTP/1.2", Bad)
    ∷ (codes "GET /a HTTP/1.1\r\n\r\n", Bad)
    ∷ (codes "HTTP/1.1 20 OK\r\n\r\n", Bad)
    ∷ (codes "HTTP/1.1 2000 OK\r\n\r\n", Bad)
    ∷ (codes "HTTP/1.1\r\n\r\n", Bad)
    ∷ (codes "HTTP/1.1 200 O" ++ (1 ∷ []), Bad)
    ∷ (codes "HTTP/1.1 200 OK\r\nA: " ++ (127 ∷ []), Bad)
    ∷ (codes "HTTP/1.1 200 OK\r\nA: b\r\n\tc\r\n\r\n", Bad)
    ∷ (codes "HTTP/1.1 200 OK\r\nA : b\r\n\r\n", Bad)
    ∷ (codes "HTTP/1.1 200 OK\rA: b\r\n\r\n", Bad)
    ∷ [])
unfolding pp_head_on_literals
what_no_bytes_make_a_response_is_bad = refl

abbrev cut : List ℕ
cut = codes "\r\nHTTP/1.1 200 OK\r\nETag: \"x\"\r\nA:\n\r\n"

-- the answers to the first so many bytes, but one, and so on
abbrev cuts : ℕ → List (Read Response)
cuts zero = []
cuts (suc n) = response_at (take n cut) ∷ cuts n

a_response_is_more_until_its_last_byte : Rows cuts (
    (35, replicate 35 More)
    ∷ (36, response 1 200 (codes "OK") ((codes "ETag", codes "\"x\"") ∷ (codes "A", codes "") ∷ []) 35 ∷ replicate 35 More)
    ∷ [])
unfolding pp_head_on_literals
a_response_is_more_until_its_last_byte = refl

-- ---- limits

-- the state, the length and the number of fields
abbrev sized : Read Response → Read (ℕ × ℕ)
sized (Whole r) = Whole (r.length, length r.fields)
sized TooLong = TooLong
sized Bad = Bad
sized More = More

abbrev lines : ℕ → List ℕ
lines zero = []
lines (suc n) = codes "a: b\r\n" ++ lines n

a_response_has_at_most_100_fields : Rows (λ (t : ℕ × List ℕ). sized (response_at (codes "HTTP/1.1 200 OK\r\n" ++ (lines t.0 ++ t.1)))) (
    ((100, codes "\r\n"), Whole (619, 100))
    ∷ ((100, codes ""), More)
    ∷ ((101, codes ""), TooLong)
    ∷ ((101, codes "\r\n"), TooLong)
    ∷ [])
unfolding pp_head_on_literals
a_response_has_at_most_100_fields = refl

-- a response of one field that is so many bytes long with what follows
a_response_has_at_most_16384_bytes : Rows (λ (t : ℕ × List ℕ). sized (response_at (codes "HTTP/1.1 200 OK\r\nA:" ++ (replicate (t.0 - 19 - length t.1) 118 ++ t.1)))) (
    ((16384, codes "\r\n\r\n"), Whole (16384, 1))
    ∷ ((16385, codes "\r\n\r\n"), TooLong)
    ∷ ((16383, codes "\r\n\r"), More)
    ∷ ((16384, codes "\r\n\r"), TooLong)
    ∷ [])
unfolding pp_head_on_literals
a_response_has_at_most_16384_bytes = refl
