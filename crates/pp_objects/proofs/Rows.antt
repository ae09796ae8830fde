-- Worked fields of a row, as they are kept and renewed (RFC 2616, sections 10.3.5, 13.5.1 and 14.18).
use Rattle.std.proofs.Common.{refl, ℕ, true, false, List, [], ◌∷◌, replicate, codes}
use Rattle.std.specs.Fmt.{digits}
use Rattle.httpdate.proofs.OnLiterals.{httpdate_on_literals}
use Rattle.pp_text.proofs.Table.{Rows}
use Rattle.pp_text.specs.Fields.{Field}
use Rattle.pp_fresh.specs.declared.aging.Times.{Times}
use Rattle.pp_objects.specs.Kept.{has_room, kept_of, refreshed_of}

-- the times of a response that came in this second
abbrev at : ℕ → Times
at second = record { request = second; response = second; initial = 0; may_guess = true }

-- Sun, 06 Nov 1994 08:49:37 GMT
abbrev sunday : Times
sunday = at 784111777

a_response_keeps_what_is_not_of_its_connection_and_has_a_date : Rows (λ (fields : List Field). kept_of fields sunday) (
    ((codes "Cache-Control", codes "max-age=60") ∷ (codes "Content-Type", codes "text/plain") ∷ (codes "Connection", codes "X-Hop, Upgrade") ∷ (codes "X-Hop", codes "1") ∷ (codes "Age", codes "7") ∷ (codes "Content-Length", codes "5") ∷ (codes "Date", codes "Sun, 06 Nov 1994 08:49:30 GMT") ∷ (codes "Expires", codes "0") ∷ (codes "ETag", codes "\"x\"") ∷ (codes "Cache-Control", codes "no-transform") ∷ [], (codes "Content-Type", codes "text/plain") ∷ (codes "ETag", codes "\"x\"") ∷ (codes "date", codes "Sun, 06 Nov 1994 08:49:30 GMT") ∷ (codes "Expires", codes "0") ∷ (codes "Cache-Control", codes "max-age=60") ∷ (codes "Cache-Control", codes "no-transform") ∷ [])
    ∷ ((codes "Date", codes "yesterday") ∷ [], (codes "date", codes "Sun, 06 Nov 1994 08:49:37 GMT") ∷ [])
    ∷ ((codes "Content-MD5", codes "Q2hlY2sgSW50ZWdyaXR5IQ==") ∷ (codes "content-digest", codes "sha-256=:cQ==:") ∷ (codes "Repr-Digest", codes "sha-256=:cQ==:") ∷ (codes "Digest", codes "md5=cQ==") ∷ (codes "Content-Language", codes "en") ∷ [], (codes "Repr-Digest", codes "sha-256=:cQ==:") ∷ (codes "Digest", codes "md5=cQ==") ∷ (codes "Content-Language", codes "en") ∷ (codes "date", codes "Sun, 06 Nov 1994 08:49:37 GMT") ∷ [])
    ∷ [])
unfolding httpdate_on_literals digits
a_response_keeps_what_is_not_of_its_connection_and_has_a_date = refl

a_response_without_a_date_has_the_one_of_its_coming : Rows (λ (second : ℕ). refreshed_of ((codes "date", codes "Sun, 06 Nov 1994 08:49:37 GMT") ∷ []) [] (at second)) (
    (951827696, (codes "date", codes "Tue, 29 Feb 2000 12:34:56 GMT") ∷ [])
    ∷ (253402300800, [])
    ∷ [])
unfolding httpdate_on_literals digits
a_response_without_a_date_has_the_one_of_its_coming = refl

a_refresh_takes_over_what_the_response_says_anew : Rows (λ (t : List Field × List Field). refreshed_of (kept_of t.0 sunday) t.1 (at 784111780)) (
    (((codes "ETag", codes "\"x\"") ∷ (codes "Date", codes "Sun, 06 Nov 1994 08:49:30 GMT") ∷ (codes "Expires", codes "Sun, 06 Nov 1994 08:50:30 GMT") ∷ (codes "Cache-Control", codes "max-age=60") ∷ [], (codes "Date", codes "Sun, 06 Nov 1994 08:49:36 GMT") ∷ (codes "cache-control", codes "max-age=5") ∷ (codes "Content-Type", codes "text/html") ∷ []), (codes "ETag", codes "\"x\"") ∷ (codes "date", codes "Sun, 06 Nov 1994 08:49:36 GMT") ∷ (codes "Expires", codes "Sun, 06 Nov 1994 08:50:30 GMT") ∷ (codes "cache-control", codes "max-age=5") ∷ [])
    ∷ [])
unfolding httpdate_on_literals digits
a_refresh_takes_over_what_the_response_says_anew = refl

the_renewed_lines_have_2048_bytes_at_most : Rows (λ (n : ℕ). has_room ((codes "date", codes "Sun, 06 Nov 1994 08:49:37 GMT") ∷ []) ((codes "Cache-Control", replicate n 97) ∷ []) sunday) (
    (1994, true)
    ∷ (1995, false)
    ∷ [])
unfolding httpdate_on_literals digits
the_renewed_lines_have_2048_bytes_at_most = refl
