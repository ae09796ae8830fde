-- Responses whose end another reader may see elsewhere (RFC 9112, sections 6.1 and 6.3).
use Rattle.std.specs.Prelude.{ℕ, Bool, true, ◌==◌, ◌&&◌, ◌||◌, nat_lt, List, Some, None, codes}
use Rattle.std.specs.List.{list_any}
use Rattle.pp_text.specs.Fields.{Field, has_field, values_of}
use Rattle.pp_text.specs.Numbers.{number_of}
use Rattle.pp_head.specs.Response.{Response}

-- a Content-Length that tells of bytes, or is no number
abbrev pub is_above_0 : List ℕ → Bool
is_above_0 value = elim (number_of value) [ Some n ↦ nat_lt 0 n | None ↦ true ]

-- a reader that goes by the fields alone would wait for a body
abbrev pub tells_of_body : List Field → Bool
tells_of_body fields =
    has_field (codes "transfer-encoding") fields || list_any is_above_0 (values_of (codes "content-length") fields)

-- "always terminated by the first empty line after the header fields": 204 and 304; "a server MUST NOT generate content in
-- a 205 response" (RFC 9110, section 15.3.6)
abbrev pub is_without_body : ℕ → Bool
is_without_body status = (status == 204) || (status == 205) || (status == 304)

-- "ought to be handled as an error": both framings; and with HTTP/1.0 a recipient "MUST treat the message as if the
-- framing is faulty .. and close the connection after processing the message"
abbrev pub is_framed_twice : ℕ → List Field → Bool
is_framed_twice minor fields =
    has_field (codes "transfer-encoding") fields && ((minor == 0) || has_field (codes "content-length") fields)

abbrev pub is_end_in_doubt : Response → Bool
is_end_in_doubt response =
    (is_without_body response.status && tells_of_body response.fields) || is_framed_twice response.minor response.fields
