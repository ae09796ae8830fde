-- Which fields of a response are kept with its body, and how many bytes their lines have.
use Rattle.std.specs.Prelude.{ℕ, ◌+◌, Bool, ◌&&◌, ◌||◌, not, nat_le, List, filter, length, slice_get, codes, is_some, Option, Some, None, option_and_then, if◌then◌else◌}
use Rattle.httpdate.specs.Date.{parse_secs}
use Rattle.pp_text.specs.Fields.{Field, is_named}
use Rattle.pp_text.specs.Forwarding.{is_hop_by_hop}
use Rattle.pp_text.specs.Lines.{line_of, lines_of}
use Rattle.pp_valid.specs.declared.kept.Lines.{Lines}
use Rattle.pp_valid.specs.declared.kept.Lines.TheVariants.{Renewed, Lasting}
use Rattle.pp_valid.specs.EndToEnd.{end_to_end_values}

-- what a later response of the version says anew (RFC 2616, section 10.3.5)
abbrev pub is_renewed : Field → Bool
is_renewed field = is_named (codes "expires") field || is_named (codes "cache-control") field

-- a checksum of the content of its message, which may be a part of the body (RFC 2616, section 14.15; RFC 9530, section 2)
abbrev pub is_checksum : Field → Bool
is_checksum field = is_named (codes "content-md5") field || is_named (codes "content-digest") field

-- what is written anew into each reply, or is in none
abbrev pub is_of_one_message : Field → Bool
is_of_one_message field =
    is_named (codes "content-length") field || is_named (codes "content-range") field || is_named (codes "age") field
    || is_named (codes "date") field || is_checksum field

abbrev pub is_renewed_of : List Field → Field → Bool
is_renewed_of fields field = not (is_hop_by_hop fields field) && is_renewed field

abbrev pub is_lasting_of : List Field → Field → Bool
is_lasting_of fields field = not (is_hop_by_hop fields field) && not (is_of_one_message field || is_renewed field)

-- the fields that stay as they are while the version does
abbrev pub lasting_fields : List Field → List Field
lasting_fields fields = filter (is_lasting_of fields) fields

-- the fields beside Date that each response of the version renews
abbrev pub renewed_fields : List Field → List Field
renewed_fields fields = filter (is_renewed_of fields) fields

-- the date of a response, as it was sent: of several Date fields the first counts
abbrev pub date_value : List Field → Option (List ℕ)
date_value fields =
    option_and_then (λ value. if is_some (parse_secs value) then Some value else None) (slice_get (end_to_end_values (codes "date") fields) 0)

-- "A received message that does not have a Date header field MUST be assigned one by the recipient"
-- (section 14.18): `date: Sun, 06 Nov 1994 08:49:37 GMT` and CRLF has 37 bytes, whatever the time
abbrev pub date_line_len : Option (List ℕ) → ℕ
date_line_len None = 37
date_line_len (Some value) = length (line_of (codes "date", value))

-- ours: at most 2,048 bytes are renewed, and at most 16,384 last
abbrev pub has_room_for : List Field → Bool
has_room_for fields =
    nat_le (date_line_len (date_value fields) + length (lines_of (renewed_fields fields))) 2048
    && nat_le (length (lines_of (lasting_fields fields))) 16384

abbrev pub is_of : Lines → List Field → Field → Bool
is_of Renewed fields field = is_renewed_of fields field
is_of Lasting fields field = is_lasting_of fields field
