-- Entity tags (RFC 7232, section 2.3).
use Rattle.std.specs.Prelude.{ℕ, ◌-◌, Bool, ◌==◌, ◌&&◌, ◌||◌, not, nat_le, nat_eq, List, length, drop, slice_index, slice_range, codes, Option, Some, None, if◌then◌else◌}
use Rattle.std.specs.List.{list_all, starts_with}
use Rattle.pp_text.specs.Quoting.{quotation_mark}

-- etagc = %x21 / %x23-7E / obs-text
abbrev pub is_tag_byte : ℕ → Bool
is_tag_byte b = (b == 33) || (nat_le 35 b && not (b == 127))

-- opaque-tag = DQUOTE *etagc DQUOTE
abbrev pub is_opaque_tag : List ℕ → Bool
is_opaque_tag text =
    nat_le 2 (length text)
    && ((slice_index text 0 == quotation_mark)
    && ((slice_index text (length text - 1) == quotation_mark)
    && list_all is_tag_byte (slice_range text 1 (length text - 1))))

-- "An entity-tag is strong when it is not prefixed by W/"; ours: of at most 1,024 bytes
abbrev pub is_strong_tag : List ℕ → Bool
is_strong_tag text = nat_le (length text) 1024 && is_opaque_tag text

-- weak = %x57.2F ; "W/", case-sensitive
abbrev pub is_weak_tag : List ℕ → Bool
is_weak_tag text = starts_with nat_eq text (codes "W/") && is_opaque_tag (drop 2 text)

-- the strong tag that a text is
abbrev pub strong_tag : List ℕ → Option (List ℕ)
strong_tag text = if is_strong_tag text then Some text else None

-- opaque-tag of an entity-tag = [ weak ] opaque-tag
abbrev pub opaque_part : List ℕ → List ℕ
opaque_part text = if starts_with nat_eq text (codes "W/") then drop 2 text else text
