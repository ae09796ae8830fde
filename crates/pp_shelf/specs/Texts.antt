-- Which rows an entry can be written of, as tests.
use Rattle.std.specs.Prelude.{ℕ, Bool, false, ◌&&◌, List, bytes_eq, Option, Some, None}
use Rattle.std.specs.List.{list_all}
use Rattle.httparse.specs.Grammar.{is_token, is_uri_byte, is_value_byte}
use Rattle.pp_fresh.specs.declared.aging.Times.{Times}
use Rattle.pp_text.specs.Bytes.{trim}
use Rattle.pp_text.specs.Fields.{Field}
use Rattle.pp_valid.specs.TagStates.{tag_of}
use Rattle.pp_valid.specs.Versions.{strong_part}
use Rattle.pp_valid.specs.declared.version.Version.{Version}
use Rattle.pp_entry.specs.Entries.{is_sized}
use Rattle.pp_entry.specs.Fields.{are_allowed}

abbrev pub is_trimmed : List ℕ → Bool
is_trimmed value = list_all is_value_byte value && bytes_eq (trim value) value

-- `IsFieldText` of pp_head, as a test
abbrev pub is_text : Field → Bool
is_text field = is_token field.0 && is_trimmed field.1

abbrev pub is_tag : List ℕ → Option (List ℕ) → Bool
is_tag tag None = false
is_tag tag (Some other) = bytes_eq other tag

-- the tag of the version is that of the fields, a strong one
abbrev pub has_tag : Version → List Field → Bool
has_tag version fields = is_tag version.tag (strong_part (tag_of fields))

-- `CanBeWritten` of pp_entry
abbrev pub is_writable : List ℕ → Version → List Field → Times → Bool
is_writable key version fields times =
    (list_all is_uri_byte key && is_sized version.length) && (list_all is_text fields && are_allowed fields times.response) && has_tag version fields
