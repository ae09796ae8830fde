-- One spelling for each entry: what is written is read back, and what is read is written so.
use Rattle.std.specs.Prelude.{◌≡◌, ◌<◌, ◌^◌, ℕ, true, false, List, map, All, Some}
use Rattle.httparse.specs.Grammar.{AllPass, is_uri_byte}
use Rattle.pp_head.specs.Agreement.{IsFieldText}
use Rattle.pp_valid.specs.TagStates.{tag_of}
use Rattle.pp_valid.specs.Versions.{strong_part}
use Rattle.pp_entry.specs.Entries.{Row, is_sized, row_at}
use Rattle.pp_entry.specs.Fields.{are_allowed, lowered}
use Rattle.pp_entry.specs.Texts.{fits, head_text, padded}

-- a row that an entry can be written of
pub record CanBeWritten (row : Row) : Type 0 where
  -- tokens, and values without blanks at their ends: no head has others
  pub fields : All IsFieldText row.fields
  -- ours: they are as they are kept of a response that came then, and those that are renewed have at most 2,048 bytes
  pub allowed : are_allowed row.fields row.times.response ≡ true
  -- the tag of the version is that of the fields, a strong one
  pub tag : strong_part (tag_of row.fields) ≡ Some row.version.tag
  -- a key has the bytes of a target
  pub key : AllPass is_uri_byte row.key
  -- ours: a body of 1 to 2^26 bytes
  pub sized : is_sized row.version.length ≡ true
  pub response : row.times.response < 2 ^ 64
  pub initial : row.times.initial < 2 ^ 64

abbrev pub text_of : Row → List ℕ
text_of row = head_text row.key row.version.length row.fields row.times

-- ours: names are kept in lower case, the time of the request is read back as that of the response, and no lifetime is guessed
abbrev pub as_read : Row → Row
as_read row = record {
  key = row.key;
  version = row.version;
  fields = map lowered row.fields;
  times = record { request = row.times.response; response = row.times.response; initial = row.times.initial; may_guess = false };
}

-- what is written of a row, where it fits, is read back as that row
abbrev pub IsReadBack : Type 0
IsReadBack = (row : Row) → CanBeWritten row → fits row.fields (text_of row) ≡ true → row_at (padded (text_of row)) ≡ Some (as_read row)

-- and what was read of a block is read again as it was
abbrev pub IsReadAgain : Type 0
IsReadAgain = (block : List ℕ) (row : Row) → row_at block ≡ Some row → row_at (padded (text_of row)) ≡ Some (as_read row)

-- a block that is read as a row is how that row is written
abbrev pub HasOneSpelling : Type 0
HasOneSpelling = (block : List ℕ) (row : Row) → row_at block ≡ Some row → block ≡ padded (text_of row)
