-- The entry that a head block is. One entry has one spelling: a block is read as a response head (RFC 2616, section 6),
-- and is an entry exactly where what it says is written as this block.
use Rattle.std.specs.Prelude.{◌≡◌, ℕ, ◌+◌, ◌-◌, ◌^◌, Bool, false, ◌&&◌, nat_le, nat_lt, List, length, map, take, bytes_eq, if◌then◌else◌, All, Option, Some, None, option_map, option_and_then}
use Rattle.pp_text.specs.Fields.{Field, field_at, field_in, IsFieldWithin}
use Rattle.pp_text.specs.Numbers.{number_of}
use Rattle.pp_text.specs.declared.fields.FieldSpan.{FieldSpan}
use Rattle.pp_head.specs.Read.{Read, Whole, TooLong, Bad, More}
use Rattle.pp_head.specs.Response.{Response, response_at}
use Rattle.pp_fresh.specs.declared.aging.Times.{Times}
use Rattle.pp_valid.specs.declared.version.Version.{Version}
use Rattle.pp_valid.specs.TagStates.{tag_of}
use Rattle.pp_valid.specs.Versions.{strong_part}
use Rattle.pp_entry.specs.declared.entry.Entry.{Entry}
use Rattle.pp_entry.specs.declared.own.OwnLines.{OwnLines}
use Rattle.pp_entry.specs.Fields.{lowered, are_allowed}
use Rattle.pp_entry.specs.Texts.{head_text, fits, padded}

-- what an entry keeps beside the bytes of the body
pub record Row : Type 0 where
  pub key : List ℕ
  pub version : Version
  pub fields : List Field
  pub times : Times

-- what the lines of this proxy's own say, and how many fields stand before them
pub record Own : Type 0 where
  pub key : List ℕ
  pub times : Times
  pub length : ℕ
  pub count : ℕ

-- ours: a body of 1 to 2^26 bytes
abbrev pub is_sized : ℕ → Bool
is_sized n = nat_le 1 n && nat_le n (2 ^ 26)

-- the time of the request is not kept: it is read back as that of the response. Nor is it kept whether the lifetime may be
-- guessed (RFC 2616, section 13.2.4): it may not
abbrev pub own_with : List ℕ → ℕ → ℕ → ℕ → ℕ → Option Own
own_with key count response initial n =
    if is_sized n then Some (record { key = key; times = record { request = response; response = response; initial = initial; may_guess = false }; length = n; count = count })
    else None

-- the last five fields: the key, three numbers, and where the body stands
abbrev pub own_at : List Field → ℕ → Option Own
own_at fields count =
    option_and_then (λ response.
    option_and_then (λ initial.
    option_and_then (own_with (field_at fields count).1 count response initial)
    (number_of (field_at fields (count + 3)).1))
    (number_of (field_at fields (count + 2)).1))
    (number_of (field_at fields (count + 1)).1)

abbrev pub own_in : List Field → Option Own
own_in fields = if nat_lt (length fields) 5 then None else own_at fields (length fields - 5)

abbrev pub kept_in : Own → List Field → List Field
kept_in own fields = map lowered (take own.count fields)

-- the block is how this is written
abbrev pub is_spelled : List ℕ → Own → List Field → Bool
is_spelled block own kept =
    let text = head_text own.key own.length kept own.times in
    fits kept text && bytes_eq (padded text) block

abbrev pub row_with : Own → List Field → List ℕ → Row
row_with own kept tag = record { key = own.key; version = record { tag = tag; length = own.length }; fields = kept; times = own.times }

-- the tag of the version is that of the kept fields, which have just one, a strong one of at most 1,024 bytes
abbrev pub row_of : Own → List Field → Option Row
row_of own kept = if are_allowed kept own.times.response then option_map (row_with own kept) (strong_part (tag_of kept)) else None

abbrev pub row_if_spelled : List ℕ → Own → List Field → Option Row
row_if_spelled block own kept = if is_spelled block own kept then row_of own kept else None

abbrev pub row_among : List ℕ → List Field → Option Row
row_among block fields = option_and_then (λ own. row_if_spelled block own (kept_in own fields)) (own_in fields)

abbrev pub row_from : List ℕ → Read Response → Option Row
row_from block (Whole head) = row_among block head.fields
row_from block TooLong = None
row_from block Bad = None
row_from block More = None

-- the row of the entry that this block is the head block of
unfoldable pub row_at : List ℕ → Option Row
row_at block = row_from block (response_at block)

-- ---- what the code holds of it

abbrev pub shown_own : OwnLines → Own
shown_own own = record { key = own.key.now; times = own.times; length = own.length; count = own.count }

abbrev pub shown_entry : Entry → Row
shown_entry entry = record { key = entry.key.now; version = entry.version; fields = entry.fields; times = entry.times }

-- the fields of this row stand at these spans
pub record IsPlaced (row : Option Row) (block : List ℕ) (spans : List FieldSpan) (own : Own) : Type 0 where
  pub within : All (IsFieldWithin (length block)) (take own.count spans)
  pub placed : row ≡ row_of own (map (field_in block) (take own.count spans))

abbrev pub PlacedIfSome : Option Row → List ℕ → List FieldSpan → Option OwnLines → Type 0
PlacedIfSome row block spans (Some own) = IsPlaced row block spans (shown_own own)
PlacedIfSome row block spans None = row ≡ None
