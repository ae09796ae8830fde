-- Fields that are put behind one another in one text, and the room for them.
use Rattle.std.specs.Prelude.{ℕ, ◌+◌, ◌≡◌, ◌≤◌, Bool, ◌&&◌, not, codes, List, [], ◌∷◌, ◌++◌, length}
use Rattle.pp_text.specs.declared.fields.FieldSpan.{FieldSpan}
use Rattle.pp_text.specs.Fields.{Field, is_named}
use Rattle.pp_valid.specs.Kept.{is_lasting_of, is_renewed_of}
use Rattle.pp_objects.specs.declared.choice.Choice.{Choice}
use Rattle.pp_objects.specs.declared.choice.Choice.TheVariants.{Lasting, Unchanged, NewExpires, NewCacheControl, KeptExpires, KeptCacheControl}
use Rattle.pp_objects.specs.Kept.{is_passing, lasting_of}

-- a name and a value are put behind a text
pub record AppendsField (old new name value : List ℕ) (span : FieldSpan) : Type 0 where
  pub text : new ≡ old ++ name ++ value
  pub name_from : span.name_from ≡ length old
  pub name_to : span.name_to ≡ length old + length name
  pub value_from : span.value_from ≡ length old + length name
  pub value_to : span.value_to ≡ length old + length name + length value

-- the fields in a text, how many of its bytes are used, and the room for bytes and for fields
pub record FieldText : Type 0 where
  pub fields : List Field
  pub used : ℕ
  pub bytes : ℕ
  pub places : ℕ

abbrev pub size_of : List Field → ℕ
size_of [] = 0
size_of (field ∷ fields) = length field.0 + length field.1 + size_of fields

-- these fields can be added without more memory
pub record HasRoomFor (added : List Field) (text : FieldText) : Type 0 where
  pub bytes : text.used + size_of added ≤ text.bytes
  pub small : text.used + size_of added ≤ 4294967295
  pub places : length text.fields + length added ≤ text.places

-- these fields were added, and no room is lost
pub record AddsFields (old new : FieldText) (added : List Field) : Type 0 where
  pub fields : new.fields ≡ old.fields ++ added
  pub used : new.used ≡ old.used + size_of added
  pub bytes : old.bytes ≤ new.bytes
  pub places : old.places ≤ new.places

-- which fields are chosen
abbrev pub is_chosen : Choice → List Field → Field → Bool
is_chosen Lasting fields field = is_lasting_of fields field
is_chosen Unchanged fields field = not (is_passing field)
is_chosen NewExpires fields field = is_renewed_of fields field && is_named (codes "expires") field
is_chosen NewCacheControl fields field = is_renewed_of fields field && is_named (codes "cache-control") field
is_chosen KeptExpires fields field = is_named (codes "expires") field
is_chosen KeptCacheControl fields field = is_named (codes "cache-control") field

-- no fields yet, and room for so many bytes and fields
pub record IsEmptyText (text : FieldText) (size count : ℕ) : Type 0 where
  pub fields : text.fields ≡ []
  pub used : text.used ≡ 0
  pub bytes : size ≤ text.bytes
  pub places : count ≤ text.places

-- a text has room for the kept fields that last, and for whatever is renewed
pub record HoldsRefresh (kept : List Field) (text : FieldText) : Type 0 where
  pub bytes : size_of (lasting_of kept) + 2048 ≤ text.bytes
  pub small : size_of (lasting_of kept) + 2048 ≤ 4294967295
  pub places : length (lasting_of kept) + 256 ≤ text.places
