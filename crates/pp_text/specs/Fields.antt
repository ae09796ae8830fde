-- The fields of a head, and what they say together (RFC 2616, section 4.2).
use Rattle.std.specs.Prelude.{ℕ, ◌≤◌, Bool, List, map, filter, flat_map, slice_get, slice_range, get_or, [], Option}
use Rattle.std.specs.List.{list_any}
use Rattle.pp_text.specs.Bytes.{is_same}
use Rattle.pp_text.specs.Lists.{items_of}
use Rattle.pp_text.specs.declared.fields.FieldSpan.{FieldSpan}

-- a name and a value
abbrev pub Field : Type 0
Field = List ℕ × List ℕ

-- both spans are in order and within a text of this length
pub record IsFieldWithin (len : ℕ) (span : FieldSpan) : Type 0 where
  pub name_ordered : span.name_from ≤ span.name_to
  pub name_within : span.name_to ≤ len
  pub value_ordered : span.value_from ≤ span.value_to
  pub value_within : span.value_to ≤ len

abbrev pub field_in : List ℕ → FieldSpan → Field
field_in text span = (slice_range text span.name_from span.name_to, slice_range text span.value_from span.value_to)

-- the field at this place
abbrev pub field_at : List Field → ℕ → Field
field_at fields index = get_or fields index ([], [])

-- "Field names are case-insensitive."
abbrev pub is_named : List ℕ → Field → Bool
is_named name field = is_same name field.0

-- the values of the fields of this name, in their order
abbrev pub values_of : List ℕ → List Field → List (List ℕ)
values_of name fields = map (λ f. f.1) (filter (is_named name) fields)

-- the first of them
abbrev pub first_value : List ℕ → List Field → Option (List ℕ)
first_value name fields = slice_get (values_of name fields) 0

abbrev pub has_field : List ℕ → List Field → Bool
has_field name fields = list_any (is_named name) fields

-- "It MUST be possible to combine the multiple header fields into one .. by appending each subsequent
-- field-value to the first, each separated by a comma."
abbrev pub list_items : List ℕ → List Field → List (List ℕ)
list_items name fields = flat_map items_of (values_of name fields)

-- the comma list over all fields of this name has the item, but for ASCII case
abbrev pub has_item : List ℕ → List ℕ → List Field → Bool
has_item name item fields = list_any (is_same item) (list_items name fields)
