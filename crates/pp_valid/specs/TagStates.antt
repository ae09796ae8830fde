-- The entity tag of a response (RFC 7232, section 2.3): ETag = entity-tag.
use Rattle.std.specs.Prelude.{ℕ, if◌then◌else◌, List, [], ◌∷◌, codes}
use Rattle.pp_text.specs.Fields.{Field}
use Rattle.pp_valid.specs.declared.tag_state.TagState.{TagState}
use Rattle.pp_valid.specs.declared.tag_state.TagState.TheVariants.{None as Untagged, Weak, Strong, Several, Bad}
use Rattle.pp_valid.specs.EndToEnd.{end_to_end_values}
use Rattle.pp_valid.specs.Tags.{is_strong_tag, is_weak_tag}

abbrev pub state_of : List ℕ → TagState
state_of value = if is_strong_tag value then Strong value else (if is_weak_tag value then Weak else Bad)

abbrev pub state_in : List (List ℕ) → TagState
state_in [] = Untagged
state_in (value ∷ []) = state_of value
state_in (value ∷ other ∷ values) = Several

-- a tag that Connection names is none
abbrev pub tag_of : List Field → TagState
tag_of fields = state_in (end_to_end_values (codes "etag") fields)
