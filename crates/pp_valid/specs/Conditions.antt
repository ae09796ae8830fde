-- Conditions of a request (RFC 7232, sections 2.3.2, 3.2 and 3.3; RFC 7233, section 3.2).
use Rattle.std.specs.Prelude.{ℕ, Bool, true, false, ◌&&◌, ◌||◌, not, nat_le, bytes_eq, if◌then◌else◌, List, [], ◌∷◌, codes, Option, Some, None}
use Rattle.std.specs.List.{list_any}
use Rattle.pp_text.specs.Fields.{Field, values_of, has_field, list_items}
use Rattle.pp_fresh.specs.Dates.{date_of}
use Rattle.pp_valid.specs.EndToEnd.{end_to_end_values}
use Rattle.pp_valid.specs.Tags.{is_strong_tag, opaque_part}

-- "two entity-tags are equivalent if their opaque-tags match character-by-character, regardless of either or
-- both being tagged as weak"
abbrev pub is_weakly_equal : List ℕ → List ℕ → Bool
is_weakly_equal a b = bytes_eq (opaque_part a) (opaque_part b)

-- "If a 304 response indicates an entity not currently cached, then the cache MUST disregard the response and repeat the
-- request without the conditional" (RFC 2616, section 10.3.5): it has an ETag that is not this tag, by weak comparison
abbrev pub names_other_tag : List Field → List ℕ → Bool
names_other_tag fields tag = list_any (λ value. not (is_weakly_equal value tag)) (end_to_end_values (codes "etag") fields)

-- If-None-Match = "*" / 1#entity-tag
abbrev pub is_listed : List ℕ → List ℕ → Bool
is_listed tag item = bytes_eq item (codes "*") || is_weakly_equal item tag

-- None without If-None-Match, and else whether it has the tag
abbrev pub matches_none : List Field → List ℕ → Option Bool
matches_none fields tag =
    if has_field (codes "if-none-match") fields
    then Some (list_any (is_listed tag) (list_items (codes "if-none-match") fields))
    else None

-- "if the selected representation's last modification date is earlier or equal to the date provided"
abbrev pub is_not_later : Option ℕ → Option ℕ → Bool
is_not_later (Some modified) (Some since) = nat_le modified since
is_not_later (Some modified) None = false
is_not_later None since = false

abbrev pub not_modified_since : List Field → List Field → Bool
not_modified_since fields kept = is_not_later (date_of (codes "last-modified") kept) (date_of (codes "if-modified-since") fields)

-- "two entity-tags are equivalent if both are not weak and their opaque-tags match character-by-character"
abbrev pub is_strongly_equal : List ℕ → List ℕ → Bool
is_strongly_equal a b = is_strong_tag a && bytes_eq a b

-- If-Range = entity-tag / HTTP-date; ours: a date holds for no tag, and of several fields none does
abbrev pub range_condition : List (List ℕ) → List ℕ → Bool
range_condition [] tag = true
range_condition (value ∷ []) tag = is_strongly_equal value tag
range_condition (value ∷ other ∷ values) tag = false

abbrev pub if_range_holds : List Field → List ℕ → Bool
if_range_holds fields tag = range_condition (values_of (codes "if-range") fields) tag
