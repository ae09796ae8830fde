-- Fields that are of the message, and not of the connection that it came on (RFC 2616, section 14.10).
use Rattle.std.specs.Prelude.{ℕ, Bool, ◌||◌, if◌then◌else◌, List, [], codes}
use Rattle.pp_text.specs.Fields.{Field, values_of, has_item}

-- Connection names the field: it counts as absent, as it goes no further
abbrev pub is_dropped : List ℕ → List Field → Bool
is_dropped name fields = has_item (codes "connection") name fields

abbrev pub end_to_end_values : List ℕ → List Field → List (List ℕ)
end_to_end_values name fields = if is_dropped name fields then [] else values_of name fields

-- ours: how long a response may be used, and since when, is not known where Connection names a field that says it
abbrev pub hides_freshness : List Field → Bool
hides_freshness fields =
    is_dropped (codes "cache-control") fields || (is_dropped (codes "expires") fields || (is_dropped (codes "date") fields
    || (is_dropped (codes "age") fields || is_dropped (codes "last-modified") fields)))
