-- What the Cache-Control fields say together (RFC 2616, section 14.9).
use Rattle.std.specs.Prelude.{ℕ, Bool, ◌||◌, not, if◌then◌else◌, min, List, [], ◌∷◌, fold, codes, Option, Some, None, unwrap_or}
use Rattle.std.specs.List.{list_any, filter_map}
use Rattle.pp_text.specs.Bytes.{is_same, trim}
use Rattle.pp_text.specs.Numbers.{number_of}
use Rattle.pp_text.specs.Parts.{cut_at}
use Rattle.pp_text.specs.Quoting.{quoting_after, is_outside}
use Rattle.pp_text.specs.declared.quoting.Quoting.TheVariants.{Outside}
use Rattle.pp_text.specs.Fields.{Field, values_of, list_items}
use Rattle.pp_fresh.specs.declared.directives.Directives.{Directives}

abbrev pub equals_sign : ℕ
equals_sign = 61

-- cache-extension = token [ "=" ( token | quoted-string ) ], which each directive is; a directive
-- without an argument is given an empty one
abbrev pub parts_of : List ℕ → List ℕ × List ℕ
parts_of directive = unwrap_or (cut_at equals_sign directive) (directive, [])

abbrev pub name_of : List ℕ → List ℕ
name_of directive = trim (parts_of directive).0

abbrev pub argument_of : List ℕ → List ℕ
argument_of directive = trim (parts_of directive).1

-- ours: a directive counts for the whole message, with field names or without, as private="set-cookie"
abbrev pub is_directive : List ℕ → List ℕ → Bool
is_directive name directive = is_same name (name_of directive)

abbrev pub has_directive : List ℕ → List (List ℕ) → Bool
has_directive name directives = list_any (is_directive name) directives

-- "=" delta-seconds; ours: one that cannot be read counts as 0
abbrev pub seconds_of : List ℕ → List ℕ → Option ℕ
seconds_of name directive =
    if is_directive name directive then Some (unwrap_or (number_of (argument_of directive)) 0) else None

abbrev pub least_of : List ℕ → Option ℕ
least_of [] = None
least_of (n ∷ ns) = Some (fold min n ns)

-- ours: of several the least counts
abbrev pub least_seconds : List ℕ → List (List ℕ) → Option ℕ
least_seconds name directives = least_of (filter_map (seconds_of name) directives)

-- what the directives of a list say together
abbrev pub listed : List (List ℕ) → Directives
listed directives = record {
  no_store = has_directive (codes "no-store") directives;
  no_cache = has_directive (codes "no-cache") directives;
  private = has_directive (codes "private") directives;
  only_if_cached = has_directive (codes "only-if-cached") directives;
  max_age = least_seconds (codes "max-age") directives;
  s_maxage = least_seconds (codes "s-maxage") directives;
  min_fresh = least_seconds (codes "min-fresh") directives;
}

-- quoted-string = ( <"> *(qdtext | quoted-pair ) <"> ) (section 2.2), whose second quotation mark is missing
abbrev pub is_cut_off : List ℕ → Bool
is_cut_off value = not (is_outside (fold quoting_after Outside value))

-- ours: what stands in a string that does not end may be any directive, and so counts as no-store
abbrev pub directives_of : List Field → Directives
directives_of fields =
    let directives = listed (list_items (codes "cache-control") fields) in
    record directives { no_store = directives.no_store || list_any is_cut_off (values_of (codes "cache-control") fields) }
