-- What a response that is passed tells of rows: what an unsafe method changed, and what HEAD and GET show (RFC 2616, sections 9.4 and 13.10).
use Rattle.std.specs.Prelude.{Bool, true, false, ◌==◌, ◌&&◌, ◌||◌, not, nat_lt, nat_le, length, List, [], ◌∷◌, ◌++◌, bytes_eq, codes, Option, Some, None, Ok, Err, nat_eq}
use Rattle.std.specs.List.{starts_with}
use Rattle.pp_framing.specs.declared.body.BodyRule.{BodyRule}
use Rattle.pp_head.specs.Response.{Response}
use Rattle.pp_plan.specs.Requests.{is_get, is_head}
use Rattle.pp_target.specs.Key.{Key, key_at, text_of}
use Rattle.pp_text.specs.Fields.{values_of}
use Rattle.pp_valid.specs.Conditions.{names_other_tag}
use Rattle.pp_valid.specs.Versions.{body_length}
use Rattle.pp_valid.specs.declared.version.Version.{Version}
use Rattle.pp_law.specs.Lists.{Bytes, is_some_with}
use Rattle.pp_law.specs.OwnHeads.{key_of, known_version, relay_head}
use Rattle.pp_law.specs.Requests.{is_safe}
use Rattle.pp_law.specs.State.{State, Exchange}
use Rattle.pp_law.specs.Table.{clear}

-- "POST, PUT, DELETE": what they change is not known any more (RFC 2616, section 13.10)
abbrev pub invalidates : Exchange → Response → Bool
invalidates e head = not (is_safe e.head) && nat_le 200 head.status && nat_lt head.status 400

-- Location and Content-Location: a URL, or a path of the same host; no key has more than 8,192 bytes
abbrev pub path_named : Key → Bytes → Option Key
path_named key text = elim (starts_with nat_eq text (codes "/") && nat_le (length (text_of (record key { path = text }))) 8192) [ true ↦ Some (record key { path = text }) | false ↦ None ]

abbrev pub key_named : Key → Bytes → Option Key
key_named key text = elim (key_at text) [ Ok named ↦ Some named | Err fault ↦ path_named key text ]

abbrev pub is_same_host : Key → Key → Bool
is_same_host a b = bytes_eq a.host b.host && (a.port == b.port)

-- "the host part MUST be the same as in the Request-URI"
unfoldable pub clear_named : Key → Bytes → State → State
clear_named key text s = elim (key_named key text) [
  | None ↦ s
  | Some named ↦ elim (is_same_host named key) [ true ↦ clear (text_of named) s | false ↦ s ]
]

unfoldable pub clear_each : Key → List Bytes → State → State
clear_each key [] s = s
clear_each key (text ∷ texts) s = clear_each key texts (clear_named key text s)

abbrev pub places_named : Response → List Bytes
places_named head = values_of (codes "location") head.fields ++ values_of (codes "content-location") head.fields

unfoldable pub invalidated : Exchange → Response → State → State
invalidated e head s = elim (invalidates e head) [ true ↦ clear_each e.key (places_named head) (clear (key_of e) s) | false ↦ s ]

-- "if the new field values indicate that the cached entity differs from the current entity .. then the cache MUST treat the
-- cache entry as stale" (RFC 2616, section 9.4)
abbrev pub shows_other : Response → Version → Bool
shows_other head v = names_other_tag head.fields v.tag || is_some_with (λ n. not (n == v.length)) (body_length head.fields)

abbrev pub disproves : Response → Version → Bool
disproves head v = (head.status == 404) || (head.status == 410) || ((head.status == 200) && shows_other head v)

abbrev pub reads : Exchange → Bool
reads e = is_get e.head.method || is_head e.head.method

unfoldable pub disproved : Exchange → Response → State → State
disproved e head s = elim (reads e && is_some_with (disproves head) (known_version s (key_of e))) [ true ↦ clear (key_of e) s | false ↦ s ]

unfoldable pub through_head : Exchange → Response → BodyRule → State → State
through_head e head rule s = relay_head e head rule (disproved e head (invalidated e head s))
