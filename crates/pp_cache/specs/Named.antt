-- The keys that Location and Content-Location name (RFC 2616, sections 13.10, 14.14 and 14.30).
use Rattle.std.specs.Prelude.{ℕ, ◌+◌, Bool, true, false, ◌==◌, ◌&&◌, nat_eq, nat_le, List, ◌++◌, length, slice_index, bytes_eq, codes, Option, Some, None, Ok, Err}
use Rattle.std.specs.List.{starts_with}
use Rattle.pp_target.specs.Key.{Key, key_at, port_text, text_of}

-- a text, where it is named
abbrev pub some_if : Bool → List ℕ → Option (List ℕ)
some_if true text = Some text
some_if false text = None

-- scheme, host and port: "the host part MUST be the same as in the Request-URI"
abbrev pub site_of : Key → List ℕ
site_of key = codes "http://" ++ (key.host ++ port_text key.port)

-- a URL of the site
abbrev pub url_named : List ℕ → Key → Option (List ℕ)
url_named site key = some_if (bytes_eq (site_of key) site) (text_of key)

-- a path of the site; no key has more than 8,192 bytes
abbrev pub path_named : List ℕ → List ℕ → Option (List ℕ)
path_named site text = some_if ((slice_index text 0 == 47) && nat_le (length site + length text) 8192) (site ++ text)

-- it stands for a key of the site as it is spelled
abbrev pub is_spelled_at : List ℕ → List ℕ → Bool
is_spelled_at site text = starts_with nat_eq text site && (slice_index text (length site) == 47)

-- the key of the site that the text names
abbrev pub key_named : List ℕ → List ℕ → Option (List ℕ)
key_named site text = elim (key_at text) [ Ok key ↦ url_named site key | Err fault ↦ path_named site text ]
