-- Where a lifetime may be guessed (RFC 2616, sections 13.2.4 and 13.9).
use Rattle.std.specs.Prelude.{ℕ, Bool, ◌==◌, ◌||◌, not, List, codes}
use Rattle.std.specs.List.{list_any}
use Rattle.pp_text.specs.Fields.{Field, has_field}

-- http_URL = "http:" "//" host [ ":" port ] [ abs_path [ "?" query ]] (section 3.2.2)
abbrev pub has_query : List ℕ → Bool
has_query key = list_any (λ b. b == 63) key

-- "since some applications have traditionally used GETs and HEADs with query URLs (those containing a "?" in the
-- rel_path part) to perform operations with significant side effects, caches MUST NOT treat responses to such URIs as
-- fresh unless the server provides an explicit expiration time"
-- ours: nor those to a request with Cookie, which may be for its client alone
abbrev pub allows_guess : List ℕ → List Field → Bool
allows_guess key request = not (has_query key || has_field (codes "cookie") request)
