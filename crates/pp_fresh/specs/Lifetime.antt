-- How long a response is fresh (RFC 2616, section 13.2.4).
use Rattle.std.specs.Prelude.{ℕ, ◌-◌, ◌/◌, Bool, nat_lt, min, List, codes, Option, Some, None, unwrap_or, if◌then◌else◌}
use Rattle.httpdate.specs.Date.{parse_secs}
use Rattle.pp_text.specs.Fields.{Field, first_value}
use Rattle.pp_fresh.specs.Dates.{date_of}
use Rattle.pp_fresh.specs.Age.{date_value, age_of}
use Rattle.pp_fresh.specs.Directives.{directives_of}
use Rattle.pp_fresh.specs.declared.aging.Times.{Times}

-- ours: two weeks
abbrev pub longest_guess : ℕ
longest_guess = 1209600

-- "the heuristic expiration value SHOULD be no more than some fraction of the interval since that time. A
-- typical setting of this fraction might be 10%."
-- ours: that tenth, the most that is guessed, and 0 without a readable Last-Modified
abbrev pub lifetime_guessed : Option ℕ → ℕ → ℕ
lifetime_guessed None date = 0
lifetime_guessed (Some modified) date = min ((date - modified) / 10) longest_guess

-- freshness_lifetime = expires_value - date_value
-- "caches MUST treat other invalid date formats, especially including the value "0", as in the past"
-- (section 14.21); ours: of several Expires fields the first counts
abbrev pub lifetime_by_dates : List Field → Times → ℕ
lifetime_by_dates fields times = by_expires (first_value (codes "expires") fields)
  where
    by_expires : Option (List ℕ) → ℕ
    by_expires None = if times.may_guess then lifetime_guessed (date_of (codes "last-modified") fields) (date_value fields times.response) else 0
    by_expires (Some expires) = unwrap_or (parse_secs expires) 0 - date_value fields times.response

-- "The max-age directive takes priority over Expires", and "for a shared cache .. the maximum age specified
-- by this directive [s-maxage] overrides the maximum age specified by either" (section 14.9.3)
abbrev pub lifetime_of : List Field → Times → ℕ
lifetime_of fields times =
    let directives = directives_of fields in
    unwrap_or directives.s_maxage (unwrap_or directives.max_age (lifetime_by_dates fields times))

-- response_is_fresh = (freshness_lifetime > current_age)
abbrev pub is_fresh : List Field → Times → ℕ → Bool
is_fresh fields times now = nat_lt (age_of times now) (lifetime_of fields times)
