-- Whether a response may be kept, and whether it may be used for a request without asking its origin
-- (RFC 2616, sections 13.1.3, 13.4, 14.9 and 14.32).
use Rattle.std.specs.Prelude.{ℕ, ◌+◌, Bool, false, ◌==◌, ◌&&◌, ◌||◌, not, nat_lt, List, codes, Option, Some, None}
use Rattle.pp_text.specs.Fields.{Field, has_field, has_item}
use Rattle.pp_fresh.specs.Age.{age_of}
use Rattle.pp_fresh.specs.Directives.{directives_of}
use Rattle.pp_fresh.specs.Lifetime.{is_fresh, lifetime_of}
use Rattle.pp_fresh.specs.declared.aging.Times.{Times}

-- ours: a response is for one client or one kind of client alone, as Vary, Set-Cookie and Set-Cookie2 (RFC 2965) show
abbrev pub is_for_some : List Field → Bool
is_for_some fields = has_field (codes "vary") fields || (has_field (codes "set-cookie") fields || has_field (codes "set-cookie2") fields)

-- "no-store: .. a cache MUST NOT store any part of either this response or the request that elicited it"; "private:
-- .. MUST NOT be cached by a shared cache"
abbrev pub may_store : List Field → Bool
may_store fields =
    let directives = directives_of fields in
    not (directives.no_store || directives.private) && not (is_for_some fields)

-- "the client is willing to accept a response whose age is no greater than the specified time in seconds"
-- ours: and with 0 it asks for validation, whatever the age
abbrev pub is_older_than_wanted : Option ℕ → ℕ → Bool
is_older_than_wanted None age = false
is_older_than_wanted (Some most) age = nat_lt most age || (most == 0)

-- "the client is willing to accept a response whose freshness lifetime is no less than its current age plus
-- the specified time in seconds"
abbrev pub is_staler_than_wanted : Option ℕ → ℕ → ℕ → Bool
is_staler_than_wanted None lifetime age = false
is_staler_than_wanted (Some least) lifetime age = nat_lt lifetime (age + least)

-- the request wants the origin asked, of a response with this lifetime and this age
abbrev pub asks_validation : List Field → ℕ → ℕ → Bool
asks_validation request lifetime age =
    let directives = directives_of request in
    directives.no_cache || has_item (codes "pragma") (codes "no-cache") request || is_older_than_wanted directives.max_age age
    || is_staler_than_wanted directives.min_fresh lifetime age

-- ours: a stale response is always validated, so max-stale changes nothing
abbrev pub is_ready : List Field → List Field → Times → ℕ → Bool
is_ready request kept times now =
    (may_store kept && not (directives_of kept).no_cache)
    && (is_fresh kept times now && not (asks_validation request (lifetime_of kept times) (age_of times now)))
