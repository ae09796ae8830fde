-- Worked responses: how old they are, how long they are fresh, and for which requests.
use Rattle.std.proofs.Common.{refl, ℕ, Bool, true, false, List, [], ◌∷◌, Some, None, codes}
use Rattle.httpdate.proofs.OnLiterals.{httpdate_on_literals}
use Rattle.pp_text.proofs.Table.{Rows}
use Rattle.pp_text.specs.Fields.{Field}
use Rattle.pp_fresh.specs.Age.{age_of, times_of}
use Rattle.pp_fresh.specs.Dates.{date_of}
use Rattle.pp_fresh.specs.Directives.{directives_of}
use Rattle.pp_fresh.specs.Guessing.{allows_guess}
use Rattle.pp_fresh.specs.Lifetime.{is_fresh, lifetime_of}
use Rattle.pp_fresh.specs.Ready.{is_ready, may_store}
use Rattle.pp_fresh.specs.declared.aging.Times.{Times}

-- a response that came at this second, no older than that
abbrev at : ℕ → Bool → Times
at second may_guess = record { request = second; response = second; initial = 0; may_guess = may_guess }

-- the times of a response with these fields, asked for and come at these seconds, and its age at a later one
abbrev aged : List Field × (ℕ × (ℕ × ℕ)) → Times × ℕ
aged t = let times = times_of t.0 t.1.0 t.1.1.0 true in (times, age_of times t.1.1.1)

-- the responses came at second 2,000,000, Sat, 24 Jan 1970 03:33:20 GMT
the_first_source_of_a_lifetime_that_is_there_counts : Rows (λ (fields : List Field). lifetime_of fields (at 2000000 true)) (
    ((codes "cache-control", codes "max-age=60, s-maxage=10") ∷ [], 10)
    ∷ ((codes "cache-control", codes "s-maxage=600, max-age=60") ∷ [], 600)
    ∷ ((codes "cache-control", codes "max-age=60") ∷ (codes "expires", codes "Sat, 24 Jan 1970 03:33:30 GMT") ∷ [], 60)
    ∷ ((codes "cache-control", codes "Max-Age = 60") ∷ [], 60)
    ∷ ((codes "cache-control", codes "max-age=60") ∷ (codes "Cache-Control", codes "max-age=30, max-age=40") ∷ [], 30)
    ∷ ((codes "cache-control", codes "no-cache=\"a, max-age=5\", max-age=60") ∷ [], 60)
    ∷ ((codes "cache-control", codes "max-age=18446744073709551615") ∷ [], 18446744073709551615)
    ∷ ((codes "cache-control", codes "max-age=18446744073709551616") ∷ [], 0)
    ∷ ((codes "cache-control", codes "max-age=60, max-age=1x") ∷ [], 0)
    ∷ ((codes "cache-control", codes "max-age=\"60\"") ∷ [], 0)
    ∷ ((codes "cache-control", codes "max-age") ∷ [], 0)
    ∷ ((codes "cache-control", codes "s-maxage=-1, max-age=60") ∷ [], 0)
    ∷ ((codes "expires", codes "Sat, 24 Jan 1970 03:34:20 GMT") ∷ [], 60)
    ∷ ((codes "expires", codes "Sat, 24 Jan 1970 03:34:20 GMT") ∷ (codes "date", codes "Sat, 24 Jan 1970 03:33:30 GMT") ∷ [], 50)
    ∷ ((codes "expires", codes "Sat, 24 Jan 1970 03:34:20 GMT") ∷ (codes "date", codes "yesterday") ∷ [], 60)
    ∷ ((codes "expires", codes "Thu, 01 Jan 1970 00:16:40 GMT") ∷ [], 0)
    ∷ ((codes "expires", codes "0") ∷ (codes "last-modified", codes "Mon, 12 Jan 1970 13:46:40 GMT") ∷ [], 0)
    ∷ ((codes "expires", codes "0") ∷ (codes "expires", codes "Sat, 24 Jan 1970 03:34:20 GMT") ∷ [], 0)
    ∷ ((codes "date", codes "Sat, 24 Jan 1970 03:33:20 GMT") ∷ (codes "last-modified", codes "Mon, 12 Jan 1970 13:46:40 GMT") ∷ [], 100000)
    ∷ ((codes "last-modified", codes "Mon, 12 Jan 1970 13:46:40 GMT") ∷ [], 100000)
    ∷ ((codes "date", codes "Sun, 06 Nov 1994 08:49:37 GMT") ∷ (codes "last-modified", codes "Mon, 12 Jan 1970 13:46:40 GMT") ∷ [], 1209600)
    ∷ ((codes "last-modified", codes "Sun, 06 Nov 1994 08:49:37 GMT") ∷ [], 0)
    ∷ ((codes "last-modified", codes "never") ∷ (codes "last-modified", codes "Mon, 12 Jan 1970 13:46:40 GMT") ∷ [], 0)
    ∷ ([], 0)
    ∷ [])
unfolding httpdate_on_literals
the_first_source_of_a_lifetime_that_is_there_counts = refl

what_may_not_be_guessed_is_0_and_what_is_said_is_not_guessed : Rows (λ (fields : List Field). lifetime_of fields (at 2000000 false)) (
    ((codes "last-modified", codes "Mon, 12 Jan 1970 13:46:40 GMT") ∷ [], 0)
    ∷ ((codes "expires", codes "Sat, 24 Jan 1970 03:34:20 GMT") ∷ (codes "last-modified", codes "Mon, 12 Jan 1970 13:46:40 GMT") ∷ [], 60)
    ∷ ((codes "cache-control", codes "max-age=60") ∷ (codes "last-modified", codes "Mon, 12 Jan 1970 13:46:40 GMT") ∷ [], 60)
    ∷ [])
unfolding httpdate_on_literals
what_may_not_be_guessed_is_0_and_what_is_said_is_not_guessed = refl

a_key_with_a_query_allows_no_guess_and_a_request_with_cookie_none : Rows (λ (t : List ℕ × List Field). allows_guess t.0 t.1) (
    ((codes "http://h/a", []), true)
    ∷ ((codes "http://h/q?a=1", []), false)
    ∷ ((codes "http://h/?", []), false)
    ∷ ((codes "http://h/a", (codes "Cookie", codes "a=b") ∷ []), false)
    ∷ ((codes "http://h/a", (codes "cookie", codes "") ∷ []), false)
    ∷ ((codes "http://h/a", (codes "Cookie2", codes "a") ∷ (codes "authorization", codes "b") ∷ []), true)
    ∷ [])
unfolding httpdate_on_literals
a_key_with_a_query_allows_no_guess_and_a_request_with_cookie_none = refl

an_age_grows_from_the_greater_of_two_clocks : Rows aged (
    (((codes "date", codes "Thu, 01 Jan 1970 00:16:40 GMT") ∷ (codes "age", codes "3") ∷ [], (1005, (1010, 1020))), (record { request = 1005; response = 1010; initial = 15; may_guess = true }, 25))
    ∷ (((codes "date", codes "Thu, 01 Jan 1970 00:16:40 GMT") ∷ (codes "age", codes "300") ∷ [], (1005, (1010, 1010))), (record { request = 1005; response = 1010; initial = 305; may_guess = true }, 305))
    ∷ (((codes "date", codes "1000") ∷ (codes "age", codes "3") ∷ [], (1005, (1010, 1011))), (record { request = 1005; response = 1010; initial = 8; may_guess = true }, 9))
    ∷ (((codes "date", codes "Thu, 01 Jan 1970 00:16:40 GMT") ∷ [], (1010, (1005, 1006))), (record { request = 1010; response = 1005; initial = 5; may_guess = true }, 6))
    ∷ (((codes "date", codes "Thu, 01 Jan 1970 00:16:40 GMT") ∷ [], (990, (995, 1000))), (record { request = 990; response = 995; initial = 5; may_guess = true }, 10))
    ∷ (((codes "date", codes "Thu, 01 Jan 1970 00:16:40 GMT") ∷ [], (1010, (1010, 1000))), (record { request = 1010; response = 1010; initial = 10; may_guess = true }, 10))
    ∷ (([], (7, (7, 7))), (record { request = 7; response = 7; initial = 0; may_guess = true }, 0))
    ∷ (((codes "age", codes "7") ∷ [], (0, (18446744073709551615, 18446744073709551615))), (record { request = 0; response = 18446744073709551615; initial = 18446744073709551615; may_guess = true }, 18446744073709551615))
    ∷ [])
unfolding httpdate_on_literals
an_age_grows_from_the_greater_of_two_clocks = refl

of_several_members_of_age_the_first_counts_and_one_that_is_no_number_or_too_great_is_the_greatest : Rows aged (
    (((codes "age", codes "3") ∷ (codes "age", codes "300") ∷ [], (1005, (1010, 1011))), (record { request = 1005; response = 1010; initial = 8; may_guess = true }, 9))
    ∷ (((codes "age", codes "3, 300") ∷ [], (1005, (1010, 1011))), (record { request = 1005; response = 1010; initial = 8; may_guess = true }, 9))
    ∷ (((codes "age", codes "1000, 1000") ∷ [], (5, (5, 5))), (record { request = 5; response = 5; initial = 1000; may_guess = true }, 1000))
    ∷ (((codes "date", codes "Thu, 01 Jan 1970 00:16:40 GMT") ∷ (codes "age", codes "30.5") ∷ [], (1005, (1010, 1011))), (record { request = 1005; response = 1010; initial = 2147483653; may_guess = true }, 2147483654))
    ∷ (((codes "age", codes "x, 3") ∷ [], (5, (5, 5))), (record { request = 5; response = 5; initial = 2147483648; may_guess = true }, 2147483648))
    ∷ (((codes "age", codes "") ∷ [], (5, (5, 5))), (record { request = 5; response = 5; initial = 2147483648; may_guess = true }, 2147483648))
    ∷ (((codes "age", codes "-1") ∷ [], (5, (5, 5))), (record { request = 5; response = 5; initial = 2147483648; may_guess = true }, 2147483648))
    ∷ (((codes "age", codes "2147483647") ∷ [], (5, (5, 5))), (record { request = 5; response = 5; initial = 2147483647; may_guess = true }, 2147483647))
    ∷ (((codes "age", codes "2147483649") ∷ [], (5, (5, 5))), (record { request = 5; response = 5; initial = 2147483648; may_guess = true }, 2147483648))
    ∷ (((codes "age", codes "18446744073709551615") ∷ [], (1005, (1010, 1020))), (record { request = 1005; response = 1010; initial = 2147483653; may_guess = true }, 2147483663))
    ∷ (((codes "age", codes "18446744073709551616") ∷ [], (5, (5, 10))), (record { request = 5; response = 5; initial = 2147483648; may_guess = true }, 2147483653))
    ∷ [])
unfolding httpdate_on_literals
of_several_members_of_age_the_first_counts_and_one_that_is_no_number_or_too_great_is_the_greatest = refl

an_age_stands_still_at_the_greatest_number_of_64_bits : Rows (λ (now : ℕ). age_of (record { request = 5; response = 5; initial = 18446744073709551614; may_guess = false }) now) (
    (5, 18446744073709551614)
    ∷ (10, 18446744073709551615)
    ∷ [])
unfolding httpdate_on_literals
an_age_stands_still_at_the_greatest_number_of_64_bits = refl

nothing_is_guessed_of_a_response_with_pragma_no_cache : Rows (λ (t : List Field × Bool). (times_of t.0 5 5 t.1).may_guess) (
    (((codes "pragma", codes "no-cache") ∷ [], true), false)
    ∷ (((codes "Pragma", codes "x, No-Cache") ∷ [], true), false)
    ∷ (((codes "pragma", codes "x") ∷ [], true), true)
    ∷ (((codes "pragma", codes "x") ∷ [], false), false)
    ∷ [])
unfolding httpdate_on_literals
nothing_is_guessed_of_a_response_with_pragma_no_cache = refl

a_response_is_stale_at_the_second_at_which_its_lifetime_ends : Rows (λ (now : ℕ). is_fresh ((codes "cache-control", codes "max-age=60") ∷ []) (at 1000 true) now) (
    (1059, true)
    ∷ (1060, false)
    ∷ (18446744073709551615, false)
    ∷ [])
unfolding httpdate_on_literals
a_response_is_stale_at_the_second_at_which_its_lifetime_ends = refl

a_request_may_ask_for_validation : Rows (λ (t : (List Field × List Field) × ℕ). is_ready t.0.0 t.0.1 (times_of t.0.1 1000 1000 true) t.1) (
    ((([], (codes "cache-control", codes "max-age=60") ∷ []), 1059), true)
    ∷ ((([], (codes "cache-control", codes "max-age=60") ∷ []), 1060), false)
    ∷ ((((codes "cache-control", codes "max-stale=100") ∷ [], (codes "cache-control", codes "max-age=60") ∷ []), 1060), false)
    ∷ ((([], (codes "cache-control", codes "no-cache, max-age=60") ∷ []), 1000), false)
    ∷ ((([], (codes "cache-control", codes "no-cache=\"set-cookie\", max-age=60") ∷ []), 1000), false)
    ∷ ((((codes "cache-control", codes "no-cache") ∷ [], (codes "cache-control", codes "max-age=60") ∷ []), 1000), false)
    ∷ ((((codes "cache-control", codes "max-stale, NO-CACHE") ∷ [], (codes "cache-control", codes "max-age=60") ∷ []), 1000), false)
    ∷ ((((codes "pragma", codes "no-cache") ∷ [], (codes "cache-control", codes "max-age=60") ∷ []), 1000), false)
    ∷ ((((codes "pragma", codes "other, No-Cache") ∷ [], (codes "cache-control", codes "max-age=60") ∷ []), 1000), false)
    ∷ ((((codes "pragma", codes "cache") ∷ [], (codes "cache-control", codes "max-age=60") ∷ []), 1000), true)
    ∷ ((((codes "cache-control", codes "max-age=0") ∷ [], (codes "cache-control", codes "max-age=60") ∷ []), 1000), false)
    ∷ ((((codes "cache-control", codes "max-age=now") ∷ [], (codes "cache-control", codes "max-age=60") ∷ []), 1000), false)
    ∷ ((((codes "cache-control", codes "max-age=10") ∷ [], (codes "cache-control", codes "max-age=60") ∷ []), 1010), true)
    ∷ ((((codes "cache-control", codes "max-age=10") ∷ [], (codes "cache-control", codes "max-age=60") ∷ []), 1011), false)
    ∷ ((((codes "cache-control", codes "min-fresh=20") ∷ [], (codes "cache-control", codes "max-age=60") ∷ []), 1040), true)
    ∷ ((((codes "cache-control", codes "min-fresh=20") ∷ [], (codes "cache-control", codes "max-age=60") ∷ []), 1041), false)
    ∷ ((((codes "cache-control", codes "min-fresh=0") ∷ [], (codes "cache-control", codes "max-age=60") ∷ []), 1059), true)
    ∷ ((((codes "cache-control", codes "min-fresh=18446744073709551615") ∷ [], (codes "cache-control", codes "max-age=60") ∷ []), 1000), false)
    ∷ ((((codes "cache-control", codes "only-if-cached, no-store, max-stale") ∷ [], (codes "cache-control", codes "max-age=60") ∷ []), 1000), true)
    ∷ ((([], (codes "cache-control", codes "max-age=18446744073709551615") ∷ []), 999), true)
    ∷ [])
unfolding httpdate_on_literals
a_request_may_ask_for_validation = refl

-- however it came to be kept
what_forbids_sharing_is_never_ready : Rows (λ (fields : List Field). is_ready [] fields (at 1000 true) 1000) (
    ((codes "cache-control", codes "private, max-age=1000") ∷ [], false)
    ∷ ((codes "cache-control", codes "no-store, max-age=1000") ∷ [], false)
    ∷ ((codes "cache-control", codes "max-age=1000") ∷ (codes "vary", codes "cookie") ∷ [], false)
    ∷ ((codes "cache-control", codes "max-age=1000") ∷ (codes "set-cookie", codes "a=b") ∷ [], false)
    ∷ ((codes "cache-control", codes "max-age=1000") ∷ (codes "x-note", codes "private") ∷ [], true)
    ∷ [])
unfolding httpdate_on_literals
what_forbids_sharing_is_never_ready = refl

what_is_for_one_client_is_not_kept : Rows may_store (
    ([], true)
    ∷ ((codes "cache-control", codes "no-cache, public, max-age=0") ∷ [], true)
    ∷ ((codes "cache-control", codes "no-store") ∷ [], false)
    ∷ ((codes "cache-control", codes "public") ∷ (codes "Cache-Control", codes "max-age=9, No-Store") ∷ [], false)
    ∷ ((codes "cache-control", codes "private") ∷ [], false)
    ∷ ((codes "cache-control", codes "private=\"set-cookie, etag\"") ∷ [], false)
    ∷ ((codes "cache-control", codes "x=\"no-store, private\"") ∷ [], true)
    ∷ ((codes "vary", codes "") ∷ [], false)
    ∷ ((codes "Vary", codes "accept") ∷ [], false)
    ∷ ((codes "set-cookie", codes "a=b") ∷ [], false)
    ∷ ((codes "Set-Cookie2", codes "a=b; Version=1") ∷ [], false)
    ∷ [])
unfolding httpdate_on_literals
what_is_for_one_client_is_not_kept = refl

a_field_that_ends_within_a_quoted_string_may_hide_any_directive : Rows may_store (
    ((codes "cache-control", codes "max-age=1000, x=\"y, no-store") ∷ [], false)
    ∷ ((codes "cache-control", codes "x=\"a\\\"") ∷ [], false)
    ∷ ((codes "cache-control", codes "x=\"a\\\\\", y") ∷ [], true)
    ∷ ((codes "cache-control", codes "x=\"a") ∷ (codes "cache-control", codes "b\"") ∷ [], false)
    ∷ ((codes "cache-control", codes "x=\"a\", y=\"b\"") ∷ [], true)
    ∷ ((codes "cache-control", codes "\"") ∷ [], false)
    ∷ [])
unfolding httpdate_on_literals
a_field_that_ends_within_a_quoted_string_may_hide_any_directive = refl

the_directives_of_all_fields_are_read_together : Rows directives_of (
    ((codes "Cache-Control", codes "no-cache=\"a,b\", PRIVATE, max-age=7 , min-fresh=x, public") ∷ (codes "cache-control", codes "only-if-cached, no-store") ∷ (codes "cache-control", codes "s-maxage=9, max-age=5, s-maxage=8") ∷ [], record { no_store = true; no_cache = true; private = true; only_if_cached = true; max_age = Some 5; s_maxage = Some 8; min_fresh = Some 0 })
    ∷ ([], record { no_store = false; no_cache = false; private = false; only_if_cached = false; max_age = None; s_maxage = None; min_fresh = None })
    ∷ [])
unfolding httpdate_on_literals
the_directives_of_all_fields_are_read_together = refl

a_date_has_three_forms : Rows (date_of (codes "date")) (
    ((codes "date", codes "Sun, 06 Nov 1994 08:49:37 GMT") ∷ [], Some 784111777)
    ∷ ((codes "date", codes "Sunday, 06-Nov-94 08:49:37 GMT") ∷ [], Some 784111777)
    ∷ ((codes "date", codes "Sun Nov  6 08:49:37 1994") ∷ [], Some 784111777)
    ∷ ((codes "date", codes "Sun, 06 Nov 1994 08:49:37") ∷ [], None)
    ∷ ((codes "date", codes "") ∷ (codes "Date", codes "Sun, 06 Nov 1994 08:49:37 GMT") ∷ [], None)
    ∷ ((codes "expires", codes "Sun, 06 Nov 1994 08:49:37 GMT") ∷ [], None)
    ∷ [])
unfolding httpdate_on_literals
a_date_has_three_forms = refl
