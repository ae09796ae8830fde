-- How old a response is (RFC 2616, section 13.2.3).
use Rattle.std.specs.Prelude.{ℕ, ◌+◌, ◌-◌, ◌^◌, Bool, ◌&&◌, not, min, max, List, codes, slice_get, Option, unwrap_or, option_and_then, if◌then◌else◌}
use Rattle.pp_text.specs.Numbers.{number_of}
use Rattle.pp_text.specs.Fields.{Field, has_field, has_item, list_items}
use Rattle.pp_fresh.specs.Dates.{date_of}
use Rattle.pp_fresh.specs.declared.aging.Times.{Times}

-- ours: an age stands still at the greatest number of 64 bits
abbrev pub within_64_bits : ℕ → ℕ
within_64_bits n = min n (2 ^ 64 - 1)

-- "If a cache receives a delta-seconds value greater than the greatest integer it can represent .. the cache MUST
-- consider the value to be 2147483648 (2^31)" (RFC 9111, section 1.2.2)
abbrev pub greatest_age : ℕ
greatest_age = 2 ^ 31

-- ours: what is no number is the greatest too
abbrev pub seconds_in : Option (List ℕ) → ℕ
seconds_in member = min (unwrap_or (option_and_then number_of member) greatest_age) greatest_age

-- "a cache encountering a message with a list-based Age field value SHOULD use the first member of the field value,
-- discarding subsequent ones" (RFC 9111, section 5.1)
abbrev pub first_age : List Field → ℕ
first_age fields = if has_field (codes "age") fields then seconds_in (slice_get (list_items (codes "age") fields) 0) else 0

-- ours: a response without a readable Date is dated when it came
abbrev pub date_value : List Field → ℕ → ℕ
date_value fields response = unwrap_or (date_of (codes "date") fields) response

-- apparent_age = max(0, response_time - date_value)
-- corrected_received_age = max(apparent_age, age_value)
-- response_delay = response_time - request_time
-- corrected_initial_age = corrected_received_age + response_delay
-- ours: a clock that ran backwards between the two gives no delay; and with `Pragma: no-cache` nothing is guessed
abbrev pub times_of : List Field → ℕ → ℕ → Bool → Times
times_of fields request response allows_guess =
    let apparent = response - date_value fields response in
    let received = max apparent (first_age fields) in
    record {
      request = request;
      response = response;
      initial = within_64_bits (received + (response - request));
      may_guess = allows_guess && not (has_item (codes "pragma") (codes "no-cache") fields);
    }

-- resident_time = now - response_time
-- current_age = corrected_initial_age + resident_time
abbrev pub age_of : Times → ℕ → ℕ
age_of times now = within_64_bits (times.initial + (now - times.response))
