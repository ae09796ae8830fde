-- The date that a response is assigned is one, up to the year 9999.
use Rattle.std.proofs.Common.{◌≡◌, ◌<◌, ◌≤◌, refl, sym, ap, ◌∙◌, inl, arith, ℕ, zero, suc, ◌+◌, ◌-◌, ◌*◌, ◌/◌, ◌%◌, Bool, true, false, cond, Option, Some, None}
use Rattle.std.specs.Prelude.{if◌then◌else◌, is_some, nat_lt}
use Rattle.std.specs.Option.{option_and_then}
use Rattle.std.proofs.lemmas.Bool.Decides.{nat_tests}
use Rattle.httpdate.proofs.CalendarLemmas.{days_of_months_all, days_of_months_more, days_of_years_closed}
use Rattle.httpdate.proofs.FormatLemmas.{parse_complete}
use Rattle.httpdate.proofs.ValidLemmas.{is_valid_complete}
use Rattle.httpdate.specs.Calendar.{days_in_month, days_in_year, days_of_months, days_of_years, is_leap_year, weekday}
use Rattle.httpdate.specs.Date.{parse_secs, valid_secs}
use Rattle.httpdate.specs.Valid.{IsValid, parts_secs}
use Rattle.httpdate.specs.declared.parts.Parts.{Parts}
use Rattle.pp_objects.specs.Dates.{date_text_at, month_at, part_at, parts_at, year_at}

-- ---- in which of the spans that follow one another a place lies

record IsFound (sum lengths : ℕ → ℕ) (low high whole : ℕ) (at : ℕ × ℕ) : Type 0 where
  above : low ≤ at.0
  below : at.0 ≤ high
  is : sum at.0 + at.1 ≡ whole
  inside : at.1 < lengths at.0

less_is : (n m : ℕ) → nat_lt n m ≡ true → n < m
less_is n m is = grind (arith, nat_tests)

not_less : (n m : ℕ) → nat_lt n m ≡ false → m ≤ n
not_less n m is = grind (arith, nat_tests)

part_found : (lengths sum : ℕ → ℕ) (least : ℕ) → ((j : ℕ) → least ≤ j → sum (suc j) ≡ sum j + lengths j) → (n i place : ℕ) → least ≤ i → sum i + place < sum (suc (i + n)) → IsFound sum lengths i (i + n) (sum i + place) (part_at lengths n i place)
part_found lengths sum least step zero i place low few =
    let same : i + 0 ≡ i = omega arith in
    let more : sum (suc (i + 0)) ≡ sum i + lengths i = ap (λ (k : ℕ). sum (suc k)) same ∙ step i low in
    record { above = omega arith; below = omega arith; is = refl; inside = omega (arith, few, more) }
part_found lengths sum least step (suc n) i place low few = by (nat_lt place (lengths i)) refl (part_found lengths sum least step n (suc i) (place - lengths i))
  where
    by : (b : Bool) → nat_lt place (lengths i) ≡ b
        → (least ≤ suc i → sum (suc i) + (place - lengths i) < sum (suc (suc i + n)) → IsFound sum lengths (suc i) (suc i + n) (sum (suc i) + (place - lengths i)) (part_at lengths n (suc i) (place - lengths i)))
        → IsFound sum lengths i (i + suc n) (sum i + place) (cond b (i, place) (part_at lengths n (suc i) (place - lengths i)))
    by true is later = record { above = omega arith; below = omega arith; is = refl; inside = less_is place (lengths i) is }
    by false is later =
        let past : lengths i ≤ place = not_less place (lengths i) is in
        let more : sum (suc i) ≡ sum i + lengths i = step i low in
        let whole : sum (suc i) + (place - lengths i) ≡ sum i + place = omega (arith, more, past) in
        let next : sum (suc (suc i + n)) ≡ sum (suc (i + suc n)) = ap (λ (k : ℕ). sum (suc k)) (omega arith) in
        let rest = later (omega (arith, low)) (omega (arith, whole, few, next)) in
        record { above = omega (arith, rest.above); below = omega (arith, rest.below); is = rest.is ∙ whole; inside = rest.inside }

-- ---- years and months

abbrev year_sum : ℕ → ℕ
year_sum y = days_of_years (y - 1970)

year_more : (k : ℕ) → days_of_years (suc k) ≡ days_of_years k + days_in_year (1970 + k)
unfolding days_of_years
year_more k = refl

no_year : days_of_years 0 ≡ 0
unfolding days_of_years
no_year = refl

year_step : (j : ℕ) → 1970 ≤ j → year_sum (suc j) ≡ year_sum j + days_in_year j
year_step j low =
    let later : suc j - 1970 ≡ suc (j - 1970) = omega (arith, low) in
    let back : 1970 + (j - 1970) ≡ j = omega (arith, low) in
    ap days_of_years later ∙ year_more (j - 1970) ∙ ap (λ (k : ℕ). days_of_years (j - 1970) + days_in_year k) back

long_by : (b : Bool) → 365 ≤ cond b 366 365
long_by true = omega arith
long_by false = omega arith

long_years : (k : ℕ) → 365 * k ≤ days_of_years k
long_years zero = omega arith
long_years (suc k) =
    let before = long_years k in
    let long : 365 ≤ days_in_year (1970 + k) = long_by (is_leap_year (1970 + k)) in
    omega (arith, before, year_more k, long)

year_found : (d : ℕ) → IsFound year_sum days_in_year 1970 (1970 + d / 365) (year_sum 1970 + d) (year_at d)
year_found d =
    let last : year_sum (suc (1970 + d / 365)) ≡ days_of_years (suc (d / 365)) = ap days_of_years (omega arith) in
    part_found days_in_year year_sum 1970 year_step (d / 365) 1970 d (omega arith) (omega (arith, no_year, last, long_years (suc (d / 365))))

abbrev month_sum : ℕ → ℕ → ℕ
month_sum y m = days_of_months y (m - 1)

no_month : (y : ℕ) → days_of_months y 0 ≡ 0
unfolding days_of_months
no_month y = refl

month_step : (y j : ℕ) → 1 ≤ j → month_sum y (suc j) ≡ month_sum y j + days_in_month y j
month_step y j low = let back : suc j - 1 ≡ j = omega arith in ap (days_of_months y) back ∙ days_of_months_more y j low

month_found : (y r : ℕ) → r < days_in_year y → IsFound (month_sum y) (days_in_month y) 1 12 (month_sum y 1 + r) (month_at (y, r))
month_found y r inside = part_found (days_in_month y) (month_sum y) 1 (month_step y) 11 1 r (omega arith) (omega (arith, no_month y, days_of_months_all y, inside))

-- ---- the date

years_few : (k : ℕ) → days_of_years k < 2932897 → k ≤ 8029
years_few k few = omega (arith, few, days_of_years_closed k)

valid : (secs : ℕ) → secs < 253402300800 → IsValid (parts_at secs)
valid secs few =
    let year = year_found (secs / 86400) in
    let at = year_at (secs / 86400) in
    let month = month_found at.0 at.1 year.inside in
    let within = month_at at in
    let last : at.0 - 1970 ≤ 8029 = years_few (at.0 - 1970) (omega (arith, few, no_year, year.is)) in
    let days : secs / 86400 ≡ days_of_years (at.0 - 1970) + days_of_months at.0 (within.0 - 1) + (within.1 + 1 - 1) = omega (arith, no_year, no_month at.0, year.is, month.is) in (
      ((year.above, omega (arith, last)), (month.above, month.below), (omega arith, omega (arith, month.inside))),
      (omega arith, omega arith, omega arith),
      ap weekday days,
    )

pub assigned_read : (secs : ℕ) → secs < 253402300800 → is_some (parse_secs (date_text_at secs)) ≡ true
assigned_read secs few =
    ap (λ (o : Option Parts). is_some (option_and_then valid_secs o)) (parse_complete (date_text_at secs) (parts_at secs) (valid secs few) (inl refl))
    ∙ ap (λ (b : Bool). is_some (if b then Some (parts_secs (parts_at secs)) else None)) (is_valid_complete (parts_at secs) (valid secs few))
