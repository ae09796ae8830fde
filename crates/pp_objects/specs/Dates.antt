-- The text of a second, from 1970 to 9999 (RFC 2616, section 3.3.1).
use Rattle.std.specs.Prelude.{ℕ, zero, suc, ◌+◌, ◌-◌, ◌/◌, ◌%◌, cond, nat_lt, List}
use Rattle.httpdate.specs.Calendar.{days_in_year, days_in_month, weekday}
use Rattle.httpdate.specs.Text.{imf_fixdate}
use Rattle.httpdate.specs.declared.parts.Parts.{Parts}

-- in which of the spans that follow one another a place lies, and where in it: the lengths tell how long each
-- is, counting begins with span `i`, and at most `n` are passed
abbrev pub part_at : (ℕ → ℕ) → ℕ → ℕ → ℕ → ℕ × ℕ
part_at lengths zero i place = (i, place)
part_at lengths (suc n) i place =
    cond (nat_lt place (lengths i)) (i, place) (part_at lengths n (suc i) (place - lengths i))

-- a year has at least 365 days
abbrev pub year_at : ℕ → ℕ × ℕ
year_at days = part_at days_in_year (days / 365) 1970 days

abbrev pub month_at : ℕ × ℕ → ℕ × ℕ
month_at year = part_at (days_in_month year.0) 11 1 year.1

abbrev pub parts_at : ℕ → Parts
parts_at secs = record {
  year = (year_at (secs / 86400)).0;
  mon = (month_at (year_at (secs / 86400))).0;
  day = (month_at (year_at (secs / 86400))).1 + 1;
  hour = secs % 86400 / 3600;
  min = secs % 3600 / 60;
  sec = secs % 60;
  wday = weekday (secs / 86400);
}

-- HTTP/1.1 clients and servers "MUST only generate the RFC 1123 format"
abbrev pub date_text_at : ℕ → List ℕ
date_text_at secs = imf_fixdate (parts_at secs)
