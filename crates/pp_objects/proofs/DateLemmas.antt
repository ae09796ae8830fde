-- The text of a second is that of the one date which shows it.
use Rattle.std.proofs.Common.{ℕ, zero, suc, ◌+◌, ◌-◌, ◌*◌, ◌/◌, ◌%◌, ◌<◌, ◌≤◌, ◌≡◌, Bool, true, false, cond, arith, refl, sym, ◌∙◌, ap}
use Rattle.std.specs.Prelude.{nat_lt, codes, List, [], ◌∷◌, None}
use Rattle.std.proofs.lemmas.Bool.Decides.{nat_tests}
use Rattle.httpdate.specs.Calendar.{days_in_year, days_in_month, days_of_years, days_of_months, days_from_civil, weekday, is_leap_year, IsCivilDate}
use Rattle.httpdate.proofs.CalendarLemmas.{days_from_civil_year}
use Rattle.httpdate.specs.Text.{imf_fixdate}
use Rattle.httpdate.specs.Date.{unix_secs, date_text}
use Rattle.httpdate.specs.declared.date.HttpDate.{HttpDate}
use Rattle.pp_objects.specs.Kept.{date_field}
use Rattle.pp_objects.specs.Dates.{part_at, year_at, month_at, parts_at, date_text_at}

-- the lengths of the first k spans from the i-th on
abbrev ahead : (ℕ → ℕ) → ℕ → ℕ → ℕ
ahead lengths i zero = 0
ahead lengths i (suc k) = lengths i + ahead lengths (suc i) k

below : (n m : ℕ) → n < m → nat_lt n m ≡ true
below n m lt = grind (arith, nat_tests)

not_below : (n m : ℕ) → m ≤ n → nat_lt n m ≡ false
not_below n m le = grind (arith, nat_tests)

part_here : (lengths : ℕ → ℕ) (n i place : ℕ) → place < lengths i → part_at lengths n i place ≡ (i, place)
part_here lengths zero i place lt = refl
part_here lengths (suc n) i place lt = ap (λ b. cond b (i, place) (part_at lengths n (suc i) (place - lengths i))) (below place (lengths i) lt)

part_later : (lengths : ℕ → ℕ) (n i place : ℕ) → lengths i ≤ place → part_at lengths (suc n) i place ≡ part_at lengths n (suc i) (place - lengths i)
part_later lengths n i place le = ap (λ b. cond b (i, place) (part_at lengths n (suc i) (place - lengths i))) (not_below place (lengths i) le)

part_is : (lengths : ℕ → ℕ) (k n i j r : ℕ) → j ≡ i + k → k ≤ n → r < lengths j → part_at lengths n i (ahead lengths i k + r) ≡ (j, r)
part_is lengths zero n i j r e le lt =
    let same : j ≡ i = omega (arith, e) in
    let none : 0 + r ≡ r = omega arith in
    ap (part_at lengths n i) none ∙ part_here lengths n i r (rw (← same) lt) ∙ ap (λ m. (m, r)) (sym same)
part_is lengths (suc k) zero i j r e le lt = absurd (omega (arith, le))
part_is lengths (suc k) (suc n) i j r e le lt =
    let past : lengths i ≤ ahead lengths i (suc k) + r = omega arith in
    let rest : ahead lengths i (suc k) + r - lengths i ≡ ahead lengths (suc i) k + r = omega arith in
    part_later lengths n i (ahead lengths i (suc k) + r) past ∙ ap (part_at lengths n (suc i)) rest
    ∙ part_is lengths k n (suc i) j r (omega (arith, e)) (omega (arith, le)) lt

ahead_last : (lengths : ℕ → ℕ) (i k : ℕ) → ahead lengths i (suc k) ≡ ahead lengths i k + lengths (i + k)
ahead_last lengths i zero = let same : lengths (i + 0) ≡ lengths i = ap lengths (omega arith) in omega (arith, same)
ahead_last lengths i (suc k) =
    let ih = ahead_last lengths (suc i) k in
    let same : lengths (suc i + k) ≡ lengths (i + suc k) = ap lengths (omega arith) in
    omega (arith, ih, same)

year_more : (k : ℕ) → days_of_years (suc k) ≡ days_of_years k + days_in_year (1970 + k)
unfolding days_of_years
year_more k = refl

no_year : days_of_years 0 ≡ 0
unfolding days_of_years
no_year = refl

month_more : (y k : ℕ) → days_of_months y (suc k) ≡ days_of_months y k + days_in_month y (suc k)
unfolding days_of_months
month_more y k = refl

no_month : (y : ℕ) → days_of_months y 0 ≡ 0
unfolding days_of_months
no_month y = refl

years : (k : ℕ) → ahead days_in_year 1970 k ≡ days_of_years k
years zero = sym no_year
years (suc k) = ahead_last days_in_year 1970 k ∙ ap (λ n. n + days_in_year (1970 + k)) (years k) ∙ sym (year_more k)

months : (y k : ℕ) → ahead (days_in_month y) 1 k ≡ days_of_months y k
months y zero = sym (no_month y)
months y (suc k) =
    ahead_last (days_in_month y) 1 k ∙ ap (λ n. n + days_in_month y (1 + k)) (months y k)
    ∙ ap (λ n. days_of_months y k + days_in_month y n) (next k) ∙ sym (month_more y k)
  where
    next : (k : ℕ) → 1 + k ≡ suc k
    next k = omega arith

long_by : (b : Bool) → 365 ≤ cond b 366 365
long_by true = omega arith
long_by false = omega arith

long_years : (k : ℕ) → 365 * k ≤ days_of_years k
long_years zero = omega arith
long_years (suc k) =
    let ih = long_years k in
    let long : 365 ≤ days_in_year (1970 + k) = long_by (is_leap_year (1970 + k)) in
    omega (arith, ih, year_more k, long)

-- the day of a date within its year
abbrev day_in_year : ℕ → ℕ → ℕ → ℕ
day_in_year y m d = days_of_months y (m - 1) + (d - 1)

year_of : (y m d : ℕ) → IsCivilDate y m d → year_at (days_from_civil y m d) ≡ (y, day_in_year y m d)
year_of y m d civil =
    let k : 1970 + (y - 1970) ≡ y = omega (arith, civil.0) in
    let here : days_from_civil y m d ≡ ahead days_in_year 1970 (y - 1970) + day_in_year y m d = omega (arith, years (y - 1970)) in
    let next : days_of_years (suc (y - 1970)) ≡ days_of_years (y - 1970) + days_in_year y = year_more (y - 1970) ∙ ap (λ n. days_of_years (y - 1970) + days_in_year n) k in
    let after : days_from_civil (suc y) 1 1 ≡ days_of_years (suc (y - 1970)) = omega (arith, ap days_of_years (later y civil.0.0), no_month (suc y)) in
    let inside : day_in_year y m d < days_in_year y = omega (arith, days_from_civil_year y m d (suc y) 1 1 civil (omega arith), after, next) in
    let few : y - 1970 ≤ days_from_civil y m d / 365 = omega (arith, long_years (y - 1970)) in
    ap (part_at days_in_year (days_from_civil y m d / 365) 1970) here
    ∙ part_is days_in_year (y - 1970) (days_from_civil y m d / 365) 1970 y (day_in_year y m d) (sym k) few inside
  where
    later : (y : ℕ) → 1970 ≤ y → suc y - 1970 ≡ suc (y - 1970)
    later y le = omega (arith, le)

month_of : (y m d : ℕ) → IsCivilDate y m d → month_at (y, day_in_year y m d) ≡ (m, d - 1)
month_of y m d civil =
    let k : 1 + (m - 1) ≡ m = omega (arith, civil.1) in
    let here : day_in_year y m d ≡ ahead (days_in_month y) 1 (m - 1) + (d - 1) = omega (arith, months y (m - 1)) in
    let inside : d - 1 < days_in_month y m = omega (arith, civil.2) in
    ap (part_at (days_in_month y) 11 1) here ∙ part_is (days_in_month y) (m - 1) 11 1 m (d - 1) (sym k) (omega (arith, civil.1)) inside

clock : (secs days h m s : ℕ) → h < 24 → m < 60 → s < 60 → secs ≡ days * 86400 + h * 3600 + m * 60 + s
    → (secs / 86400 ≡ days) × (secs % 86400 / 3600 ≡ h) × (secs % 3600 / 60 ≡ m) × (secs % 60 ≡ s)
clock secs days h m s a b c e = (omega (arith, a, b, c, e), omega (arith, a, b, c, e), omega (arith, a, b, c, e), omega (arith, a, b, c, e))

parts_is : (secs : ℕ) (d : HttpDate) → secs ≡ unix_secs d → parts_at secs ≡ d.parts
parts_is secs d e =
    let p = d.parts in
    let days = days_from_civil p.year p.mon p.day in
    let t = clock secs days p.hour p.min p.sec d.time.0 d.time.1 d.time.2 e in
    let y : year_at (secs / 86400) ≡ (p.year, day_in_year p.year p.mon p.day) = ap year_at t.0 ∙ year_of p.year p.mon p.day d.civil in
    let m : month_at (year_at (secs / 86400)) ≡ (p.mon, p.day - 1) = ap month_at y ∙ month_of p.year p.mon p.day d.civil in
    let year : (year_at (secs / 86400)).0 ≡ p.year = ap (λ (x : ℕ × ℕ). x.0) y in
    let mon : (month_at (year_at (secs / 86400))).0 ≡ p.mon = ap (λ (x : ℕ × ℕ). x.0) m in
    let day : (month_at (year_at (secs / 86400))).1 + 1 ≡ p.day = omega (arith, ap (λ (x : ℕ × ℕ). x.1) m, d.civil.2.0) in
    let wday : weekday (secs / 86400) ≡ p.wday = ap weekday t.0 ∙ sym d.right_day in
    λ i. record { year = year i; mon = mon i; day = day i; hour = t.1 i; min = t.2 i; sec = t.3 i; wday = wday i }

date_text_is : (secs : ℕ) (d : HttpDate) → unix_secs d ≡ secs → date_text d ≡ date_text_at secs
date_text_is secs d e = ap imf_fixdate (sym (parts_is secs d (sym e)))

-- the date field of a response that came at this second
pub date_line : (secs : ℕ) (d : HttpDate) (text : List ℕ) → secs < 253402300800 → unix_secs d ≡ secs → text ≡ date_text d
    → (codes "date", text) ∷ [] ≡ date_field None secs
date_line secs d text lt e is =
    ap (λ t. (codes "date", t) ∷ []) (is ∙ date_text_is secs d e)
    ∙ sym (ap (λ b. cond b ((codes "date", date_text_at secs) ∷ []) []) (below secs 253402300800 lt))
