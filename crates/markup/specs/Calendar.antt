-- Days and their dates in the Gregorian calendar, also before it was begun. A year is counted here from its March, so that
-- a leap day is the last day of it, and 400 such years, an era, have 146097 days.
use Rattle.std.specs.Prelude.{◌≡◌, refl, ℕ, ◌+◌, ◌-◌, ◌*◌, ◌/◌, ◌%◌, nat_lt, if◌then◌else◌}
use Rattle.markup.specs.declared.calendar.Date.{Date}

-- days since the first of March of the year 0, of those since 1970-01-01
abbrev pub march_days : ℕ → ℕ
march_days days = days + 719468

-- Of the day of an era: the year, the day of the year, and the month and the day of that, all from 0.
abbrev pub era_year : ℕ → ℕ
era_year day = (day - day / 1460 + day / 36524 - day / 146096) / 365

abbrev pub year_day : ℕ → ℕ
year_day day = day - (365 * era_year day + era_year day / 4 - era_year day / 100)

abbrev pub year_month : ℕ → ℕ
year_month day = (5 * year_day day + 2) / 153

abbrev pub month_day : ℕ → ℕ
month_day day = year_day day - (153 * year_month day + 2) / 5

-- The first ten months belong to the calendar's year of the same number, January and February to the next.
abbrev pub month_of : ℕ → ℕ
month_of month = if nat_lt month 10 then month + 3 else month - 9

abbrev pub years_more : ℕ → ℕ
years_more month = if nat_lt month 10 then 0 else 1

abbrev pub date_in : ℕ → ℕ → Date
date_in era day = record {
  year = 400 * era + era_year day + years_more (year_month day);
  month = month_of (year_month day);
  day = month_day day + 1;
}

-- the date that is so many days after 1970-01-01
abbrev pub date_of : ℕ → Date
date_of days = date_in (march_days days / 146097) (march_days days % 146097)

abbrev date : ℕ → ℕ → ℕ → Date
date year month day = record { year = year; month = month; day = day }

first_day : date_of 0 ≡ date 1970 1 1
first_day = refl

end_of_a_year : date_of 10956 ≡ date 1999 12 31
end_of_a_year = refl

leap_day_of_a_century : date_of 11016 ≡ date 2000 2 29
leap_day_of_a_century = refl

leap_day : date_of 19782 ≡ date 2024 2 29
leap_day = refl

behind_it : date_of 19783 ≡ date 2024 3 1
behind_it = refl

no_leap_day : date_of 47541 ≡ date 2100 3 1
no_leap_day = refl
