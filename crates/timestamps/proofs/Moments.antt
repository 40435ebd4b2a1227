-- A moment that can be read lies in range.
use Rattle.std.proofs.Common.{◌≡◌, ℕ, Bool, false, ◌||◌, List, Option, Some, Result, Ok, Err, ℤ, pos, neg_ℤ, inl, inr, refl, ap, subst, arith}
use Rattle.std.specs.Prelude.{int_lt, ◌≤ℤ◌, ◌-ℤ◌, option_map}
use Rattle.std.specs.Result.{result_ok}
use Rattle.std.proofs.lemmas.Bool.{or_parts}
use Rattle.std.proofs.lemmas.Int.{ints}
use Rattle.base_types.specs.Moments.{IsMoment}
use Rattle.base_types.proofs.Found.{either, same_some}
use Rattle.base_types.specs.declared.kubernetes.revision.Moment.{Moment}
use Rattle.jiff.specs.Words.{Error, nanos_of_seconds}
use Rattle.jiff_fmt.specs.Reader.{◌>>=◌, or_err}
use Rattle.jiff_fmt.specs.Offset.{to_offset}
use Rattle.jiff_fmt.specs.Temporal.{DateTimeParts, temporal_datetime, full, to_timestamp, instant, parts_nanos, parse_timestamp}
use Rattle.timestamps.specs.Timestamps.{moment_of}

read_both : {A B : Type 0} (r : Result A Error) (f : A → Result B Error) (y : B) → (r >>= f) ≡ Ok y → (x : A) × (r ≡ Ok x) × (f x ≡ Ok y)
read_both (Ok x) f y e = (x, refl, e)
read_both (Err fault) f y e = absurd (cc)

same_ok : (x y : ℤ) → ◌≡◌ {A = Result ℤ Error} (Ok x) (Ok y) → x ≡ y
same_ok x y e = cc

not_below : (a b : ℤ) → int_lt a b ≡ false → b ≤ℤ a
not_below a b e = grind (arith, ints)

within : (n : ℤ) → neg_ℤ (pos 377_705_023_201_000_000_000) ≤ℤ n → n ≤ℤ pos 253_402_207_200_999_999_999 → IsMoment n
within n low high = record { low = omega (arith, ints); high = omega (arith, ints) }

instant_is_moment : (n m : ℤ) → instant n ≡ Ok m → IsMoment m
instant_is_moment n m e =
    let early : Bool = int_lt n (neg_ℤ (pos 377_705_023_201_000_000_000)) in
    let late : Bool = int_lt (pos 253_402_207_200_999_999_999) n in
    elim (either (early || late) _ (Ok n) (Ok m) e) [
      | inl outside ↦ absurd (cc)
      | inr inside ↦ (
          let parts = or_parts early late inside.0 in
          subst IsMoment (same_ok n m inside.1) (within n (not_below n _ parts.0) (not_below _ n parts.1)))
    ]

timed : {T Z : Type 0} (no_time no_offset : Error) (time : Option T) (offset : Option Z) (seconds_of : Z → Result ℤ Error) (nanos : T → ℤ → ℤ) (m : ℤ)
    → (or_err no_time time >>= (λ t. or_err no_offset offset >>= (λ o. seconds_of o >>= (λ seconds. instant (nanos t seconds))))) ≡ Ok m → IsMoment m
timed no_time no_offset time offset seconds_of nanos m e =
    let at = read_both (or_err no_time time) _ m e in
    let from_utc = read_both (or_err no_offset offset) _ m at.2 in
    let seconds = read_both (seconds_of from_utc.0) _ m from_utc.2 in
    instant_is_moment (nanos at.0 seconds.0) m seconds.2

timestamp_is_moment : (parts : DateTimeParts) (m : ℤ) → to_timestamp parts ≡ Ok m → IsMoment m
timestamp_is_moment parts m e = timed _ _ parts.time parts.offset to_offset (λ time seconds. parts_nanos parts.date time -ℤ nanos_of_seconds seconds) m e

read_is_moment : (r : Result DateTimeParts Error) (m : ℤ) → (r >>= to_timestamp) ≡ Ok m → IsMoment m
read_is_moment r m e = let parts = read_both r to_timestamp m e in timestamp_is_moment parts.0 m parts.2

moment_from : (r : Result ℤ Error) (moment : Moment) → option_map {U = Moment} (λ nanos. record { 0 = nanos }) (result_ok r) ≡ Some moment → r ≡ Ok moment.0
moment_from (Ok n) moment e =
    let one : ◌≡◌ {A = Moment} (record { 0 = n }) moment = same_some (record { 0 = n }) moment e in
    ap Ok (ap (λ (m : Moment). m.0) one)
moment_from (Err fault) moment e = absurd (cc)

pub moment_is_sound : (text : List ℕ) (moment : Moment) → moment_of text ≡ Some moment → IsMoment moment.0
moment_is_sound text moment e = read_is_moment (full (temporal_datetime text)) moment.0 (moment_from (parse_timestamp text) moment e)
