-- The moment that a text gives.
use Rattle.std.specs.Prelude.{ℕ, List, Option, option_map}
use Rattle.std.specs.Result.{result_ok}
use Rattle.jiff_fmt.specs.Temporal.{parse_timestamp}
use Rattle.base_types.specs.declared.kubernetes.revision.Moment.{Moment}

-- the moment of a timestamp (RFC 3339, and what else `jiff` reads)
abbrev pub moment_of : List ℕ → Option Moment
moment_of text = option_map (λ nanos. record { 0 = nanos }) (result_ok (parse_timestamp text))
