-- Where and when a log begins and ends, and how its times may be off.
use Rattle.std.specs.Prelude.{ℕ, ℤ, pos, negsuc, ◌^◌, [], ◌∷◌, Option, Some, None, nat_le, int_lt, codes, if◌then◌else◌}
use Rattle.base_types.specs.declared.kubernetes.revision.Moment.{Moment}
use Rattle.base_types.specs.Meaning.{Meaning}
use Rattle.base_types.specs.Parts.{member_of, text_of, whole_of}
use Rattle.base_types.specs.Texts.{◌>>=◌, revision_at}
use Rattle.setup_file.specs.declared.clocks.Start.{Start}
use Rattle.setup_file.specs.Forms.{is_form}
use Rattle.timestamps.specs.Timestamps.{moment_of}

-- the moment of a text that is a timestamp
abbrev pub time_of : Meaning → Option Moment
time_of tree = text_of tree >>= moment_of

abbrev pub start_of : Meaning → Option Start
start_of tree = if is_form (codes "revision" ∷ codes "time" ∷ []) tree then (do
  revision ← revision_at (codes "revision") tree
  value ← member_of (codes "time") tree
  time ← time_of value
  Some (record { revision = revision; time = time }))
    else None

-- a log without an end, or one that doesn't end before it begins
abbrev pub until_of : Moment → Option Meaning → Option (Option Moment)
until_of start None = Some None
until_of start (Some tree) = do
  moment ← time_of tree
  if int_lt moment.0 start.0 then None else Some (Some moment)

abbrev pub nanos_within : ℤ → Option ℕ
nanos_within (pos nanos) = if nat_le nanos (10 ^ 18) then Some nanos else None
nanos_within (negsuc nanos) = None

-- a number of nanoseconds, of which 0 needn't be said
abbrev pub nanos_of : Option Meaning → Option ℕ
nanos_of None = Some 0
nanos_of (Some tree) = whole_of tree >>= nanos_within
