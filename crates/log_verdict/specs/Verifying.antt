-- What a placement comes to by a setup and a log, of their bytes alone.
use Rattle.std.specs.Prelude.{◌≡◌, ⊤, ◌<◌, ◌≤◌, ◌⊎◌, ℕ, List, Option, length}
use Rattle.std.specs.Io.KnownBytes.{IsAtEnd}
use Rattle.base_types.specs.declared.verdict.placed.PlacedLine.{PlacedLine}
use Rattle.context_intake.specs.Contexts.{IsContextOf, IsRefused}
use Rattle.context_intake.specs.declared.told.Intake.{Intake}
use Rattle.context_intake.specs.declared.told.Intake.TheVariants as told
use Rattle.serial_machine.specs.Checks.{IsChecked}
use Rattle.verdict_text.specs.Outcome.{explained_text}
use Rattle.verdict_text.specs.Reading.{IsFaultLine, IsPlacement}
use Rattle.log_context.specs.Histories.{history_of}
use Rattle.log_context.specs.Known.{Known}
use Rattle.log_verdict.specs.declared.verified.Verified.{Verified}
use Rattle.log_verdict.specs.declared.verified.Verified.TheVariants.{Refused, TooLong, Misspelt, Judged}

-- the text of a placement has at most so many bytes
abbrev pub most_placement : ℕ
most_placement = 1073741824

-- the bytes are the one text of these lines
pub record IsTextOf (bytes : List ℕ) (lines : List PlacedLine) : Type 0 where
  pub lines_are : IsPlacement lines
  pub spelled : explained_text lines ≡ bytes

-- the limit comes first, then the spelling, and then the machine
abbrev pub IsVerifiedBy : Known → List ℕ → Verified → Type 0
IsVerifiedBy known bytes (Refused refusal) = ⊥
IsVerifiedBy known bytes TooLong = most_placement < length bytes
IsVerifiedBy known bytes (Misspelt line) = (length bytes ≤ most_placement) × IsFaultLine bytes line
IsVerifiedBy known bytes (Judged checked) = (length bytes ≤ most_placement) × ((lines : List PlacedLine) × IsTextOf bytes lines × IsChecked (history_of known) lines checked)

-- the text was read to its end
abbrev pub IsOfText : Verified → Type 0
IsOfText (Refused refusal) = ⊥
IsOfText TooLong = ⊥
IsOfText (Misspelt line) = ⊤
IsOfText (Judged checked) = ⊤

-- nothing was taken of the placement, or the setup and the log were read to their ends
abbrev pub IsReadLast : (setup log old now : Option (List ℕ)) → Type 0
IsReadLast setup log old now = (now ≡ old) ⊎ (IsAtEnd setup × IsAtEnd log)

-- what the setup and the log told, and then the placement
abbrev pub IsVerifiedFrom : Intake → List ℕ → Verified → Type 0
IsVerifiedFrom (told.Refused refusal) bytes verified = verified ≡ Refused refusal
IsVerifiedFrom (told.Context known) bytes verified = IsVerifiedBy known bytes verified

-- what a placement comes to, by a setup and a log
abbrev pub IsVerified : (setup log placement : List ℕ) → Verified → Type 0
IsVerified setup log placement (Refused refusal) = IsRefused setup log refusal
IsVerified setup log placement TooLong = (known : Known) × IsContextOf setup log known × IsVerifiedBy known placement TooLong
IsVerified setup log placement (Misspelt line) = (known : Known) × IsContextOf setup log known × IsVerifiedBy known placement (Misspelt line)
IsVerified setup log placement (Judged checked) = (known : Known) × IsContextOf setup log known × IsVerifiedBy known placement (Judged checked)
