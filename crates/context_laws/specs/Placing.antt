-- What the placement of an explained log comes to.
use Rattle.std.specs.Prelude.{◌≤◌, ℕ, List, length}
use Rattle.base_types.specs.declared.verdict.placed.PlacedLine.{PlacedLine}
use Rattle.context_intake.specs.Contexts.{IsContextOf}
use Rattle.history_model.specs.Checking.{IsVerified}
use Rattle.history_model.specs.Outcomes.{Explained, IsOutcome}
use Rattle.verdict_text.specs.Outcome.{explained_text}
use Rattle.verdict_text.specs.Reading.{IsPlacement}
use Rattle.log_context.specs.Histories.{history_of}
use Rattle.log_context.specs.Known.{Known}

-- its text has at most so many bytes: 31 in the first line, 141 in that of each of 4,194,304 events, and 55 in that of
-- each of 4,204,304 checkpoints
abbrev pub longest_text : ℕ
longest_text = 822633615

-- the lines have one text, which can be read, and the machine runs through them
pub record IsRightPlacement (known : Known) (lines : List PlacedLine) : Type 0 where
  pub readable : IsPlacement lines
  pub short : length (explained_text lines) ≤ longest_text
  pub verified : IsVerified (history_of known) lines

-- it is so of each log that is explained
abbrev pub ExplainedAreRight : Type 0
ExplainedAreRight = (setup log : List ℕ) (known : Known) (lines : List PlacedLine)
    → IsContextOf setup log known → IsOutcome (history_of known) (Explained lines) → IsRightPlacement known lines
