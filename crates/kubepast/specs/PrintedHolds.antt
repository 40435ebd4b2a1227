-- The check of what `judge` printed of an explained log.
use Rattle.std.specs.Prelude.{◌≡◌, ℕ, List, Some, codes}
use Rattle.base_types.specs.declared.verdict.placed.Outcome.TheVariants.{Explained}
use Rattle.base_types.specs.declared.verdict.placed.PlacedLine.{PlacedLine}
use Rattle.verdict_text.specs.Outcome.{outcome_text}
use Rattle.verdict_text.specs.Words.{ended}
use Rattle.command_words.specs.Command.{Verify}
use Rattle.log_verdict.specs.Answers.{answer}
use Rattle.log_verdict.specs.Judging.{IsJudged}
use Rattle.kubepast.specs.Program.{IsAnswerTo}
use Rattle.log_verdict.specs.declared.judged.JudgedLog.TheVariants.{Verdict}

-- an explained log's text holds as its placement
abbrev pub PrintedHolds : Type 0
PrintedHolds = (files : List ℕ → List ℕ) (setup log placement : List ℕ) (lines : List PlacedLine)
    → IsJudged (files setup) (files log) (Verdict (Explained lines)) → files placement ≡ outcome_text (Explained lines)
    → IsAnswerTo (Some (Verify setup log placement)) files (answer 0 (ended (codes "holds")))
