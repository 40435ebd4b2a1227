-- The texts of the five questions.
use Rattle.std.specs.Prelude.{ℕ, List}
use Rattle.log_context.specs.Known.{Known}
use Rattle.history_query.specs.Blaming.{IsBlameText}
use Rattle.history_query.specs.Deciding.{IsCanText}
use Rattle.history_query.specs.Showing.{IsShowText}
use Rattle.history_query.specs.States.{IsStateText}
use Rattle.history_query.specs.Versions.{IsVersionsText}
use Rattle.history_query.specs.declared.question.Question.{Question}
use Rattle.history_query.specs.declared.question.Question.TheVariants.{Show, Versions, State, Blame, Can}

-- what is answered to a question, of what a setup and a log tell
abbrev pub IsHistoryText : Known → Question → List ℕ → Type 0
IsHistoryText known (Show key place) text = IsShowText known key place text
IsHistoryText known (Versions key) text = IsVersionsText known key text
IsHistoryText known (State place) text = IsStateText known place text
IsHistoryText known (Blame key pointer place) text = IsBlameText known key pointer place text
IsHistoryText known (Can place who attrs) text = IsCanText known place who attrs text
