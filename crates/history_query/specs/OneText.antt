-- A question has one answer, of a setup and the events of a log.
use Rattle.std.specs.Prelude.{◌≡◌, ℕ, List}
use Rattle.log_context.specs.Known.{Known}
use Rattle.log_context.specs.Told.{IsTold}
use Rattle.history_query.specs.Questions.{IsHistoryText}
use Rattle.history_query.specs.declared.question.Question.{Question}

abbrev pub OneText : Type 0
OneText = (a b : Known) (question : Question) (text other : List ℕ) → IsTold a → IsTold b → a.setup ≡ b.setup → a.events ≡ b.events
    → IsHistoryText a question text → IsHistoryText b question other → text ≡ other
