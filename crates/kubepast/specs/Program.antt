-- The answer of the program: a status and a text, of the words and the bytes of each name.
use Rattle.std.specs.Prelude.{◌≡◌, ◌⊎◌, ℕ, List, Option, Some, None, Result, Ok, Err, codes}
use Rattle.std.specs.Io.KnownBytes.{Keeps}
use Rattle.case_maker.specs.Case.{log_text, setup_text}
use Rattle.command_words.specs.Command.{Ask, Asked, Judge, Make, Strict, Verify, IsAsked}
use Rattle.context_intake.specs.declared.stop.Stop.{Stop}
use Rattle.context_intake.specs.declared.stop.Stop.TheVariants.{OutOfMemory, ReadFault}
use Rattle.edge_io.specs.Endings.{Ends}
use Rattle.log_verdict.specs.Answering.{IsHistory}
use Rattle.log_verdict.specs.Answers.{Answer, answer, history_answer, judged_answer, outcome_status, refusal_answer, status_number, strictly_answer, verified_answer}
use Rattle.log_verdict.specs.Endings.{IsBrokenStatus, IsVerdictStatus}
use Rattle.log_verdict.specs.Judging.{IsJudged}
use Rattle.log_verdict.specs.Strictly.{IsStrictlyJudged}
use Rattle.log_verdict.specs.Verifying.{IsVerified}
use Rattle.log_verdict.specs.declared.asking.Answered.{Answered}
use Rattle.log_verdict.specs.declared.judged.JudgedLog.{JudgedLog}
use Rattle.log_verdict.specs.declared.judged.JudgedLog.TheVariants.{Refused, Verdict}
use Rattle.log_verdict.specs.declared.report.Report.{Report}
use Rattle.log_verdict.specs.declared.strictly.StrictlyJudged.{StrictlyJudged}
use Rattle.log_verdict.specs.declared.verified.Verified.{Verified}
use Rattle.verdict_text.specs.Words.{ended}
use Rattle.kubepast.specs.Summary.{summary_text}

abbrev pub usage_answer : Answer
usage_answer = answer 2 (ended (codes "usage"))

-- of a made case the summary alone
abbrev pub made_answer : (number events : ℕ) → JudgedLog → Answer
made_answer number events (Refused refusal) = refusal_answer refusal
made_answer number events (Verdict outcome) = answer (outcome_status outcome) (summary_text number events outcome)

abbrev pub IsAnswerTo : Option Asked → (List ℕ → List ℕ) → Answer → Type 0
IsAnswerTo None files answered = answered ≡ usage_answer
IsAnswerTo (Some (Judge setup log)) files answered = (judged : JudgedLog) × IsJudged (files setup) (files log) judged × (answered ≡ judged_answer judged)
IsAnswerTo (Some (Strict setup log)) files answered = (found : StrictlyJudged) × IsStrictlyJudged (files setup) (files log) found × (answered ≡ strictly_answer found)
IsAnswerTo (Some (Verify setup log placement)) files answered =
    (verified : Verified) × IsVerified (files setup) (files log) (files placement) verified × (answered ≡ verified_answer verified)
IsAnswerTo (Some (Ask setup log question)) files answered =
    (found : Answered) × IsHistory (files setup) (files log) question found × (answered ≡ history_answer found)
IsAnswerTo (Some (Make number events)) files answered =
    (judged : JudgedLog) × IsJudged setup_text (log_text number events) judged × (answered ≡ made_answer number events judged)

-- the answer to the words, whose names have these bytes
abbrev pub IsAnswer : List (List ℕ) → (List ℕ → List ℕ) → Answer → Type 0
IsAnswer words files answered = (asked : Option Asked) × IsAsked words asked × IsAnswerTo asked files answered

-- a rule is broken, or a limit passed
abbrev pub IsRefusalStatus : ℕ → Type 0
IsRefusalStatus status = IsBrokenStatus status ⊎ (status ≡ 7)

-- the statuses that the table has for a command: a question isn't answered by no
abbrev pub IsStatusOf : Asked → ℕ → Type 0
IsStatusOf (Judge setup log) status = IsVerdictStatus status ⊎ IsRefusalStatus status
IsStatusOf (Strict setup log) status = IsVerdictStatus status ⊎ IsRefusalStatus status
IsStatusOf (Verify setup log placement) status = IsVerdictStatus status ⊎ IsRefusalStatus status
IsStatusOf (Ask setup log question) status = (status ≡ 0) ⊎ IsRefusalStatus status
IsStatusOf (Make number events) status = IsVerdictStatus status ⊎ IsRefusalStatus status

-- an answer of the table to the words, whatever was read: `usage` with 2 where they are no command, or some text with a
-- status of the command that they are
abbrev pub IsOfTable : List (List ℕ) → Answer → Type 0
IsOfTable words answered =
    (IsAsked words None × (answered ≡ usage_answer))
    ⊎ ((asked : Asked) × IsAsked words (Some asked) × IsStatusOf asked answered.status)

-- the report was written with its status, or why there is none; for want of memory nothing is written
abbrev pub Concludes : Result Report Stop → ℕ → ℕ → Option (List ℕ) → Option (List ℕ) → ℕ → Type 0
Concludes (Ok report) faults_before faults_now before now result =
    Ends (status_number report.status) report.text faults_before faults_now before now result
Concludes (Err ReadFault) faults_before faults_now before now result = Ends 5 (ended (codes "read fault")) faults_before faults_now before now result
Concludes (Err OutOfMemory) faults_before faults_now before now result = (result ≡ 8) × Keeps before now
