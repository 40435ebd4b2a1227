-- A setup and a log come to one thing.
use Rattle.std.proofs.Common.{◌≡◌, ℕ, List, map, slice_get, refl, sym, ◌∙◌, ap, subst, arith}
use Rattle.std.proofs.lemmas.Option.{same_Some}
use Rattle.base_types.specs.declared.verdict.placed.Outcome.{Outcome}
use Rattle.base_types.specs.declared.verdict.placed.PlacedLine.{PlacedLine}
use Rattle.base_types.specs.declared.verdict.placed.Outcome.TheVariants as printed
use Rattle.context_intake.proofs.OneContextFacts.{one_context, one_refusal, one_way}
use Rattle.history_model.specs.Histories.{History}
use Rattle.history_model.specs.Outcomes as model
use Rattle.history_model.specs.Readable.{IsReadable}
use Rattle.history_model.proofs.OneOutcome.{one_outcome_is}
use Rattle.history_query.specs.OneText.{OneText}
use Rattle.history_query.specs.declared.question.Question.{Question}
use Rattle.log_moments.specs.Answers.{IsStrictAnswer}
use Rattle.log_moments.proofs.OneAnswer.{one_strict_answer}
use Rattle.serial_machine.specs.Checks.{IsChecked}
use Rattle.serial_machine.specs.declared.checked.Checked.{Checked}
use Rattle.verdict_text.proofs.BegunFacts.{explained_agree}
use Rattle.log_context.specs.Answered.{names}
use Rattle.log_context.specs.Histories.{history_of}
use Rattle.log_context.specs.Known.{Known}
use Rattle.window_writes.specs.Lines.{write_line}
use Rattle.log_verdict.specs.Answering.{IsHistory}
use Rattle.log_verdict.specs.Judging.{IsJudged, IsOutcomeOf, IsPrinted}
use Rattle.log_verdict.specs.Strictly.{IsExplained, IsStrictlyJudged}
use Rattle.log_verdict.specs.Verifying.{IsVerified}
use Rattle.log_verdict.specs.declared.asking.Answered.{Answered}
use Rattle.log_verdict.specs.declared.asking.Answered.TheVariants as answered
use Rattle.log_verdict.specs.declared.judged.JudgedLog.{JudgedLog}
use Rattle.log_verdict.specs.declared.judged.JudgedLog.TheVariants.{Refused, Verdict}
use Rattle.log_verdict.specs.declared.strictly.StrictlyJudged.{StrictlyJudged}
use Rattle.log_verdict.specs.declared.strictly.StrictlyJudged.TheVariants.{Plain, Settled}
use Rattle.log_verdict.specs.declared.verified.Verified.{Verified}
use Rattle.log_verdict.specs.declared.verified.Verified.TheVariants as verified

-- an outcome has one text of its event
one_text : (x y : Known) (found : model.Outcome) (a b : Outcome) → history_of x ≡ history_of y → names x.setup x.events ≡ names y.setup y.events → IsPrinted x found a → IsPrinted y found b → a ≡ b
one_text x y (model.Explained lines) a b histories called p q = p ∙ sym q
one_text x y (model.Unexplained number reason low high writes) a b histories called (event, name, at, named, is) (event', name', at', named', is') =
    let here : slice_get (history_of x).events number ≡ slice_get (history_of y).events number = ap (λ (h : History). slice_get h.events number) histories in
    let events : event ≡ event' = same_Some event event' (sym at ∙ here ∙ at') in
    let texts : name ≡ name' = same_Some name name' (sym named ∙ ap (λ all. slice_get all number) called ∙ named') in
    let told : printed.Unexplained event.line name reason low high (map write_line writes) ≡ printed.Unexplained event'.line name' reason low high (map write_line writes) = λ i. printed.Unexplained (events i).line (texts i) reason low high (map write_line writes) in
    is ∙ told ∙ sym is'

one_verdict : (x y : Known) (a b : Outcome) → x.setup ≡ y.setup → x.events ≡ y.events → history_of x ≡ history_of y → IsReadable (history_of y) → IsOutcomeOf x a → IsOutcomeOf y b → a ≡ b
one_verdict x y a b setups logs histories readable v w =
    let called : names x.setup x.events ≡ names y.setup y.events = λ i. names (setups i) (logs i) in
    let found : v.found ≡ w.found = one_outcome_is (history_of y) v.found w.found readable (subst (λ h. model.IsOutcome h v.found) histories v.is) w.is in
    one_text x y w.found a b histories called (subst (λ o. IsPrinted x o a) found v.printed) w.printed

pub judged_once : (setup log : List ℕ) (a b : JudgedLog) → IsJudged setup log a → IsJudged setup log b → a ≡ b
judged_once setup log (Refused a) (Refused b) x y = ap Refused (one_refusal setup log a b x y)
judged_once setup log (Refused a) (Verdict b) x (known, context, outcome) = absurd (one_way setup log a known x context)
judged_once setup log (Verdict a) (Refused b) (known, context, outcome) y = absurd (one_way setup log b known y context)
judged_once setup log (Verdict a) (Verdict b) (known, context, outcome) (known', context', outcome') =
    let same = one_context setup log known known' context context' in
    ap Verdict (one_verdict known known' a b same.0 same.1 same.2 context'.told.readable outcome outcome')

pub strictly_once : (setup log : List ℕ) (a b : StrictlyJudged) → IsStrictlyJudged setup log a → IsStrictlyJudged setup log b → a ≡ b
strictly_once setup log (Plain a) (Plain b) x y = ap Plain (judged_once setup log a b x.0 y.0)
strictly_once setup log (Plain (Refused a)) (Settled outcome answer) x (known, context, settled) = absurd (one_way setup log a known x.0 context)
strictly_once setup log (Plain (Verdict a)) (Settled outcome answer) x (known, context, settled) =
    let here = x.0 in
    let same = one_context setup log here.0 known here.1 context in
    absurd (x.1 (subst IsExplained (sym (one_verdict here.0 known a outcome same.0 same.1 same.2 context.told.readable here.2 settled.is)) settled.explained))
strictly_once setup log (Settled outcome answer) (Plain (Refused b)) (known, context, settled) y = absurd (one_way setup log b known y.0 context)
strictly_once setup log (Settled outcome answer) (Plain (Verdict b)) (known, context, settled) y =
    let here = y.0 in
    let same = one_context setup log known here.0 context here.1 in
    absurd (y.1 (subst IsExplained (one_verdict known here.0 outcome b same.0 same.1 same.2 here.1.told.readable settled.is here.2) settled.explained))
strictly_once setup log (Settled outcome answer) (Settled outcome' answer') (known, context, settled) (known', context', settled') =
    let same = one_context setup log known known' context context' in
    let outcomes = one_verdict known known' outcome outcome' same.0 same.1 same.2 context'.told.readable settled.is settled'.is in
    let answers = one_strict_answer (history_of known') answer answer' (subst (λ h. IsStrictAnswer h answer) same.2 settled.strict) settled'.strict in
    λ i. Settled (outcomes i) (answers i)

-- a placement comes to one answer
abbrev pub OneCheck : Type 0
OneCheck = (h : History) (lines : List PlacedLine) (answer other : Checked) → IsReadable h → IsChecked h lines answer → IsChecked h lines other → answer ≡ other

pub verified_once : OneCheck → (setup log placement : List ℕ) (a b : Verified) → IsVerified setup log placement a → IsVerified setup log placement b → a ≡ b
verified_once once setup log placement (verified.Refused a) (verified.Refused b) x y = ap verified.Refused (one_refusal setup log a b x y)
verified_once once setup log placement (verified.Refused a) verified.TooLong x (known, context, of) = absurd (one_way setup log a known x context)
verified_once once setup log placement (verified.Refused a) (verified.Misspelt line) x (known, context, of) = absurd (one_way setup log a known x context)
verified_once once setup log placement (verified.Refused a) (verified.Judged checked) x (known, context, of) = absurd (one_way setup log a known x context)
verified_once once setup log placement verified.TooLong (verified.Refused b) (known, context, of) y = absurd (one_way setup log b known y context)
verified_once once setup log placement verified.TooLong verified.TooLong x y = refl
verified_once once setup log placement verified.TooLong (verified.Misspelt line) (known, context, long) (known', context', short) = absurd (let few = short.0 in omega (arith, long, few))
verified_once once setup log placement verified.TooLong (verified.Judged checked) (known, context, long) (known', context', short) = absurd (let few = short.0 in omega (arith, long, few))
verified_once once setup log placement (verified.Misspelt line) (verified.Refused b) (known, context, of) y = absurd (one_way setup log b known y context)
verified_once once setup log placement (verified.Misspelt line) verified.TooLong (known, context, short) (known', context', long) = absurd (let few = short.0 in omega (arith, long, few))
verified_once once setup log placement (verified.Misspelt line) (verified.Misspelt line') (known, context, x) (known', context', y) = ap verified.Misspelt (y.1.alone line x.1.breaks)
verified_once once setup log placement (verified.Misspelt line) (verified.Judged checked) (known, context, x) (known', context', y) = absurd (x.1.refused (y.1.0, y.1.1.lines_are, y.1.1.spelled))
verified_once once setup log placement (verified.Judged checked) (verified.Refused b) (known, context, of) y = absurd (one_way setup log b known y context)
verified_once once setup log placement (verified.Judged checked) verified.TooLong (known, context, short) (known', context', long) = absurd (let few = short.0 in omega (arith, long, few))
verified_once once setup log placement (verified.Judged checked) (verified.Misspelt line) (known, context, x) (known', context', y) = absurd (y.1.refused (x.1.0, x.1.1.lines_are, x.1.1.spelled))
verified_once once setup log placement (verified.Judged a) (verified.Judged b) (known, context, x) (known', context', y) =
    let same = one_context setup log known known' context context' in
    let lines : x.1.0 ≡ y.1.0 = explained_agree x.1.0 y.1.0 x.1.1.lines_are y.1.1.lines_are (x.1.1.spelled ∙ sym y.1.1.spelled) in
    ap verified.Judged (once (history_of known') y.1.0 a b context'.told.readable (subst (λ l. IsChecked (history_of known') l a) lines (subst (λ h. IsChecked h x.1.0 a) same.2 x.1.2)) y.1.2)

pub history_once : OneText → (setup log : List ℕ) (question : Question) (a b : Answered) → IsHistory setup log question a → IsHistory setup log question b → a ≡ b
history_once once setup log question (answered.Refused a) (answered.Refused b) x y = ap answered.Refused (one_refusal setup log a b x y)
history_once once setup log question (answered.Refused a) (answered.History text) x (known, context, of) = absurd (one_way setup log a known x context)
history_once once setup log question (answered.History text) (answered.Refused b) (known, context, of) y = absurd (one_way setup log b known y context)
history_once once setup log question (answered.History a) (answered.History b) (known, context, of) (known', context', of') =
    let same = one_context setup log known known' context context' in
    ap answered.History (once known known' question a b context.told context'.told same.0 same.1 of of')
