-- The words and the bytes have one answer.
use Rattle.std.proofs.Common.{◌≡◌, ℕ, List, Option, Some, None, sym, ◌∙◌, ap, subst}
use Rattle.case_maker.specs.Case.{log_text, setup_text}
use Rattle.command_words.proofs.AskedFacts.{one_asked}
use Rattle.command_words.specs.Command.{Ask, Asked, IsAsked, Judge, Make, Strict, Verify}
use Rattle.history_query.specs.OneText.{OneText}
use Rattle.log_verdict.proofs.OnceFacts.{OneCheck, history_once, judged_once, strictly_once, verified_once}
use Rattle.log_verdict.specs.Answers.{Answer, history_answer, judged_answer, strictly_answer, verified_answer}
use Rattle.kubepast.specs.OneAnswer.{OneAnswer}
use Rattle.kubepast.specs.Program.{IsAnswerTo, made_answer}

answered_once : OneCheck → OneText → (asked : Option Asked) (files : List ℕ → List ℕ) (a b : Answer) → IsAnswerTo asked files a → IsAnswerTo asked files b → a ≡ b
answered_once once text None files a b x y = x ∙ sym y
answered_once once text (Some (Judge setup log)) files a b (judged, is, told) (judged', is', told') = told ∙ ap judged_answer (judged_once (files setup) (files log) judged judged' is is') ∙ sym told'
answered_once once text (Some (Strict setup log)) files a b (found, is, told) (found', is', told') =
    told ∙ ap strictly_answer (strictly_once (files setup) (files log) found found' is is') ∙ sym told'
answered_once once text (Some (Verify setup log placement)) files a b (found, is, told) (found', is', told') =
    told ∙ ap verified_answer (verified_once once (files setup) (files log) (files placement) found found' is is') ∙ sym told'
answered_once once text (Some (Ask setup log question)) files a b (found, is, told) (found', is', told') =
    told ∙ ap history_answer (history_once text (files setup) (files log) question found found' is is') ∙ sym told'
answered_once once text (Some (Make number events)) files a b (judged, is, told) (judged', is', told') = told ∙ ap (made_answer number events) (judged_once setup_text (log_text number events) judged judged' is is') ∙ sym told'

pub one_answer : OneCheck → OneText → OneAnswer
one_answer check text = λ words files a b (asked, spelled, x) (asked', spelled', y). once words files a b asked asked' spelled spelled' x y
  where
    once : (words : List (List ℕ)) (files : List ℕ → List ℕ) (a b : Answer) (asked asked' : Option Asked) → IsAsked words asked → IsAsked words asked' → IsAnswerTo asked files a → IsAnswerTo asked' files b → a ≡ b
    once words files a b asked asked' spelled spelled' x y = answered_once check text asked files a b x (subst (λ o. IsAnswerTo o files b) (one_asked words asked' asked spelled' spelled) y)
