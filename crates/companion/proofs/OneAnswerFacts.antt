-- The words and the bytes have one answer.
use Rattle.std.proofs.Common.{◌≡◌, ℕ, Bool, true, false, List, Option, Some, None, map, inl, inr, refl, sym, ◌∙◌, ap, subst, arith}
use Rattle.cluster_setup.proofs.OneAnswerFacts.{one_setup_answer}
use Rattle.companion_words.specs.Command.{Asked, Explain, IsAsked, Picture, Setup, Sift}
use Rattle.log_picture.specs.Page.{OnePage}
use Rattle.log_sift.proofs.OneFacts.{one_sifting}
use Rattle.log_sift.specs.Named.{sifted_text}
use Rattle.log_sift.specs.Sifted.{IsSifting, count_stays, kept_text, left_lines}
use Rattle.log_sift.specs.Telling.{left_text}
use Rattle.log_sift.specs.declared.answer.Fate.{Fate}
use Rattle.log_sift.specs.declared.answer.Sifting.{Sifting}
use Rattle.log_verdict.specs.Answers.{Answer, answer}
use Rattle.companion.specs.Making.{IsMadeAnswer, IsSetupAnswer, refused_answer}
use Rattle.companion.specs.OneAnswer.{OneAnswer}
use Rattle.companion.specs.Program.{IsAnswerTo}
use Rattle.companion.specs.Sifted.{IsSiftAnswer}
use Rattle.companion.proofs.AskedFacts.{one_command}
use Rattle.companion.proofs.PageFacts.{pictured_once}

-- the words ask for one thing
one_asked : (words : List (List ℕ)) (a b : Option Asked) → IsAsked words a → IsAsked words b → a ≡ b
one_asked words None None x y = refl
one_asked words None (Some b) x y = absurd (x b y)
one_asked words (Some a) None x y = absurd (y a x)
one_asked words (Some a) (Some b) x y = ap Some (one_command words a b x y)

-- a log is sifted into one text
text_once : (left : Bool) (log : List ℕ) (fates fates' : List Fate) (a b : Sifting) → IsSifting log fates a → IsSifting log fates' b → sifted_text left log a ≡ sifted_text left log b
text_once false log fates fates' a b x y = x.stays ∙ ap (kept_text log) (one_sifting log fates fates' x.sifted y.sifted) ∙ sym y.stays
text_once true log fates fates' a b x y =
    let same = one_sifting log fates fates' x.sifted y.sifted in
    let lines : a.left ≡ b.left = x.left ∙ ap (left_lines 0) same ∙ sym y.left in
    let counts : a.kept ≡ b.kept = x.kept ∙ ap count_stays same ∙ sym y.kept in
    λ i. left_text (record { stays = a.stays; left = lines i; kept = counts i })

sift_once : (left : Bool) (log : List ℕ) (a b : Answer) → IsSiftAnswer left log a → IsSiftAnswer left log b → a ≡ b
sift_once left log a b (inl x) (inl y) = x.1 ∙ sym y.1
sift_once left log a b (inl x) (inr y) = absurd (let long = x.0 in let short = y.0 in omega (arith, long, short))
sift_once left log a b (inr x) (inl y) = absurd (let long = y.0 in let short = x.0 in omega (arith, long, short))
sift_once left log a b (inr (short, (fates, sifting, is, told))) (inr (short', (fates', sifting', is', told'))) =
    told ∙ ap (answer 0) (text_once left log fates fates' sifting sifting' is is') ∙ sym told'

-- a setup is made in one way, or refused for one reason
module _ (authorize : Bool) (time policy : List ℕ) (names files : List (List ℕ)) (a b : Answer) where
  made_once : IsMadeAnswer authorize time policy names files a → IsMadeAnswer authorize time policy names files b → a ≡ b
  made_once (inl (line, made, tells, told)) (inl (line', made', tells', told')) =
      told ∙ ap (answer 0) (one_setup_answer.texts time policy files authorize line line' made made') ∙ sym told'
  made_once (inl (line, made, tells, told)) (inr (refusal, refuses, told')) = absurd (one_setup_answer.apart time policy files authorize line refusal made refuses)
  made_once (inr (refusal, refuses, told)) (inl (line, made, tells, told')) = absurd (one_setup_answer.apart time policy files authorize line refusal made refuses)
  made_once (inr (refusal, refuses, told)) (inr (refusal', refuses', told')) =
      told ∙ ap (refused_answer names) (one_setup_answer.refusals time policy files authorize refusal refusal' refuses refuses') ∙ sym told'

  setup_once : IsSetupAnswer authorize time policy names files a → IsSetupAnswer authorize time policy names files b → a ≡ b
  setup_once (inl x) (inl y) = x.1 ∙ sym y.1
  setup_once (inl x) (inr y) = absurd (y.0 x.0)
  setup_once (inr x) (inl y) = absurd (x.0 y.0)
  setup_once (inr x) (inr y) = made_once x.1 y.1

answered_once : OnePage → (asked : Option Asked) (files : List ℕ → List ℕ) (a b : Answer) → IsAnswerTo asked files a → IsAnswerTo asked files b → a ≡ b
answered_once page None files a b x y = x ∙ sym y
answered_once page (Some (Explain text)) files a b x y = x ∙ sym y
answered_once page (Some (Sift left log)) files a b x y = sift_once left (files log) a b x y
answered_once page (Some (Setup authorize time policy names)) files a b x y = setup_once authorize time (files policy) names (map files names) a b x y
answered_once page (Some (Picture setup log)) files a b x y = pictured_once page (files setup) (files log) a b x y

pub one_answer : OnePage → OneAnswer
one_answer page = λ words files a b (asked, spelled, x) (asked', spelled', y). once words files a b asked asked' spelled spelled' x y
  where
    once : (words : List (List ℕ)) (files : List ℕ → List ℕ) (a b : Answer) (asked asked' : Option Asked) → IsAsked words asked → IsAsked words asked' → IsAnswerTo asked files a → IsAnswerTo asked' files b → a ≡ b
    once words files a b asked asked' spelled spelled' x y = answered_once page asked files a b x (subst (λ o. IsAnswerTo o files b) (one_asked words asked' asked spelled' spelled) y)
