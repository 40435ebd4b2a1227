-- What a setup and a log come to as a page.
use Rattle.std.proofs.Common.{inl, inr, ℕ, List, Option, subst}
use Rattle.std.specs.Io.KnownBytes.{IsAtEnd}
use Rattle.context_intake.specs.Contexts.{IsToldBy}
use Rattle.context_intake.specs.Taking.{IsReadFor}
use Rattle.context_intake.specs.declared.told.Intake.{Intake}
use Rattle.context_intake.specs.declared.told.Intake.TheVariants as told
use Rattle.log_verdict.specs.Answers.{Answer}
use Rattle.log_verdict.proofs.RefusedFacts.{refused_apart, refused_read}
use Rattle.companion.specs.Picturing.{HasBrokenRule, HasPage, IsPictured, IsPicturedFrom}

-- what they tell decides
pub pictured_told : (setup log : List ℕ) (found : Intake) (answered : Answer) → IsToldBy setup log found → IsPicturedFrom found answered → IsPictured setup log answered
pictured_told setup log (told.Refused refusal) answered is from = inl (refusal, is, from)
pictured_told setup log (told.Context known) answered is from = inr (known, is, from)

-- what was read to its end before a page, and before a rule is said to be broken
module _ (setup log : Option (List ℕ)) where
  pub page_read : (found : Intake) (answered : Answer) → IsPicturedFrom found answered → IsReadFor found setup log → HasPage answered → IsAtEnd setup × IsAtEnd log
  page_read (told.Refused refusal) answered from read page = absurd (refused_apart refusal (subst HasPage from page))
  page_read (told.Context known) answered from read page = read

  pub setup_read : (found : Intake) (answered : Answer) → IsPicturedFrom found answered → IsReadFor found setup log → HasBrokenRule answered → IsAtEnd setup
  setup_read (told.Refused refusal) answered from read broken = refused_read refusal setup log read (subst HasBrokenRule from broken)
  setup_read (told.Context known) answered from read broken = read.0
