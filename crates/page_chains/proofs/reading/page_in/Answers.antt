use Rattle.std.proofs.Common.{◌≡◌, None, refl}
use Rattle.answer_class.specs.declared.answer.Answer.TheVariants.{Listed}
use Rattle.page_chains.specs.Pages.{page_in}
use Rattle.page_chains.proofs.reading.page_in.Goals as goal

-- only a list has pages
pub returns-in_default : goal.returns-in_default
returns-in_default c =
    elim c.args.answer as (λ a. c.args.answer ≡ a → None ≡ page_in c.args.event.now a) [
      | Listed group resource scope revision whole items selector ↦ λ e. absurd (c.in_default.not-Listed group resource scope revision whole items selector e)
      | _ ↦ λ e. refl
    ] refl
