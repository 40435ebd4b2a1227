-- Why a write could not have made its revision.
use Rattle.std.proofs.Common.{◌≡◌, ℕ, List, Some, None, sym, ◌∙◌, subst}
use Rattle.std.proofs.lemmas.Option.{same_Some}
use Rattle.history_model.specs.Groups.{Making, IsMaking}
use Rattle.history_model.specs.Histories.{History}
use Rattle.past_building.proofs.Numbered.{making_from, making_is}
use Rattle.past_building.specs.Written.{making_at}
use Rattle.write_groups.specs.Modelled.{HasEvents}
use Rattle.write_groups.specs.declared.event.LogEvent.{LogEvent}

-- the write of the number is the only one
pub making_same : (h : History) (log : List LogEvent) → HasEvents log h → (number : ℕ) (m found : Making) → IsMaking h m → m.number ≡ number → Some found ≡ making_at log number → found ≡ m
making_same h log all number m found is same at = same_Some found m (at ∙ subst (λ n. making_at log n ≡ Some m) same (making_from h log m all is))

pub making_none : (h : History) (log : List LogEvent) → HasEvents log h → (number : ℕ) (m : Making) → IsMaking h m → m.number ≡ number → None ≡ making_at log number → ⊥
making_none h log all number m is same at = cc (at ∙ subst (λ n. making_at log n ≡ Some m) same (making_from h log m all is))

-- the write of the number is one of the history
pub making_there : (h : History) (log : List LogEvent) → HasEvents log h → (number : ℕ) (found : Making) → Some found ≡ making_at log number → IsMaking h found × (found.number ≡ number)
making_there h log all number found at = making_is h log number found all (sym at)
