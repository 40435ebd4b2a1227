use Rattle.std.proofs.Common.{◌≡◌, ◌∙◌, ◌<◌, ◌++◌, ◌∷◌, [], ℕ, zero, suc, ap, arith, length, subst, sym}
use Rattle.std.specs.List.{All, slice_index_or}
use Rattle.audit_event.specs.declared.event.Event.{Event}
use Rattle.audit_event.specs.Events.{IsSound}
use Rattle.worked_logs.proofs.log_rows.log_with.Goals as goal

all_of_one : (one : Event) → IsSound one → (k : ℕ) (d : Event) → k < length (one ∷ []) → IsSound (slice_index_or (one ∷ []) k d)
all_of_one one sound zero d within = sound
all_of_one one sound (suc k) d within = absurd (omega arith)

pub returns-clause-sound : goal.returns-clause-sound
returns-clause-sound g c =
    let pushed : c.push.new.events ≡ c.event-read.result ∷ [] = c.push.ensures ∙ ap (λ l. l ++ c.event-read.result ∷ []) c.new-events.ensures in
    subst (All IsSound) (sym pushed) (all_of_one c.event-read.result c.event-read.ensures)
