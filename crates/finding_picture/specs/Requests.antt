-- What the event asked, what it was answered, and what the answer shows.
use Rattle.finding_picture.specs.Texts.{checkpoint}
use Rattle.std.specs.Prelude.{ℕ, List, [], ◌∷◌, ◌++◌, Option, Some, None, codes}
use Rattle.std.specs.List.{flat_map}
use Rattle.audit_event.specs.declared.event.Event.{Event}
use Rattle.audit_event.specs.declared.event.Status.{Status}
use Rattle.base_types.specs.declared.kubernetes.request.Decision.{Decision}
use Rattle.base_types.specs.declared.kubernetes.request.Decision.TheVariants.{Allow, Forbid}
use Rattle.base_types.specs.declared.kubernetes.request.Pair.{Pair}
use Rattle.base_types.specs.declared.kubernetes.request.User.{User}
use Rattle.base_types.specs.declared.kubernetes.revision.Moment.{Moment}
use Rattle.markup.specs.Moments.{moment_text}
use Rattle.markup.specs.Pieces.{fixed, number, told, shown}
use Rattle.write_groups.specs.declared.event.LogEvent.{LogEvent}
use Rattle.finding_picture.specs.Showing.{showing_text}

-- a name of the program's own, and a text of the input
unfoldable pub entry_text : List ℕ → List ℕ → List ℕ
entry_text name text = shown (fixed (codes "<dt>") ∷ fixed name ∷ fixed (codes "</dt><dd>") ∷ told text ∷ fixed (codes "</dd>\n") ∷ [])

unfoldable pub pair_text : Pair → List ℕ
pair_text pair = shown (
    fixed (codes "<dt>Query</dt><dd><code>") ∷ told pair.name ∷ fixed (codes "</code> is <code>") ∷ told pair.value ∷ fixed (codes "</code></dd>\n") ∷ [])

abbrev pub group_text : List ℕ → List ℕ
group_text group = entry_text (codes "Group") group

-- a user under a name of the program's own, and the user's groups
unfoldable pub user_text : List ℕ → User → List ℕ
user_text name user = entry_text name user.name ++ flat_map group_text user.groups

unfoldable pub impersonated_text : Option User → List ℕ
impersonated_text None = []
impersonated_text (Some user) = user_text (codes "Impersonated user") user

unfoldable pub status_text : Status → Option ℕ → List ℕ
status_text status None = shown (fixed (codes "<dt>Answer</dt><dd>none: the request panicked</dd>\n") ∷ [])
status_text status (Some code) = shown (fixed (codes "<dt>Answer</dt><dd>") ∷ number code ∷ fixed (codes " ") ∷ told status.reason ∷ fixed (codes "</dd>\n") ∷ [])

abbrev pub decision_word : Option Decision → List ℕ
decision_word None = codes "not recorded"
decision_word (Some Allow) = codes "allow"
decision_word (Some Forbid) = codes "forbid"

unfoldable pub decision_text : Option Decision → List ℕ
decision_text decision = shown (fixed (codes "<dt>Decision</dt><dd>") ∷ fixed (decision_word decision) ∷ fixed (codes "</dd>\n") ∷ [])

unfoldable pub asked_text : Event → List ℕ
asked_text event =
    entry_text (codes "Verb") event.attrs.verb
    ++ (entry_text (codes "Path") event.attrs.path
    ++ (flat_map pair_text event.attrs.query
    ++ (user_text (codes "User") event.user
    ++ impersonated_text event.impersonated)))

-- a name of the program's own, and a moment
unfoldable pub time_entry : List ℕ → Moment → List ℕ
time_entry name at = shown (fixed (codes "<dt>") ∷ fixed name ∷ fixed (codes "</dt><dd>") ∷ []) ++ (moment_text at ++ shown (fixed (codes "</dd>\n") ∷ []))

unfoldable pub answered_text : Event → List ℕ
answered_text event =
    time_entry (codes "Received") event.received
    ++ (time_entry (codes "Staged") event.staged
    ++ (status_text event.status event.status.code
    ++ decision_text event.decision))

-- the event itself, of the log; of a checkpoint, that it is one
unfoldable pub event_text : Option Event → List ℕ
event_text None = shown (fixed checkpoint ∷ [])
event_text (Some event) =
    shown (fixed (codes "<h2>The event</h2>\n<dl>\n") ∷ [])
    ++ (asked_text event
    ++ answered_text event)

-- behind it what its answer shows
unfoldable pub request_text : Option Event → Option LogEvent → List ℕ
request_text event logged =
    event_text event
    ++ (showing_text logged
    ++ shown (fixed (codes "</dl>\n") ∷ []))
