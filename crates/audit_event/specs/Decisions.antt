-- What an authorizer decided, as the annotation `authorization.k8s.io/decision` records it.
use Rattle.std.specs.Prelude.{ℕ, List, Option, Some, None, option_and_then, bytes_eq, codes, if◌then◌else◌}
use Rattle.serde_json.specs.Data.{Data}
use Rattle.serde_json.specs.Find.{get}
use Rattle.base_types.specs.declared.kubernetes.request.Decision.{Decision}
use Rattle.base_types.specs.declared.kubernetes.request.Decision.TheVariants.{Allow, Forbid}
use Rattle.audit_event.specs.Members.{text_at}

abbrev pub decision_named : List ℕ → Option Decision
decision_named name =
    if bytes_eq name (codes "allow") then Some Allow
    else (if bytes_eq name (codes "forbid") then Some Forbid else None)

abbrev pub decision_in : Data → Option Decision
decision_in value =
    option_and_then decision_named (option_and_then (text_at (codes "authorization.k8s.io/decision")) (get (codes "annotations") value))
