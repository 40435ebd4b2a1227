-- The level and the stage of an audit event (Kubernetes "Auditing").
use Rattle.std.specs.Prelude.{ℕ, List, Option, Some, None, option_and_then, bytes_eq, codes, if◌then◌else◌}
use Rattle.serde_json.specs.Data.{Data}
use Rattle.base_types.specs.declared.kubernetes.request.Level.{Level}
use Rattle.base_types.specs.declared.kubernetes.request.Level.TheVariants.{Metadata, Request, RequestResponse}
use Rattle.base_types.specs.declared.kubernetes.request.Stage.{Stage}
use Rattle.base_types.specs.declared.kubernetes.request.Stage.TheVariants.{Received, Started, Complete, Panic}
use Rattle.audit_event.specs.Members.{text_at}

abbrev pub level_named : List ℕ → Option Level
level_named name =
    if bytes_eq name (codes "Metadata") then Some Metadata
    else (if bytes_eq name (codes "Request") then Some Request
    else (if bytes_eq name (codes "RequestResponse") then Some RequestResponse else None))

abbrev pub level_in : Data → Option Level
level_in value = option_and_then level_named (text_at (codes "level") value)

abbrev pub stage_named : List ℕ → Option Stage
stage_named name =
    if bytes_eq name (codes "RequestReceived") then Some Received
    else (if bytes_eq name (codes "ResponseStarted") then Some Started
    else (if bytes_eq name (codes "ResponseComplete") then Some Complete
    else (if bytes_eq name (codes "Panic") then Some Panic else None)))

abbrev pub stage_in : Data → Option Stage
stage_in value = option_and_then stage_named (text_at (codes "stage") value)
