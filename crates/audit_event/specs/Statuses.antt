-- How a request was answered (Kubernetes `audit.k8s.io/v1`, Event: `responseStatus`; `meta/v1`, Status).
use Rattle.std.specs.Prelude.{ℕ, ◌==◌, ◌&&◌, Bool, Option, Some, None, option_and_then, nat_le, bytes_eq, codes, if◌then◌else◌}
use Rattle.serde_json.specs.Data.{Data}
use Rattle.serde_json.specs.Find.{get, as_number, as_u64, as_object}
use Rattle.base_types.specs.Texts.{◌>>=◌}
use Rattle.base_types.specs.declared.kubernetes.request.Stage.{Stage}
use Rattle.base_types.specs.declared.kubernetes.request.Stage.TheVariants.{Received, Started, Complete, Panic}
use Rattle.audit_event.specs.declared.event.Status.{Status}
use Rattle.audit_event.specs.Bodies.{is_kept, response_in}
use Rattle.audit_event.specs.Members.{says, present, text_or_empty}

abbrev pub up_to_999 : ℕ → Option (Option ℕ)
up_to_999 number = if nat_le number 999 then Some (Some number) else None

-- the `code` of a status, if it has one; null is no code
abbrev pub code_number : Option Data → Option (Option ℕ)
code_number None = Some None
code_number (Some value) = option_and_then up_to_999 (option_and_then as_u64 (as_number value))

abbrev pub code_of : Option Data → Option (Option ℕ)
code_of None = Some None
code_of (Some status) = as_object status >>= (λ _. code_number (get (codes "code") status))

abbrev pub code_in : Data → Option (Option ℕ)
code_in value = code_of (present (codes "responseStatus") value)

-- 0 is no code
abbrev pub unless_zero : ℕ → Option ℕ
unless_zero number = if number == 0 then None else Some number

-- nor is that of a request which panicked
abbrev pub answered_code : Stage → Option ℕ → Option ℕ
answered_code Received code = option_and_then unless_zero code
answered_code Started code = option_and_then unless_zero code
answered_code Complete code = option_and_then unless_zero code
answered_code Panic code = None

-- the object that tells how the request was answered: the response where it was kept and is a Status, else the
-- event's own status
abbrev pub source_of : Bool → Option Data → Option Data → Option Data
source_of kept None status = status
source_of kept (Some response) status = if kept && says (codes "kind") (codes "Status") response then Some response else status

abbrev pub source_in : Data → Option Data
source_in value = source_of (is_kept (response_in value)) (present (codes "responseObject") value) (present (codes "responseStatus") value)

abbrev pub succeeds : Option Data → Bool
succeeds source = bytes_eq (text_or_empty (codes "status") source) (codes "Success")

abbrev pub details_of : Option Data → Option Data
details_of source = option_and_then (get (codes "details")) source

abbrev pub status_with : Option ℕ → Option Data → Status
status_with code source =
    let details = details_of source in
    record {
      code = code;
      reason = text_or_empty (codes "reason") source;
      success = succeeds source;
      uid = text_or_empty (codes "uid") details;
      name = text_or_empty (codes "name") details;
      kind = text_or_empty (codes "kind") details;
    }

abbrev pub status_in : Stage → Option ℕ → Data → Status
status_in stage code value = status_with (answered_code stage code) (source_in value)
