-- Which JSON values say that they are audit events (Kubernetes `audit.k8s.io/v1`, Event).
use Rattle.std.specs.Prelude.{ℕ, Bool, ◌&&◌, ◌||◌, List, is_some, is_none, codes}
use Rattle.serde_json.specs.Data.{Data}
use Rattle.serde_json.specs.Find.{get, as_object}
use Rattle.audit_event.specs.Members.{says}

-- an object of this kind of the API
abbrev pub is_of_kind : List ℕ → Data → Bool
is_of_kind kind value = says (codes "kind") kind value && says (codes "apiVersion") (codes "audit.k8s.io/v1") value

abbrev pub is_event : Data → Bool
is_event value = is_of_kind (codes "Event") value

-- an object that doesn't say what it is
abbrev pub is_unnamed : Data → Bool
is_unnamed value = is_some (as_object value) && is_none (get (codes "kind") value) && is_none (get (codes "apiVersion") value)

-- an item of an EventList may leave both out
abbrev pub is_item : Data → Bool
is_item value = is_event value || is_unnamed value
