-- What the JSON value of a line stands for: the items of an EventList (Kubernetes `audit.k8s.io/v1`), or itself.
use Rattle.std.specs.Prelude.{Bool, List, [], ◌∷◌, Option, Some, None, option_and_then, codes, if◌then◌else◌}
use Rattle.serde_json.specs.Data.{Data, Items}
use Rattle.serde_json.specs.Find.{get, as_array}
use Rattle.base_types.specs.Items.{item_list}
use Rattle.audit_event.specs.Headings.{is_of_kind, is_event, is_item}

-- the items of an object that says that it is an EventList, where they are a list
abbrev pub list_items : Data → Option Items
list_items value =
    if is_of_kind (codes "EventList") value then option_and_then as_array (get (codes "items") value) else None

abbrev pub heading_of : Option Items → Data → Bool
heading_of None = is_event
heading_of (Some items) = is_item

abbrev pub values_of : Option Items → Data → List Data
values_of None value = value ∷ []
values_of (Some items) value = item_list items
