-- The history that a context stands for. Here trees, selectors, and roles and bindings become the tests of the model
-- of history.
use Rattle.std.specs.Prelude.{ℕ, Bool, true, List, Option, Some, None, map, slice_get, option_and_then}
use Rattle.answer_class.specs.Classes.{class_of}
use Rattle.answer_class.specs.Labels.{is_listable}
use Rattle.audit_event.specs.declared.event.Event.{Event}
use Rattle.base_types.specs.declared.verdict.placed.Places.{Places}
use Rattle.base_types.specs.declared.kubernetes.request.Decision.{Decision}
use Rattle.history_model.specs.Histories as past
use Rattle.base_types.specs.Meaning.{Meaning}
use Rattle.object_past.specs.Modelled.{recorded, version_of}
use Rattle.rbac_timeline.specs.Deciding.{is_possible}
use Rattle.rbac_timeline.specs.Known as rbac
use Rattle.request_bodies.specs.Right.{is_body_right}
use Rattle.setup_file.specs.declared.setup.Setup.{Setup}
use Rattle.log_context.specs.Judged.{judged_user}
use Rattle.log_context.specs.Known.{Known}
use Rattle.write_groups.specs.Modelled.{event_of, item_of, span_of}
use Rattle.write_groups.specs.declared.event.LogEvent.{LogEvent}
use Rattle.write_groups.specs.declared.event.Shown.{Shown}
use Rattle.write_groups.specs.declared.event.Shown.TheVariants.{Made, Removed, Opaque, Saw, SawNone, SawSome, SawOther, Listed, Free, Aside}

abbrev pub made_node : Shown → Option ℕ
made_node (Made item created) = Some item.node.0
made_node (Removed key uid) = None
made_node (Opaque cover) = None
made_node (Saw item) = None
made_node (SawNone key) = None
made_node (SawSome key) = None
made_node (SawOther key) = None
made_node (Listed listing) = None
made_node Free = None
made_node Aside = None

-- the tree that the write of this number was answered with
abbrev pub made_tree : List LogEvent → List Meaning → ℕ → Option Meaning
made_tree log trees number = option_and_then (slice_get trees) (option_and_then (λ event. made_node event.answer) (slice_get log number))

abbrev pub body_by : Setup → Option Event → Option Meaning → Option Meaning → Bool
body_by setup None answered before = true
body_by setup (Some event) None before = true
body_by setup (Some event) (Some answered) before = is_body_right setup event answered before

-- is the write's answer what was asked of the tree of this number, or of none?
abbrev pub body_test : Setup → List Event → List LogEvent → List Meaning → ℕ → Option ℕ → Bool
body_test setup events log trees number before = body_by setup (slice_get events number) (made_tree log trees number) (option_and_then (slice_get trees) before)

abbrev pub listable_by : Setup → Option Event → Option Meaning → Bool
listable_by setup None tree = true
listable_by setup (Some event) None = true
listable_by setup (Some event) (Some tree) = is_listable (class_of setup event) tree

-- does the selector of the list of this number take the tree of that number? A checkpoint has none.
abbrev pub listable_test : Setup → List Event → List Meaning → ℕ → ℕ → Bool
listable_test setup events trees number node = listable_by setup (slice_get events number) (slice_get trees node)

abbrev pub decides_by : rbac.Known → Places → Option Event → Option Decision → Bool
decides_by rbac places None decision = true
decides_by rbac places (Some event) None = true
decides_by rbac places (Some event) (Some decision) = is_possible rbac places (judged_user event) event.attrs decision

-- could caches at these places have given the decision of the event of this number, where it is judged?
abbrev pub decides_test : List Event → List LogEvent → rbac.Known → ℕ → Places → Bool
decides_test events log rbac number places = decides_by rbac places (slice_get events number) (option_and_then (λ event. event.decision) (slice_get log number))

abbrev pub history_of : Known → past.History
history_of known = record {
  start = known.setup.start;
  lag = known.setup.lag;
  snapshot = map item_of known.snapshot;
  events = map event_of known.log;
  order = known.order;
  spans = map span_of known.spans;
  versions = map version_of known.versions;
  removals = map recorded known.removals;
  body = body_test known.setup known.events known.log known.trees;
  listable = listable_test known.setup known.events known.trees;
  decides = decides_test known.events known.log known.rbac;
}
