-- The preconditions of a request (Kubernetes API concepts, "Resource versions"; `meta/v1`, Preconditions).
use Rattle.std.specs.Prelude.{◌||◌, Bool, Option, Some, None, codes, is_some, if◌then◌else◌}
use Rattle.base_types.specs.Meaning.{Meaning}
use Rattle.base_types.specs.Parts.{member_of}
use Rattle.base_types.specs.Texts.{◌>>=◌, filled_at, revision_at}
use Rattle.audit_event.specs.declared.event.Body.{Body}
use Rattle.audit_event.specs.declared.event.Event.{Event}
use Rattle.setup_file.specs.declared.setup.Setup.{Setup}
use Rattle.setup_file.specs.declared.setup.Tracked.{Tracked}
use Rattle.audit_event.specs.Bodies.{kept}
use Rattle.answer_class.specs.Bodies.{is_merge}
use Rattle.setup_file.specs.Requests.{tracked_of}
use Rattle.answer_class.specs.Requests.{verb_of}
use Rattle.answer_class.specs.declared.conditions.Conditions.{Conditions}
use Rattle.answer_class.specs.declared.request.Verb.{Verb}
use Rattle.answer_class.specs.declared.request.Verb.TheVariants.{Create, Update, Patch, Delete, DeleteCollection, Get, Listing, Other}

abbrev pub no_conditions : Conditions
no_conditions = record { revision = None; uid = None }

-- a revision that isn't canonical and a uid that is empty or no text are no condition
abbrev pub conditions_at : Option Meaning → Conditions
conditions_at None = no_conditions
conditions_at (Some part) = record { revision = revision_at (codes "resourceVersion") part; uid = filled_at (codes "uid") part }

-- where a request of this verb has its conditions
abbrev pub conditions_by : Verb → Bool → Body → Conditions
conditions_by Create merges request = no_conditions
conditions_by Update merges request = conditions_at (kept request >>= member_of (codes "metadata"))
conditions_by Patch merges request = if merges then conditions_at (kept request >>= member_of (codes "metadata")) else no_conditions
conditions_by Delete merges request = conditions_at (kept request >>= member_of (codes "preconditions"))
conditions_by DeleteCollection merges request = no_conditions
conditions_by Get merges request = no_conditions
conditions_by Listing merges request = no_conditions
conditions_by Other merges request = no_conditions

abbrev pub tracked_conditions : Tracked → Event → Conditions
tracked_conditions tracked event = conditions_by (verb_of event.attrs.verb) (is_merge tracked event) event.request

abbrev pub conditions_in : Option Tracked → Event → Conditions
conditions_in None event = no_conditions
conditions_in (Some tracked) event = tracked_conditions tracked event

abbrev pub conditions_of : Setup → Event → Conditions
conditions_of setup event = conditions_in (tracked_of setup event.attrs) event

abbrev pub has_conditions : Conditions → Bool
has_conditions conditions = is_some conditions.revision || is_some conditions.uid
