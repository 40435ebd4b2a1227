-- The trees of objects that are kept, each once.
use Rattle.std.specs.Prelude.{List, [], ◌∷◌, ◌++◌, fold, map}
use Rattle.std.specs.List.{flat_map}
use Rattle.base_types.specs.Meaning.{Meaning}
use Rattle.node_pool.specs.Subtrees.{interned}
use Rattle.audit_event.specs.declared.event.Event.{Event}
use Rattle.setup_file.specs.declared.setup.Checkpoint.{Checkpoint}
use Rattle.setup_file.specs.declared.setup.Setup.{Setup}
use Rattle.setup_file.specs.declared.setup.SnapshotObject.{SnapshotObject}
use Rattle.answer_class.specs.Classes.{class_of}
use Rattle.answer_class.specs.declared.answer.Answer.{Answer}
use Rattle.answer_class.specs.declared.answer.Answer.TheVariants.{Made, Removed, Opaque, Saw, SawNone, SawSome, SawOther, Listed, Free, Aside}

abbrev pub object_trees : List SnapshotObject → List Meaning
object_trees objects = map (λ object. object.tree) objects

-- the trees of the objects that an answer shows
abbrev pub answer_trees : Answer → List Meaning
answer_trees (Made key revision uid tree created) = tree ∷ []
answer_trees (Removed key uid) = []
answer_trees (Opaque cover) = []
answer_trees (Saw key revision uid tree) = tree ∷ []
answer_trees (SawNone key) = []
answer_trees (SawSome key) = []
answer_trees (SawOther key) = []
answer_trees (Listed group resource namespace revision whole items selector) = object_trees items
answer_trees Free = []
answer_trees Aside = []

abbrev pub event_trees : Setup → List Event → List Meaning
event_trees setup events = flat_map (λ event. answer_trees (class_of setup event)) events

abbrev pub checkpoint_trees : List Checkpoint → List Meaning
checkpoint_trees checkpoints = flat_map (λ checkpoint. object_trees checkpoint.items) checkpoints

-- those of the snapshot, then those that the events' answers show, then those of the checkpoints
abbrev pub stored_trees : Setup → List Event → List Meaning
stored_trees setup events = object_trees setup.snapshot ++ (event_trees setup events ++ checkpoint_trees setup.checkpoints)

-- the trees of a pool once these are interned, one after another
abbrev pub with_trees : List Meaning → List Meaning → List Meaning
with_trees trees more = fold interned trees more

-- the trees of the pool of a log
abbrev pub pooled : Setup → List Event → List Meaning
pooled setup events = with_trees [] (stored_trees setup events)
