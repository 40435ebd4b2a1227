-- What the events of a log are called, and which trees their answers show.
use Rattle.std.specs.Prelude.{ℕ, List, [], ◌∷◌, ◌++◌, map}
use Rattle.audit_event.specs.declared.event.Event.{Event}
use Rattle.history_model.specs.Events.{Answer, Made, Removed, Opaque, Saw, SawNone, SawSome, SawOther, Listed, Free, Aside}
use Rattle.setup_file.specs.declared.setup.Setup.{Setup}

-- the audit IDs of the events, and behind them the names of the checkpoints
abbrev pub names : Setup → List Event → List (List ℕ)
names setup events = map (λ event. event.audit_id) events ++ map (λ checkpoint. checkpoint.name) setup.checkpoints

-- the trees of the objects that an answer shows, by their numbers
abbrev pub shown_trees : Answer → List ℕ
shown_trees (Made item created) = item.tree ∷ []
shown_trees (Removed key uid) = []
shown_trees (Opaque cover) = []
shown_trees (Saw item) = item.tree ∷ []
shown_trees (SawNone key) = []
shown_trees (SawSome key) = []
shown_trees (SawOther key) = []
shown_trees (Listed listing) = map (λ item. item.tree) listing.items
shown_trees Free = []
shown_trees Aside = []
