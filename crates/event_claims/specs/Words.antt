-- What an event is in a placement, in the terms of the model of history.
use Rattle.std.specs.Prelude.{◌≡◌, Some, slice_get}
use Rattle.event_claims.specs.declared.word.Word.{Word}
use Rattle.event_claims.specs.declared.word.Word.TheVariants.{Makes, Removes, At, Strays, Nothing}
use Rattle.history_model.specs.Groups.{Making}
use Rattle.history_model.specs.Histories.{History, Removal}
use Rattle.history_model.specs.Words as model

abbrev pub IsSaid : History → model.Word → Word → Type 0
IsSaid h word (Makes revision) = (m : Making) × (word ≡ model.Makes m) × (m.item.revision ≡ revision)
IsSaid h word (Removes position) = (removal : Removal) × (word ≡ model.Removes removal) × (slice_get h.removals position ≡ Some removal)
IsSaid h word At = word ≡ model.At
IsSaid h word Strays = word ≡ model.Strays
IsSaid h word Nothing = word ≡ model.Nothing
