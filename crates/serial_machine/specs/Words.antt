-- What an event is in a placement, in the program's terms.
use Rattle.std.specs.Prelude.{◌≡◌, ℕ, Bool}
use Rattle.history_model.specs.Events.{Event, Item}
use Rattle.history_model.specs.Groups.{Making}
use Rattle.history_model.specs.Histories.{Removal}
use Rattle.history_model.specs.Words as model
use Rattle.serial_machine.specs.declared.words.PlacementWord.{PlacementWord}
use Rattle.serial_machine.specs.declared.words.PlacementWord.TheVariants.{Makes, Removes, At, Strays, Nothing}

abbrev pub making : ℕ → Event → Item → Bool → Making
making number event item created = record { number = number; event = event; item = item; created = created }

abbrev pub SaysWord : model.Word → PlacementWord → Type 0
SaysWord word (Makes revision) = (m : Making) × (word ≡ model.Makes m) × (m.item.revision ≡ revision)
SaysWord word (Removes range) = (removal : Removal) × (word ≡ model.Removes removal) × (removal.range ≡ range)
SaysWord word At = word ≡ model.At
SaysWord word Strays = word ≡ model.Strays
SaysWord word Nothing = word ≡ model.Nothing
