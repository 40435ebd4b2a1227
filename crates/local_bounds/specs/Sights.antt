-- What an answer says of one object.
use Rattle.std.specs.Prelude.{ℕ, List, Option, IsNone, IsSome}
use Rattle.base_types.specs.declared.kubernetes.key.ObjectKey.{ObjectKey}
use Rattle.history_model.specs.Bounding.{SomewhereIn}
use Rattle.history_model.specs.States.{state}
use Rattle.history_model.specs.Histories as model
use Rattle.history_model.specs.Making.{AreMet}
use Rattle.history_model.specs.Right.{IsShown, IsRefused}
use Rattle.object_past.specs.declared.version.Version.{Version}
use Rattle.write_groups.specs.declared.event.Preconditions.{Preconditions}
use Rattle.write_groups.specs.Modelled.{item_of, conditions_of}
use Rattle.local_bounds.specs.declared.sight.Sight.{Sight}
use Rattle.local_bounds.specs.declared.sight.Sight.TheVariants.{Gone, There, Shown, Refused, Nowhere}

abbrev pub AreMetBy : Preconditions → Version → Type 0
AreMetBy asked version = AreMet (conditions_of asked) version.revision version.uid

-- the object that is there, or none, is as the answer says
abbrev pub IsSeen : Sight → Option model.Version → Type 0
IsSeen Gone found = IsNone found
IsSeen There found = IsSome found
IsSeen (Shown item) found = IsShown (item_of item.now) found
IsSeen (Refused asked) found = IsRefused (conditions_of asked.now) found
IsSeen Nowhere found = ⊥

-- under the choice the object is so somewhere in the window
abbrev pub IsSeenWithin : model.History → List ℕ → ObjectKey → Sight → ℕ → ℕ → Type 0
IsSeenWithin h choice key sight low high = SomewhereIn low high (λ x. IsSeen sight (state h choice x key))
