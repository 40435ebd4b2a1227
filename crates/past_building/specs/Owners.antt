-- Whose a version is: an object by its key and its uid.
use Rattle.std.specs.Prelude.{Bool}
use Rattle.past_building.specs.contracts.owner.OwnerPartialEq.TheImpl as by_parts
use Rattle.past_building.specs.declared.owner.Owner.{Owner}
use Rattle.object_past.specs.declared.version.Version.{Version}

-- by key and uid
abbrev pub owner_eq : Owner → Owner → Bool
owner_eq = (by_parts.ghosts).eq

abbrev pub owner_of : Version → Owner
owner_of v = record { key = v.key; uid = v.uid }
