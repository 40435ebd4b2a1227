-- The tables that are looked up by keys and uids.
use Rattle.std.specs.Prelude.{ℕ, Bool, List}
use Rattle.std.specs.BTreeMap.{BTreeMap}
use Rattle.std.specs.HashMap.{HashMap}
use Rattle.std.specs.HashSet.{HashSet}
use Rattle.base_types.specs.contracts.kubernetes.key.ObjectKeyPartialEq.TheImpl as by_parts
use Rattle.base_types.specs.declared.kubernetes.key.ObjectKey.{ObjectKey}
use Rattle.hash_seed.specs.declared.seed.Seeded.{Seeded}
use Rattle.past_building.specs.declared.owner.Owner.{Owner}

-- keys by their four parts
abbrev pub key_eq : ObjectKey → ObjectKey → Bool
key_eq = (by_parts.ghosts).eq

-- positions of versions by their keys
abbrev pub Positions : Type 0
Positions = HashMap ObjectKey ℕ Seeded

abbrev pub OwnerSet : Type 0
OwnerSet = HashSet Owner Seeded

abbrev pub UidSet : Type 0
UidSet = HashSet (List ℕ) Seeded

-- numbers of removals by the keys and the uids of what was removed
abbrev pub RemovalNumbers : Type 0
RemovalNumbers = HashMap ObjectKey (BTreeMap (List ℕ) ℕ) Seeded
