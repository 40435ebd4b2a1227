-- A list that is kept in chunks, and where each of its items stands.
use Rattle.std.specs.Prelude.{ℕ, ◌+◌, ◌<◌, List, [], length, get_or, take}
use Rattle.std.specs.List.{flat_map}
use Rattle.json_patch.specs.declared.chunks.Place.{Place}

abbrev pub joined : {X : Type 0} → List (List X) → List X
joined parts = flat_map (λ part. part) parts

-- an item stands at the place
pub record IsPlaceIn {X : Type 0} (parts : List (List X)) (place : Place) : Type 0 where
  pub part : place.part < length parts
  pub offset : place.offset < length (get_or parts place.part [])

-- how many items stand before the place
abbrev pub number_of : {X : Type 0} → List (List X) → Place → ℕ
number_of parts place = length (joined (take place.part parts)) + place.offset
