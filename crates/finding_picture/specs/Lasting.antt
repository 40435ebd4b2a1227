-- Which versions of an object count from a place on: the last one at or below it, and those behind it.
use Rattle.std.specs.Prelude.{ℕ, Bool, List, [], ◌∷◌, nat_le, if◌then◌else◌}
use Rattle.std.specs.List.{list_any}
use Rattle.object_past.specs.declared.version.Version.{Version}

abbrev pub is_upto : ℕ → Version → Bool
is_upto place version = nat_le version.revision place

-- without those that another one at or below the place follows
unfoldable pub since : ℕ → List Version → List Version
since place [] = []
since place (version ∷ later) = if list_any (is_upto place) later then since place later else version ∷ later
