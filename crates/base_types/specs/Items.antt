-- The items of a JSON array, as a list.
use Rattle.std.specs.Prelude.{List, [], ◌∷◌}
use Rattle.serde_json.specs.Data.{Data, Items, no_items, item}

abbrev pub item_list : Items → List Data
item_list no_items = []
item_list (item value rest) = value ∷ item_list rest
