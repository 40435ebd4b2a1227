-- The data that a `JsonValue` stands for, in the words of `serde_json`.
use Rattle.std.specs.Prelude.{ℕ, List, [], ◌∷◌, map}
use Rattle.std.specs.Borrow.{Bor}
use Rattle.serde_json.specs.Data.{Data, null, boolean, number, string, array, object, Members, no_members, member, Items}
use Rattle.serde_json.specs.View.{number_view, items_of}
use Rattle.borrowed_json.specs.declared.value.JsonValue.{JsonValue, fold-JsonValue}
use Rattle.borrowed_json.specs.declared.value.JsonValue.TheOpen.{JsonValue-F}

abbrev pub members_of : List (Bor (List ℕ) × Data) → Members
members_of [] = no_members
members_of (m ∷ ms) = member m.0.now m.1 (members_of ms)

-- one level, with each value inside already seen as its data
abbrev pub view_step : JsonValue-F Data → Data
view_step JsonValue-F.Null = null
view_step (JsonValue-F.Bool flag) = boolean flag
view_step (JsonValue-F.Number n) = number (number_view n)
view_step (JsonValue-F.String text) = string text.now
view_step (JsonValue-F.Array list) = array (items_of list.items)
view_step (JsonValue-F.Object map) = object (members_of map.entries)

abbrev pub view : JsonValue → Data
view = fold-JsonValue Data view_step

abbrev pub items_view : List JsonValue → Items
items_view values = items_of (map view values)

abbrev pub members_view : List (Bor (List ℕ) × JsonValue) → Members
members_view entries = members_of (map (λ e. (e.0, view e.1)) entries)
