use Rattle.std.proofs.Common.{◌≡◌, Some, ◌++◌, take, List}
use Rattle.serde_json.specs.View.{items_view, members_view}
use Rattle.serde_json.proofs.Views.{Entry}
use Rattle.base_types.specs.Meaning.{kids_of, fields_of}
use Rattle.base_types.specs.Names.{names}
use Rattle.base_types.specs.Values.{of_items, of_members, KidsInRange, FieldsInRange}
use Rattle.base_types.proofs.Reading.{entry_names}
use Rattle.base_types.proofs.json.values.+from_value.Given as goal

abbrev pub invariant-from_items-loop-item : goal.invariant-from_items-loop-item
invariant-from_items-loop-item l = record {
  read : of_items (items_view (take l.item-index l.item-items)) ≡ Some (kids_of l.all.items);
  range : KidsInRange (kids_of l.all.items);
}

abbrev pub invariant-from_members-loop-key : goal.invariant-from_members-loop-key
invariant-from_members-loop-key l =
    (done : List Entry) × (l.map.entries ≡ done ++ l.key-iterator) × (of_members (members_view done) ≡ Some (fields_of l.all.items)) × (names l.all.items ≡ entry_names done) × FieldsInRange (fields_of l.all.items)
