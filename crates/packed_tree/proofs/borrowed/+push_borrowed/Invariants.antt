use Rattle.std.proofs.Common.{◌≡◌, ◌++◌, drop, List, ℕ, option_map}
use Rattle.base_types.specs.Meaning.{Meaning, kids_of, fields_of}
use Rattle.base_types.specs.Names.{names}
use Rattle.base_types.specs.Values.{of_items, of_members}
use Rattle.borrowed_json.specs.View.{items_view, members_view}
use Rattle.packed_tree.specs.Encoding.{encode_kids, encode_fields}
use Rattle.packed_tree.specs.Sound.{AreKidsSound, AreFieldsSound}
use Rattle.packed_tree.proofs.BorrowedPackings.{kids_behind, fields_behind, entry_names}
use Rattle.packed_tree.proofs.borrowed.+push_borrowed.Given as goal

abbrev pub invariant-push_items-loop-item : goal.invariant-push_items-loop-item
invariant-push_items-loop-item l =
    (values : List Meaning) × (of_items (items_view l.item-items) ≡ option_map (kids_behind values) (of_items (items_view (drop l.item-index l.item-items))))
    × AreKidsSound (kids_of values) × (l.out.items ≡ l.initial.out.items ++ encode_kids (kids_of values))

abbrev pub invariant-push_members-loop-key : goal.invariant-push_members-loop-key
invariant-push_members-loop-key l =
    (values : List (List ℕ × Meaning)) × (of_members (members_view l.map.entries) ≡ option_map (fields_behind values) (of_members (members_view l.key-iterator)))
    × (entry_names l.map.entries ≡ names values ++ entry_names l.key-iterator) × AreFieldsSound (fields_of values) × (l.out.items ≡ l.initial.out.items ++ encode_fields (fields_of values))
