use Rattle.std.proofs.Common.{◌≡◌, drop}
use Rattle.std.specs.Prelude.{option_map}
use Rattle.base_types.specs.Meaning.{kids_of, fields_of}
use Rattle.path_shape.specs.Forms.{thin_fields, thin_kids, are_held_in_turn}
use Rattle.path_shape.proofs.HoldLemmas.{IsHeldTo}
use Rattle.path_shape.proofs.holding.+holdings.Given as goal

abbrev pub invariant-are_held_in_turn-loop-i : goal.invariant-are_held_in_turn-loop-i
invariant-are_held_in_turn-loop-i l =
    are_held_in_turn (thin_kids (kids_of l.asked-inside.all.items)) (thin_kids (kids_of l.answered-inside.all.items))
    ≡ are_held_in_turn (thin_kids (kids_of (drop l.i l.asked-inside.all.items))) (thin_kids (kids_of (drop l.i l.answered-inside.all.items)))

abbrev pub invariant-members_holding-loop-member : goal.invariant-members_holding-loop-member
invariant-members_holding-loop-member l =
    IsHeldTo (thin_fields (fields_of l.member-items)) (thin_fields (fields_of (drop l.member-index l.member-items)))
    (option_map (λ ns. thin_fields (fields_of ns.now)) l.answered) l.silent
