use Rattle.std.proofs.Common.{◌≡◌, length, true, false, sym, ap, subst, ◌∙◌, arith}
use Rattle.std.specs.Prelude.{option_map}
use Rattle.base_types.specs.Meaning.{fields_of, members, no_fields}
use Rattle.base_types.specs.Parts.{member_of}
use Rattle.path_shape.specs.Forms.{thin, thin_fields, has_no_fields, is_held_by_child}
use Rattle.path_shape.specs.Holding.{object_or_null}
use Rattle.path_shape.proofs.HoldLemmas.{IsHeldTo, kids_other_length, held_none, held_silent, held_step, held_missing, held_end, drop_all}
use Rattle.path_shape.proofs.holding.+holdings.Goals as goal
use Rattle.path_shape.proofs.holding.+holdings.Goals.{members_holding-in-Silent, members_holding-in-Held}

pub are_held_in_turn-returns-then-len : goal.are_held_in_turn-returns-then-len
are_held_in_turn-returns-then-len t c =
    kids_other_length c.args.asked.now c.args.answered.now
    (λ same. let one = ap length c.asked.view_is in let two = ap length c.answered.view_is in grind arith)

pub members_holding-loop-member-init : goal.members_holding-loop-member-init
members_holding-loop-member-init t c = held_none (thin_fields (fields_of c.deref-member-items.result.now)) (option_map (λ ns. thin_fields (fields_of ns.now)) c.args.answered)

pub members_holding-returns-in-Missing : goal.members_holding-returns-in-Missing
members_holding-returns-in-Missing t c =
    let ms = c.deref-member-items.result.now in
    let o = option_map (λ ns. thin_fields (fields_of ns.now)) c.args.answered in
    let v = c.member.inside.value in
    let e = c.in-Missing.ensures in
    let missing : is_held_by_child (thin v) (member_of c.as_str.result.now (object_or_null o)) ≡ false = sym (c.value_in.ensures (thin v) e.0) ∙ e.1 in
    let missing' = subst (λ n. is_held_by_child (thin v) (member_of n (object_or_null o)) ≡ false) c.as_str.ensures.value missing in
    let same = c.deref-member-items.ensures.value ∙ c.asked.view_is in
    let done = held_missing ms c.loop-member.member-index c.member.inside.name v c.member-item.result (thin_fields (fields_of ms)) o c.loop-member.silent c.loop-member-test.true c.member-item.is c.member.view_is e.0 missing' c.loop-member.invariant in
    subst (λ l. (has_no_fields (thin_fields (fields_of l)) ≡ false) × (is_held_by_child (members (thin_fields (fields_of l))) (option_map members o) ≡ false)) same done

pub members_holding-loop-member-preserved : goal.members_holding-loop-member-preserved
members_holding-loop-member-preserved t c =
    let ms = c.deref-member-items.result.now in
    let o = option_map (λ ns. thin_fields (fields_of ns.now)) c.args.answered in
    let v = c.member.inside.value in
    elim c.match-holding_of.branch [
      | members_holding-in-Silent w ↦
          held_silent ms c.loop-member.member-index c.member.inside.name v c.member-item.result (thin_fields (fields_of ms)) o c.loop-member.silent c.match-holding_of.silent c.loop-member-test.true c.member-item.is c.member.view_is w.in-Silent.ensures w.silent-is c.loop-member.invariant
      | members_holding-in-Held w ↦
          let e = w.in-Held.ensures in
          let held : is_held_by_child (thin v) (member_of c.as_str.result.now (object_or_null o)) ≡ true = sym (c.value_in.ensures (thin v) e.0) ∙ e.1 in
          let held' = subst (λ n. is_held_by_child (thin v) (member_of n (object_or_null o)) ≡ true) c.as_str.ensures.value held in
          held_step ms c.loop-member.member-index c.member.inside.name v c.member-item.result (thin_fields (fields_of ms)) o c.loop-member.silent c.match-holding_of.silent c.loop-member-test.true c.member-item.is c.member.view_is e.0 held' w.silent-is c.loop-member.invariant
    ]

pub members_holding-returns-then-silent : goal.members_holding-returns-then-silent
members_holding-returns-then-silent t c =
    let ms = c.deref-member-items.result.now in
    let same = c.deref-member-items.ensures.value ∙ c.asked.view_is in
    let none : thin_fields (fields_of ms) ≡ no_fields = c.loop-member.invariant.quiet c.if-silent.true ∙ drop_all ms c.loop-member.member-index (omega arith) in
    subst (λ l. has_no_fields (thin_fields (fields_of l)) ≡ true) same (ap has_no_fields none)

pub members_holding-returns-else-silent : goal.members_holding-returns-else-silent
members_holding-returns-else-silent t c =
    let ms = c.deref-member-items.result.now in
    let o = option_map (λ ns. thin_fields (fields_of ns.now)) c.args.answered in
    let same = c.deref-member-items.ensures.value ∙ c.asked.view_is in
    let done = held_end (thin_fields (fields_of ms)) o c.loop-member.silent (subst (λ rest. IsHeldTo (thin_fields (fields_of ms)) rest o c.loop-member.silent) (drop_all ms c.loop-member.member-index (omega arith)) c.loop-member.invariant) c.if-silent.false in
    subst (λ l. (has_no_fields (thin_fields (fields_of l)) ≡ false) × (is_held_by_child (members (thin_fields (fields_of l))) (option_map members o) ≡ true)) same done
