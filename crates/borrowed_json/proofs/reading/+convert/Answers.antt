use Rattle.std.proofs.Common.{◌≡◌, length, sym, ap, ◌∙◌, rules, arith}
use Rattle.json.specs.Value.{items_view as read_items}
use Rattle.serde_json.specs.Read.{of_items}
use Rattle.borrowed_json.proofs.Conversions.{items_kept, items_done, items_shallow, members_kept, members_shallow}
use Rattle.borrowed_json.proofs.reading.+convert.Goals as goal

pub convert_items-loop-item-preserved : goal.convert_items-loop-item-preserved
convert_items-loop-item-preserved t c =
    let l = c.loop-item in
    let first = c.into_iter-item-iterator.result.rest.items in
    let rest = c.next.new.self.rest.items in
    let steps = c.in-Some.ensures.steps.0 in
    let less = items_shallow l.item-iterator.rest.items rest c.in-Some.item steps in
    record {
      can_next = tt;
      is_finite = tt;
      shallow = omega (arith, less.1, l.invariant.shallow);
      reads = items_kept first l.item-iterator.rest.items rest c.in-Some.item l.made.items c.push.new.self.items c.in_ok-convert.field-0 steps l.invariant.reads c.in_ok-convert.ensures.ok c.in_ok-push.ensures.items;
    }

pub convert_items-returns-clause-ok : goal.convert_items-returns-clause-ok
convert_items-returns-clause-ok t c =
    let l = c.loop-item in
    let rest = l.item-iterator.rest.items in
    let none : length rest ≡ 0 = search rules in
    let all = items_done c.into_iter-item-iterator.result.rest.items rest l.made.items none l.invariant.reads in
    ap (λ vs. of_items (read_items vs)) (sym c.into_iter-item-iterator.ensures.into_iter_gives.0) ∙ all

pub convert_members-loop-name-preserved : goal.convert_members-loop-name-preserved
convert_members-loop-name-preserved t c =
    let l = c.loop-name in
    let first = c.into_iter-name-iterator.result.rest.items in
    let rest = c.next.new.self.rest.items in
    let steps = c.in-Some.ensures.steps.0 in
    let less = members_shallow l.name-iterator.rest.items rest c.in-Some.name c.in-Some.member steps in
    record {
      can_next = tt;
      is_finite = tt;
      shallow = omega (arith, less.1, l.invariant.shallow);
      reads = members_kept first l.name-iterator.rest.items rest c.in-Some.name c.in-Some.member l.made.entries c.insert.new.self.entries c.in_ok-member.member steps l.invariant.reads c.in_ok-member.ensures.ok c.in_ok-insert.ensures.entries;
    }
