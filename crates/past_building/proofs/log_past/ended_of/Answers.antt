use Rattle.std.proofs.Common.{map, sym, ap, ◌∙◌, subst}
use Rattle.object_past.specs.Modelled.{version_of}
use Rattle.write_groups.specs.Members.{AreGroupsOf}
use Rattle.past_building.specs.Behind.{AreGroupsBehind}
use Rattle.past_building.specs.Hidden.{slots_of}
use Rattle.past_building.specs.Removals.{AreFirstRemovals}
use Rattle.past_building.specs.Surrounded.{HasLog}
use Rattle.past_building.specs.Traced.{AreTraced}
use Rattle.past_building.specs.Written.{AreAllJudged, AreSlots}
use Rattle.past_building.proofs.log_past.ended_of.Goals as goal

pub write_versions-requires-clause-groups : goal.write_versions-requires-clause-groups
write_versions-requires-clause-groups g c = subst (AreGroupsBehind c.args.start c.args.events.now) (sym c.as_slice-groups.ensures) c.requires.groups

pub removals_of-requires : goal.removals_of-requires
removals_of-requires g c =
    let written = c.in_ok-written.written in
    let firsts = c.deref-2.result.now in
    let earlier = c.deref-3.result.now in
    record {
      traced = subst (λ l. AreTraced l firsts earlier) (sym c.as_slice.ensures)
          (subst (λ l. AreTraced written.versions l earlier) (sym c.deref-2.ensures.value)
          (subst (AreTraced written.versions written.firsts.items) (sym c.deref-3.ensures.value) c.in_ok-written.ensures.traced));
    }

pub returns-clause-slots : goal.returns-clause-slots
returns-clause-slots g c = subst (λ l. AreSlots (slots_of c.args.snapshot.now l) c.in_ok-written.written.versions) c.as_slice-groups.ensures c.in_ok-written.ensures.slots

pub returns-clause-ended : goal.returns-clause-ended
returns-clause-ended g c = λ h times all order is_order judged groups begins listed versions removals.
    let events = c.args.events.now in
    let removed : AreFirstRemovals events h.order c.in_ok-removed.removed = subst (λ l. AreFirstRemovals events l c.in_ok-removed.removed) (c.deref.ensures.value ∙ sym order) c.in_ok-removed.ensures in
    let surroundings : HasLog c.args.timed.now.windows events c.in_ok-removed.removed h = record { times = times; all = all; order = is_order; removals = removed } in
    let grouped = subst (AreGroupsOf h) (sym c.as_slice-groups.ensures) groups in (
      c.in_ok-written.ensures.versions h (record { surroundings = surroundings; judged = judged }) grouped begins listed versions,
      subst (λ l. AreAllJudged h events l c.in_ok-written.written.judged.items) c.as_slice-groups.ensures (c.in_ok-written.ensures.judged h (record { surroundings = surroundings; judged = judged }) grouped begins versions),
      c.in_ok-removals.ensures h surroundings (versions ∙ ap (map version_of) (sym c.as_slice.ensures)) removals,
    )
