use Rattle.std.proofs.Common.{◌≡◌, ◌<◌, ◌+◌, ◌++◌, ◌∷◌, [], AllPairs, map, take, length, sym, ap, ◌∙◌, subst, arith}
use Rattle.std.proofs.lemmas.List.{take_all}
use Rattle.std.proofs.lemmas.List.Sorted.{Contains-permutation, IsPermutation-sym}
use Rattle.history_model.proofs.Members.{all_at}
use Rattle.write_groups.specs.Members.{IsGroupOf}
use Rattle.object_past.specs.Modelled.{version_of}
use Rattle.object_past.specs.declared.version.Version.{Version}
use Rattle.past_building.proofs.Growth.{AreGrown, grown_slots}
use Rattle.past_building.proofs.Writing.{AreWritten, GoesOn, answered, are_versions, before_group, begun_grown, begun_written, extends, goes_on_before, goes_on_to, grown_with, written_more}
use Rattle.past_building.specs.Growing.{AreFlagged, AreLinked}
use Rattle.past_building.specs.Written.{snapshot_version, AreAllJudged, AreJudged, IsSnapshot}
use Rattle.past_building.proofs.versions.write_versions.Goals as goal

pub loop-group-init : goal.loop-group-init
loop-group-init g c = (
  begun_grown c.in_ok-order.order.items c.in_ok-grown.grown begun,
  λ h of grouped start on.
      subst (AreWritten h c.args.log.events.now (map snapshot_version (map (λ item. item.now) c.in_ok-order.order.items)) [] c.in_ok-grown.grown) (sym c.in_ok-judged.ensures.items)
      (begun_written h c.args.log.events.now c.in_ok-order.order.items c.in_ok-grown.grown begun),
)
  where
    begun : c.in_ok-grown.grown ≡ map (λ item. snapshot_version item.now) c.in_ok-order.order.items
    begun = c.in_ok-grown.ensures ∙ ap (map (λ item. snapshot_version item.now)) c.deref.ensures.value

pub add_group-requires-clause-above : goal.add_group-requires-clause-above
add_group-requires-clause-above g c =
    before_group c.args.start c.args.snapshot.now (map (λ item. item.now) c.in_ok-order.order.items) c.args.groups.now c.loop-group.group-index c.group-item.result c.loop-group.grown c.requires.snapshot
    c.in_ok-order.ensures.same c.requires.groups.rising c.requires.groups.above c.loop-group-test.true (sym c.group-item.is) c.loop-group.invariant.0

pub loop-group-preserved : goal.loop-group-preserved
loop-group-preserved g c =
    let items = map (λ item. item.now) c.in_ok-order.order.items in
    let begun = map snapshot_version items in
    let i = c.loop-group.group-index in
    let group = c.group-item.result in
    let added = c.in_ok-grown-2.ensures in
    let version = added.0 in
    let more = added.1 in
    let events = c.args.log.events.now in
    let within : i < length c.args.groups.now = c.loop-group-test.true in
    let pushed : c.in_ok-grown-2.grown ≡ c.loop-group.grown ++ version ∷ [] = added.2 in (
      subst (AreGrown begun (take (i + 1) c.args.groups.now)) (sym pushed)
          (grown_with begun c.args.groups.now i group c.loop-group.grown version within (sym c.group-item.is) c.loop-group.invariant.0 added.4 added.5),
      (λ h of grouped start on.
          let on_v : GoesOn h (c.loop-group.grown ++ version ∷ []) = subst (GoesOn h) pushed on in
          let is_group : IsGroupOf h group = all_at (IsGroupOf h) c.args.groups.now group grouped.sound (i, within, sym c.group-item.is) in
          let below = before_group c.args.start c.args.snapshot.now items c.args.groups.now i group c.loop-group.grown c.requires.snapshot c.in_ok-order.ensures.same
          c.requires.groups.rising c.requires.groups.above within (sym c.group-item.is) c.loop-group.invariant.0 in
          let further = extends h c.loop-group.grown version group.revision on_v added.5 (let above = is_group.above in omega (arith, above)) below in
          let zipped : AreJudged h events group.members more = added.7 h of further (answered h events group of.surroundings.all is_group) in
          let made = added.8 h (record { all = of.surroundings.all; clouds = of.judged.clouds; bodies = of.judged.bodies; grouped = is_group; members = zipped }) in
          let before = c.loop-group.invariant.1 h of grouped start (goes_on_before h c.loop-group.grown version on_v) in
          subst (λ l. AreWritten h events begun (take (i + 1) c.args.groups.now) l c.add_group.new.judged.items) (sym pushed)
          (subst (AreWritten h events begun (take (i + 1) c.args.groups.now) (c.loop-group.grown ++ version ∷ [])) (sym added.3)
          (written_more h events begun c.args.groups.now i group c.loop-group.grown version c.loop-group.judged.items more within (sym c.group-item.is) before made zipped
          added.6))),
    )

pub returns-clause-traced : goal.returns-clause-traced
returns-clause-traced g c =
    let parts = c.into_parts-versions.result in
    let is = sym c.into_parts-versions.ensures.versions in record {
      rising = subst (AllPairs (λ (a b : Version). a.revision < b.revision)) is c.into_parts-versions.ensures.rising;
      flagged = subst (λ l. AreFlagged l parts.1.items) is c.into_parts-versions.ensures.firsts;
      linked = subst (λ l. AreLinked l parts.2.items) is c.into_parts-versions.ensures.earlier;
    }

pub returns-clause-slots : goal.returns-clause-slots
returns-clause-slots g c =
    let items = map (λ item. item.now) c.in_ok-order.order.items in
    let all : take c.loop-group.group-index c.args.groups.now ≡ c.args.groups.now = take_all c.loop-group.group-index c.args.groups.now c.loop-group-test.false in
    let grown : AreGrown (map snapshot_version items) c.args.groups.now c.into_parts-versions.result.0 =
    subst (λ l. AreGrown (map snapshot_version items) c.args.groups.now l) (sym c.into_parts-versions.ensures.versions)
    (subst (λ l. AreGrown (map snapshot_version items) l c.loop-group.grown) all c.loop-group.invariant.0) in
    grown_slots items c.args.snapshot.now c.args.groups.now c.into_parts-versions.result.0 grown
    (λ item among. Contains-permutation items c.args.snapshot.now item (IsPermutation-sym c.args.snapshot.now items c.in_ok-order.ensures.same) among)
    (λ item among. Contains-permutation c.args.snapshot.now items item c.in_ok-order.ensures.same among)

pub returns-clause-versions : goal.returns-clause-versions
returns-clause-versions g c = λ h of grouped start snapshot versions.
    let items = map (λ item. item.now) c.in_ok-order.order.items in
    let all : take c.loop-group.group-index c.args.groups.now ≡ c.args.groups.now = take_all c.loop-group.group-index c.args.groups.now c.loop-group-test.false in
    let grown = subst (λ l. AreGrown (map snapshot_version items) l c.loop-group.grown) all c.loop-group.invariant.0 in
    let is = subst (λ l. h.versions ≡ map version_of l) c.into_parts-versions.ensures.versions versions in
    let rising = c.into_parts-versions.ensures.rising in
    let written = c.loop-group.invariant.1 h of grouped start (goes_on_to h c.loop-group.grown rising is) in
    are_versions h c.args.snapshot.now items c.args.groups.now c.loop-group.grown rising grouped (subst (λ n. IsSnapshot n c.args.snapshot.now) (sym start) c.requires.snapshot)
    c.in_ok-order.ensures.same snapshot is grown written.made

pub returns-clause-judged : goal.returns-clause-judged
returns-clause-judged g c = λ h of grouped start versions.
    let all : take c.loop-group.group-index c.args.groups.now ≡ c.args.groups.now = take_all c.loop-group.group-index c.args.groups.now c.loop-group-test.false in
    let is = subst (λ l. h.versions ≡ map version_of l) c.into_parts-versions.ensures.versions versions in
    let written = c.loop-group.invariant.1 h of grouped start (goes_on_to h c.loop-group.grown c.into_parts-versions.ensures.rising is) in
    subst (λ l. AreAllJudged h c.args.log.events.now l c.loop-group.judged.items) all written.all
