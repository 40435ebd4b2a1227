use Rattle.std.proofs.Common.{◌++◌, ◌+◌, ◌<◌, ◌∷◌, [], Contains, map, take, drop, refl, append_assoc, append-nil, sym, subst, ap, ◌∙◌}
use Rattle.history_model.specs.Machine.{Put}
use Rattle.object_past.specs.Modelled.{version_of}
use Rattle.log_context.specs.Histories.{history_of}
use Rattle.write_groups.proofs.Lists.{map_has}
use Rattle.serial_machine.specs.Held.{HasMade}
use Rattle.serial_machine.proofs.Gathering.{rest_at}
use Rattle.serial_machine.proofs.Lating.{item_in, late_all, late_in, late_more, late_skipped, late_stops, rising_behind}
use Rattle.serial_machine.proofs.machine.Machine.put_unmade.Goals as goal
use Rattle.serial_machine.proofs.machine.Machine.put_unmade.Goals.{then-is_unmade, else-is_unmade}

pub loop-version-init : goal.loop-version-init
loop-version-init c = λ done made. subst (HasMade (history_of c.args.context.now) c.args.self.now) (sym (append-nil done)) made

pub loop-version-preserved : goal.loop-version-preserved
loop-version-preserved c = λ done made.
    let h = history_of c.args.context.now in
    let versions = c.versions_behind-versions.result.now in
    let i = c.loop-version.version-index in
    let v = c.version-item.result in
    let low = c.args.self.now.place in
    let high = c.args.upto in
    let before = c.loop-version.invariant done made in
    let known = subst (λ l. Contains (map version_of l) (version_of v)) (c.versions.ensures.versions ∙ c.past.ensures.versions)
    (c.versions_behind-versions.ensures.among (version_of v) (map_has version_of versions v (item_in versions i v c.loop-version-test.true c.version-item.is))) in
    elim c.if-is_unmade.branch [
      | then-is_unmade w ↦
          let more = late_more low high versions i v c.loop-version-test.true c.version-item.is (sym c.is_unmade.ensures ∙ w.if-is_unmade.true) in
          subst (λ m. HasMade h m (done ++ late_in low high (take (i + 1) versions))) (sym w.self-is)
          (subst (λ l. HasMade h w.make.new.self l) (append_assoc done (late_in low high (take i versions)) (Put (version_of v) ∷ []) ∙ ap (λ l. done ++ l) (sym more))
          (w.make.ensures h (done ++ late_in low high (take i versions)) known before))
      | else-is_unmade w ↦
          let skipped = late_skipped low high versions i v c.loop-version-test.true c.version-item.is (sym c.is_unmade.ensures ∙ w.if-is_unmade.false) in
          subst (λ m. HasMade h m (done ++ late_in low high (take (i + 1) versions))) (sym w.self-is) (subst (λ l. HasMade h c.loop-version.self (done ++ l)) (sym skipped) before)
    ]

pub returns-then-get-upto : goal.returns-then-get-upto
returns-then-get-upto c = λ done made.
    let h = history_of c.args.context.now in
    let versions = c.versions_behind-versions.result.now in
    let i = c.loop-version.version-index in
    let v = c.version-item.result in
    let low = c.args.self.now.place in
    let high = c.args.upto in
    let above : c.args.upto < c.version-item.result.revision = rw c.get.ensures.value at c.if-get-upto.true in
    let stops = late_stops low high versions i v c.loop-version-test.true c.version-item.is (drop (i + 1) versions) (rest_at versions i v c.loop-version-test.true c.version-item.is)
    (rising_behind versions i c.versions_behind-versions.ensures.rising) above in
    let all = late_all h c.args.self.now done high versions c.versions.result.now c.args.context.now.versions refl (c.versions.ensures.versions ∙ c.past.ensures.versions) c.versions_behind-versions.ensures.unmade made in
    subst (λ l. HasMade h c.loop-version.self (done ++ l)) (stops ∙ all) (c.loop-version.invariant done made)
