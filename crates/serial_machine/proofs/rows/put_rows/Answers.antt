use Rattle.std.proofs.Common.{◌≡◌, ◌<◌, ◌≤◌, ◌+◌, map, drop, ap, sym, subst, ◌∙◌, arith}
use Rattle.std.proofs.lemmas.List.{drop_all}
use Rattle.history_model.specs.Machine.{Put}
use Rattle.object_past.specs.Modelled.{version_of}
use Rattle.setup_file.specs.declared.setup.Setup.{Setup}
use Rattle.log_context.specs.Histories.{history_of}
use Rattle.write_groups.specs.Modelled.{event_of}
use Rattle.serial_machine.proofs.Gathering.{AreRowsBefore, rows_none, rows_more, rows_all, put_next, put_skipped}
use Rattle.serial_machine.specs.Ordered.{placed_puts, puts_above}
use Rattle.serial_machine.proofs.rows.put_rows.Goals as goal
use Rattle.serial_machine.proofs.rows.put_rows.Goals.{then-start-get+in_ok-push, else-start-get}

pub loop-version-init : goal.loop-version-init
loop-version-init c = rows_none (history_of c.args.context.now) (placed_puts (history_of c.args.context.now)) _ _ c.new-rows.ensures.items
    (ap (λ vs. puts_above (history_of c.args.context.now).start (map version_of vs)) c.versions-versions.ensures.versions)

pub loop-version-preserved : goal.loop-version-preserved
loop-version-preserved c =
    let h = history_of c.args.context.now in
    let versions = c.versions-versions.result.now in
    let i = c.loop-version.version-index in
    let version = c.version-item.result in
    let steps = placed_puts h in
    let rest = puts_above h.start (map version_of (drop (i + 1) versions)) in
    let start : c.get-start.result ≡ h.start = c.get-start.ensures.value ∙ ap (λ (s : Setup). s.start) c.setup.ensures.setup in
    let revision : c.get.result ≡ version.revision = c.get.ensures.value in
    elim c.if-start-get.branch [
      | then-start-get+in_ok-push w ↦
          let above : h.start < version.revision = omega (arith, w.if-start-get.true, start, revision) in
          let begun = subst (λ l. AreRowsBefore h steps l c.loop-version.rows.items) (put_next h.start versions i version c.loop-version-test.true c.version-item.is above) c.loop-version.invariant in
          subst (λ l. AreRowsBefore h steps rest l) (sym ((λ i. (w.rows-is i).items) ∙ w.in_ok-push.ensures.items))
          (rows_more h steps rest (Put (version_of version)) c.loop-version.rows.items w.put_row.result (w.put_row.ensures.turn h (ap (map event_of) (sym c.log-log.ensures.log))) w.put_row.ensures.step begun)
      | else-start-get w ↦
          let upto : version.revision ≤ h.start = omega (arith, w.if-start-get.false, start, revision) in
          let begun = subst (λ l. AreRowsBefore h steps l c.loop-version.rows.items) (put_skipped h.start versions i version c.loop-version-test.true c.version-item.is upto) c.loop-version.invariant in
          subst (λ l. AreRowsBefore h steps rest l) (sym (λ i. (w.rows-is i).items)) begun
    ]

pub returns : goal.returns
returns c = rows_all (history_of c.args.context.now) (placed_puts (history_of c.args.context.now)) _ c.loop-version.rows.items
    (ap (λ vs. puts_above (history_of c.args.context.now).start (map version_of vs)) (drop_all c.loop-version.version-index c.versions-versions.result.now c.loop-version-test.false)) c.loop-version.invariant
