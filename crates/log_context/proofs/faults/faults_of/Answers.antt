use Rattle.std.proofs.Common.{◌≡◌, ◌∙◌, ◌+◌, Some, length, slice_get, sym, ap, refl, subst, arith}
use Rattle.std.proofs.lemmas.List.{length-map}
use Rattle.std.proofs.lemmas.Option.{slice_get_read}
use Rattle.history_model.specs.Histories.{IsEvent}
use Rattle.write_groups.proofs.Belonging.{event_from}
use Rattle.write_groups.specs.Modelled.{event_of}
use Rattle.log_context.specs.Makings.{AreFaultsUpTo}
use Rattle.log_context.proofs.Blaming.{faults_next, faults_all}
use Rattle.log_context.proofs.faults.faults_of.Goals as goal

pub loop-i-preserved : goal.loop-i-preserved
loop-i-preserved g c = λ h r start body has codes all.
    let log = c.args.log.now in
    let event = c.index-log-i.result in
    let at : slice_get log c.loop-i.i ≡ Some event = slice_get_read log (length log) c.loop-i.i event refl c.loop-i-test.true c.index-log-i.is in
    let known : IsEvent h c.loop-i.i (event_of event) = event_from log h c.loop-i.i event all at in
    subst (AreFaultsUpTo h (c.loop-i.i + 1)) (sym c.in_ok-push.ensures.items)
    (faults_next h c.loop-i.i (event_of event) c.in_ok-fault.fault c.loop-i.faults.items known (c.in_ok-fault.ensures h r start body has codes known) (c.loop-i.invariant h r start body has codes all))

pub returns : goal.returns
returns g c = λ h r start body has codes all.
    let whole : c.loop-i.i ≡ length h.events =
    let long : length h.events ≡ length c.args.log.now = ap length all ∙ length-map c.args.log.now event_of in
    omega (arith, long, c.loop-i-test.false, c.loop-i.auto.i-end) in
    faults_all h c.loop-i.i c.loop-i.faults.items whole (c.loop-i.invariant h r start body has codes all)
