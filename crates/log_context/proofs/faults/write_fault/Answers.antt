use Rattle.std.proofs.Common.{rules, ◌≡◌, ◌==◌, Some, None, find, ◌≢◌, ◌<◌, sym, subst, arith}
use Rattle.std.proofs.lemmas.Result.{IfOk-weaker}
use Rattle.object_past.specs.Faulted.{IsFaultOf}
use Rattle.write_groups.specs.Modelled.{event_of}
use Rattle.object_past.specs.declared.version.Maker.TheVariants.{Event}
use Rattle.object_past.specs.declared.version.Version.{Version}
use Rattle.past_building.specs.Modelled.{making_of}
use Rattle.log_context.proofs.Blaming.{lacking_fault, stray_fault, finding_fault, maker_fault}
use Rattle.log_context.proofs.faults.write_fault.Goals as goal

pub returns-in_default : goal.returns-in_default
returns-in_default g c = IfOk-weaker c.finding_fault-in_default.result _ _
    (λ fault found h r start body has codes k. lacking_fault h (making_of c.args.making) r k c.args.past.now has
    (let above : h.start < c.args.making.item.now.revision = omega (arith, c.if-revision-get.false, start, c.get.ensures.value, c.get-revision.ensures.value) in above)
    fault (subst (λ n. find (λ (v : Version). v.revision == n) c.args.past.now.versions ≡ None) c.get-revision.ensures.value (sym c.in_default.ensures)) (found h body)) c.finding_fault-in_default.ensures

pub returns-then-not-is_of : goal.returns-then-not-is_of
returns-then-not-is_of g c = λ h r start body has codes k. stray_fault h (making_of c.args.making) r k c.args.past.now has
    (let above : h.start < c.args.making.item.now.revision = omega (arith, c.if-revision-get.false, start, c.get.ensures.value, c.get-revision.ensures.value) in above)
    c.in-Some.version.now (subst (λ n. find (λ (v : Version). v.revision == n) c.args.past.now.versions ≡ Some c.in-Some.version.now) c.get-revision.ensures.value (sym c.in-Some.ensures))
    (let differs : c.in-Some.version.now.key ≢ c.args.making.item.now.key = search rules in differs)

pub returns-then-is_maker : goal.returns-then-is_maker
returns-then-is_maker g c = λ h r start body has codes k.
    (let same : c.in-Some.version.now.key ≡ c.args.making.item.now.key = search rules in
    let maker : c.in-Some.version.now.maker ≡ Event c.args.making.number = search rules in
    let fault = maker_fault h (making_of c.args.making) r k c.args.past.now has
    (let above : h.start < c.args.making.item.now.revision = omega (arith, c.if-revision-get.false, start, c.get.ensures.value, c.get-revision.ensures.value) in above)
    c.in-Some.version.now (subst (λ n. find (λ (v : Version). v.revision == n) c.args.past.now.versions ≡ Some c.in-Some.version.now) c.get-revision.ensures.value (sym c.in-Some.ensures)) c.args.makings.now codes same maker in
    subst (λ code. IsFaultOf h c.args.making.number (event_of c.args.making.event.now) code) (sym c.making_code.ensures) fault)

pub returns : goal.returns
returns g c = IfOk-weaker c.finding_fault-2.result _ _
    (λ fault found h r start body has codes k.
    let same : c.in-Some.version.now.key ≡ c.args.making.item.now.key = search rules in
    let other : c.in-Some.version.now.maker ≢ Event c.args.making.number = search rules in
    finding_fault h (making_of c.args.making) r k c.args.past.now has
    (let above : h.start < c.args.making.item.now.revision = omega (arith, c.if-revision-get.false, start, c.get.ensures.value, c.get-revision.ensures.value) in above)
    c.in-Some.version.now (subst (λ n. find (λ (v : Version). v.revision == n) c.args.past.now.versions ≡ Some c.in-Some.version.now) c.get-revision.ensures.value (sym c.in-Some.ensures)) fault same other (found h body)) c.finding_fault-2.ensures
