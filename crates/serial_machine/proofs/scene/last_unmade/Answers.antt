use Rattle.std.proofs.Common.{◌-◌, sym, subst, ◌∙◌, arith}
use Rattle.object_past.specs.Modelled.{version_of}
use Rattle.log_context.specs.Histories.{history_of}
use Rattle.serial_machine.proofs.Seeking.{AreUpto, upto_all, seek_end, seek_none, seek_old, seek_here, seek_on, last_upto}
use Rattle.serial_machine.proofs.scene.last_unmade.Goals as goal

pub loop-place-init : goal.loop-place-init
loop-place-init c = upto_all (history_of c.args.context.now) c.args.key.now c.args.low c.args.high

pub returns-in_default : goal.returns-in_default
returns-in_default c = sym (seek_none (history_of c.args.context.now) c.log-log.ensures.readable c.args.key.now c.args.low c.args.high c.loop-place.place c.loop-place.invariant c.in_default.ensures.latest)

pub returns-then-revision-low : goal.returns-then-revision-low
returns-then-revision-low c = sym (seek_old (history_of c.args.context.now) c.log-log.ensures.readable c.args.key.now c.args.low c.args.high c.loop-place.place c.loop-place.invariant
    (version_of c.in-Some.version.now) c.in-Some.ensures.latest (omega arith))

pub returns-then-has_no_maker : goal.returns-then-has_no_maker
returns-then-has_no_maker c = sym (seek_here (history_of c.args.context.now) c.log-log.ensures.readable c.args.key.now c.args.low c.args.high c.loop-place.place c.loop-place.invariant
    (version_of c.in-Some.version.now) c.in-Some.ensures.latest (omega arith) (sym c.has_no_maker.ensures ∙ c.if-has_no_maker.true))

pub loop-place-preserved : goal.loop-place-preserved
loop-place-preserved c = subst (λ n. AreUpto (history_of c.args.context.now) c.args.key.now c.args.low c.args.high (n - 1)) (sym c.get-revision.ensures.value)
    (seek_on (history_of c.args.context.now) c.log-log.ensures.readable c.args.key.now c.args.low c.args.high c.loop-place.place c.loop-place.invariant
    (version_of c.in-Some.version.now) c.in-Some.ensures.latest (omega arith) (sym c.has_no_maker.ensures ∙ c.if-has_no_maker.false))

pub returns : goal.returns
returns c = sym (seek_end (history_of c.args.context.now) c.log-log.ensures.readable c.args.key.now c.args.low c.args.high c.loop-place.place c.loop-place.invariant (omega arith))

pub loop-place-smaller : goal.loop-place-smaller
loop-place-smaller c =
    let found = last_upto (history_of c.args.context.now) c.args.key.now c.loop-place.place (version_of c.in-Some.version.now) c.in-Some.ensures.latest in
    let value = c.get-revision.ensures.value in
    let test = c.if-revision-low.false in omega arith
