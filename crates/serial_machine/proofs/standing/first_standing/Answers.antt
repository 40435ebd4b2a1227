use Rattle.std.proofs.Common.{◌<◌, ◌≤◌, length, arith, refl, subst, sym}
use Rattle.std.proofs.lemmas.List.{length-map}
use Rattle.base_types.specs.Reasons.{code_number}
use Rattle.base_types.specs.declared.verdict.claim.Reason.{Reason}
use Rattle.history_model.specs.Checking.{HasCodeAt, HasSomeCodeAt, IsLeastLine}
use Rattle.serial_machine.proofs.Firsts.{Stands, code_at, first_standing_is, least_at, none_standing, one_more}
use Rattle.serial_machine.proofs.Numbering.{some_event}
use Rattle.serial_machine.proofs.standing.first_standing.Goals as goal
use Rattle.log_context.specs.Histories.{history_of}
use Rattle.write_groups.specs.Modelled.{event_of}

pub loop-number-init : goal.loop-number-init
loop-number-init c = λ k event l. absurd (omega (arith, l))

pub loop-number-preserved : goal.loop-number-preserved
loop-number-preserved c =
    let h = history_of c.args.context.now in
    one_more h (Stands h) c.loop-number.number c.loop-number.invariant (λ event here stands. c.in_default.ensures event here stands.0 stands.1)

pub returns-in-Some-clause-line : goal.returns-in-Some-clause-line
returns-in-Some-clause-line c =
    let known = c.args.context.now in
    let h = history_of known in
    let n = c.loop-number.number in
    let below : n < length known.log = omega (arith, c.loop-number-test.true, c.event_count-number-end.ensures.count) in
    let e = some_event h known.log refl n below in
    subst (IsLeastLine (HasSomeCodeAt h)) (sym (c.line_of.ensures e.0 e.1))
    (first_standing_is h c.event_count-number-end.ensures.readable n e.0 e.1 (c.in-Some.reason, (c.in-Some.ensures e.0 e.1).0) c.loop-number.invariant)

pub returns-in-Some-clause-code : goal.returns-in-Some-clause-code
returns-in-Some-clause-code c =
    let known = c.args.context.now in
    let h = history_of known in
    let n = c.loop-number.number in
    let below : n < length known.log = omega (arith, c.loop-number-test.true, c.event_count-number-end.ensures.count) in
    let e = some_event h known.log refl n below in
    subst (λ at. HasCodeAt h at c.in-Some.reason) (sym (c.line_of.ensures e.0 e.1)) (code_at h c.event_count-number-end.ensures.readable n e.0 c.in-Some.reason e.1 (c.in-Some.ensures e.0 e.1).0)

pub returns-in-Some-clause-least : goal.returns-in-Some-clause-least
returns-in-Some-clause-least c =
    let known = c.args.context.now in
    let h = history_of known in
    let n = c.loop-number.number in
    let below : n < length known.log = omega (arith, c.loop-number-test.true, c.event_count-number-end.ensures.count) in
    let e = some_event h known.log refl n below in
    subst (λ at. (other : Reason) → HasCodeAt h at other → code_number c.in-Some.reason ≤ code_number other) (sym (c.line_of.ensures e.0 e.1))
    (least_at h c.event_count-number-end.ensures.readable n e.0 c.in-Some.reason e.1 (c.in-Some.ensures e.0 e.1))

pub returns-clause-none : goal.returns-clause-none
returns-clause-none c =
    let h = history_of c.args.context.now in
    let all : length h.events ≤ c.loop-number.number = omega (arith, c.loop-number-test.false, c.event_count-number-end.ensures.count, length-map c.args.context.now.log event_of) in
    none_standing h c.event_count-number-end.ensures.readable c.loop-number.number all c.loop-number.invariant
