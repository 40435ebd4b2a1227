use Rattle.std.proofs.Common.{◌≡◌, ◌+◌, None, length, ap, sym, ◌∙◌, subst, arith}
use Rattle.std.proofs.lemmas.List.{length-map}
use Rattle.log_context.specs.Histories.{history_of}
use Rattle.write_groups.specs.Modelled.{event_of}
use Rattle.log_verdict.proofs.OutcomePlacing.{ArePlacedUpTo, found_at, line_found, line_placed, placed_all, placed_before, placed_more, placed_none}
use Rattle.log_verdict.proofs.OutcomeSharing.{context_shared}
use denote.Param.Send.{sendable}
use Rattle.log_verdict.proofs.outcome.placed.Goals as goal

pub lines_all-requires-sync-S : goal.lines_all-requires-sync-S
lines_all-requires-sync-S g c = λ κs lives. search (context_shared, sendable) depth 20

pub loop-line-init : goal.loop-line-init
loop-line-init g c = rw c.new-lines.ensures (placed_none (history_of c.args.context.now) c.args.choice.now)

pub unwrap-requires : goal.unwrap-requires
unwrap-requires g c =
    let known = c.args.context.now in
    let choice = c.args.choice.now in
    let n = c.loop-line.line-index in
    let e = found_at known choice c.in_ok-found.found.items c.deref-line-items.result.now n None c.requires.explains c.in_ok-found.ensures c.deref-line-items.ensures.value c.loop-line-test.true in
    line_found (history_of known) choice n e.0 _ (c.requires.explains.right n e.0 e.1) e.2

pub push-requires : goal.push-requires
push-requires g c =
    let known = c.args.context.now in
    let choice = c.args.choice.now in
    let h = history_of known in
    let n = c.loop-line.line-index in
    let e = found_at known choice c.in_ok-found.found.items c.deref-line-items.result.now n None c.requires.explains c.in_ok-found.ensures c.deref-line-items.ensures.value c.loop-line-test.true in
    let placed = line_placed h choice n e.0 _ c.unwrap.result c.unwrap.ensures e.2 in
    placed_before h choice c.requires.readable n c.loop-line.lines e.0 c.unwrap.result e.1 placed c.loop-line.invariant

pub loop-line-preserved : goal.loop-line-preserved
loop-line-preserved g c =
    let known = c.args.context.now in
    let choice = c.args.choice.now in
    let h = history_of known in
    let n = c.loop-line.line-index in
    let e = found_at known choice c.in_ok-found.found.items c.deref-line-items.result.now n None c.requires.explains c.in_ok-found.ensures c.deref-line-items.ensures.value c.loop-line-test.true in
    let placed = line_placed h choice n e.0 _ c.unwrap.result c.unwrap.ensures e.2 in
    subst (ArePlacedUpTo h choice (n + 1)) (sym c.in_ok-push.ensures.ok) (placed_more h choice n c.loop-line.lines e.0 c.unwrap.result e.1 placed c.loop-line.invariant)

pub returns : goal.returns
returns g c =
    let h = history_of c.args.context.now in
    let all : length c.deref-line-items.result.now ≡ length c.args.context.now.log = ap length c.deref-line-items.ensures.value ∙ c.in_ok-found.ensures.all in
    let whole : c.loop-line.line-index ≡ length h.events = omega (arith, c.loop-line-test.false, c.loop-line.auto.line-index-end, all, length-map c.args.context.now.log event_of) in
    placed_all h c.args.choice.now c.loop-line.line-index c.loop-line.lines whole c.loop-line.invariant
