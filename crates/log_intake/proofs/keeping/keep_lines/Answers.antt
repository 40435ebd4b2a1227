use Rattle.std.proofs.Common.{◌∙◌, ap, Err, subst, sym}
use Rattle.std.specs.Vec.Iter.{into_iter_items}
use Rattle.batch_decode.specs.Batches.{IsDecodedLine}
use Rattle.log_intake.specs.Keeping.{IsLineNext}
use Rattle.log_intake.proofs.LineFacts.{keeps_all, keeps_refused, lines_kept, line_kept, line_refused, stands_next}
use Rattle.log_intake.proofs.keeping.keep_lines.Goals as goal

pub keep_line-requires-clause-decoded : goal.keep_line-requires-clause-decoded
keep_line-requires-clause-decoded c =
    let s = stands_next c.args.lines.now (into_iter_items c.loop-line.line-iterator) (into_iter_items c.next.new.self) c.in-Some.line c.args.place c.loop-line.place c.args.seen.now c.loop-line.seen c.loop-line.at c.loop-line.invariant c.in-Some.ensures.steps.0 in
    subst (λ l. IsDecodedLine l c.in-Some.line) (sym (c.index-lines-at.is ∙ s.index c.index-lines-at.result)) s.decodes

pub keep_line-requires-clause-next : goal.keep_line-requires-clause-next
keep_line-requires-clause-next c =
    let s = stands_next c.args.lines.now (into_iter_items c.loop-line.line-iterator) (into_iter_items c.next.new.self) c.in-Some.line c.args.place c.loop-line.place c.args.seen.now c.loop-line.seen c.loop-line.at c.loop-line.invariant c.in-Some.ensures.steps.0 in
    subst (λ l. IsLineNext l c.loop-line.place c.loop-line.seen) (sym (c.index-lines-at.is ∙ s.index c.index-lines-at.result))
    (record { short = s.short; later = s.later; room = s.room; before = c.loop-line.invariant.before })

pub returns-in-Err : goal.returns-in-Err
returns-in-Err c =
    let l = c.loop-line.invariant in
    let s = stands_next c.args.lines.now (into_iter_items c.loop-line.line-iterator) (into_iter_items c.next.new.self) c.in-Some.line c.args.place c.loop-line.place c.args.seen.now c.loop-line.seen c.loop-line.at l c.in-Some.ensures.steps.0 in
    keeps_refused c.args.lines.now c.args.place c.args.seen.now c.keep_line.new.seen c.in-Err.stop
    (λ refusal. line_refused c.args.lines.now (into_iter_items c.loop-line.line-iterator) (into_iter_items c.next.new.self) c.in-Some.line c.args.place c.loop-line.place c.args.seen.now c.loop-line.seen c.loop-line.at c.index-lines-at.result c.in-Err.stop l s (c.index-lines-at.is ∙ s.index c.index-lines-at.result) (c.in-Err.ensures.refused refusal))
    (λ same. c.in-Err.ensures.no_fault (ap Err same))

pub loop-line-preserved : goal.loop-line-preserved
loop-line-preserved c =
    let l = c.loop-line.invariant in
    let s = stands_next c.args.lines.now (into_iter_items c.loop-line.line-iterator) (into_iter_items c.next.new.self) c.in-Some.line c.args.place c.loop-line.place c.args.seen.now c.loop-line.seen c.loop-line.at l c.in-Some.ensures.steps.0 in
    line_kept c.args.lines.now (into_iter_items c.loop-line.line-iterator) (into_iter_items c.next.new.self) c.in-Some.line c.args.place c.loop-line.place c.in-Ok.after c.args.seen.now c.loop-line.seen c.keep_line.new.seen c.loop-line.at c.index-lines-at.result l s (c.index-lines-at.is ∙ s.index c.index-lines-at.result)
    c.in-Ok.ensures.whole.takes c.in-Ok.ensures.whole.number c.in-Ok.ensures.whole.extra c.in-Ok.ensures.whole.before

pub returns : goal.returns
returns c =
    keeps_all c.args.lines.now c.args.place c.loop-line.place c.args.seen.now c.loop-line.seen
    (lines_kept c.args.lines.now (into_iter_items c.loop-line.line-iterator) c.args.place c.loop-line.place c.args.seen.now c.loop-line.seen c.loop-line.at c.loop-line.invariant (sym c.loop-line.line-iterator.rest.ok.0 ∙ c.in-None.ensures.steps.0))
