use Rattle.std.proofs.Common.{◌≡◌, ◌≢◌, ◌++◌, [], length, arith, sym, ap, ◌∙◌}
use Rattle.verdict_text.proofs.BegunFacts.{explained_agree, begins_more, parts_more, whole_text}
use Rattle.verdict_text.proofs.FaultFacts.{breaks_at_once, breaks_at_first, breaks_at_line, breaks_at_end}
use Rattle.std.proofs.lemmas.Grind.{common_steps}
use Rattle.verdict_text.specs.Words.{ended}
use Rattle.verdict_text.proofs.reading.read_placement.Goals as goal
use Rattle.verdict_text.proofs.reading.read_placement.Goals.{else-is_empty-via-then-is_empty+else-as_slice-count, else-is_empty-via-else-is_empty}

pub returns-in_default-clause-fault : goal.returns-in_default-clause-fault
returns-in_default-clause-fault c = breaks_at_once c.args.bytes.now c.in_default.ensures.none

pub returns-in_default-read_count-clause-fault : goal.returns-in_default-read_count-clause-fault
returns-in_default-read_count-clause-fault c =
    breaks_at_first c.args.bytes.now c.in-Some.first.now c.in-Some.rest.now c.in-Some.ensures.some c.in-Some.ensures.whole c.in_default-read_count.ensures.none

pub returns-in_default-read_next-clause-fault : goal.returns-in_default-read_next-clause-fault
returns-in_default-read_next-clause-fault c =
    let parts = c.loop-line.invariant.parts ∙ ap (λ l. c.loop-line.invariant.before ++ l) c.in-Some-cut_line.ensures.some in
    rw c.fault_behind.ensures
    (breaks_at_line c.args.bytes.now c.loop-line.invariant.before c.in-Some-cut_line.line.now c.in-Some-cut_line.after.now c.in-Some-read_count.count c.loop-line.placement
    parts c.loop-line.invariant.begun c.in-Some-cut_line.ensures.whole c.in_default-read_next.ensures.none)

pub loop-line-preserved : goal.loop-line-preserved
loop-line-preserved c = record {
  before = c.loop-line.invariant.before ++ ended c.in-Some-cut_line.line.now;
  parts = parts_more c.args.bytes.now c.loop-line.invariant.before c.loop-line.rest.now c.in-Some-cut_line.line.now c.in-Some-cut_line.after.now c.loop-line.invariant.parts c.in-Some-cut_line.ensures.some;
  begun = rw c.in_ok-push.ensures.ok (begins_more c.loop-line.invariant.before c.in-Some-cut_line.line.now c.in-Some-read_count.count c.loop-line.placement c.in-Some-read_next.placed
      c.loop-line.invariant.begun c.in-Some-read_next.ensures.some);
}

pub returns-then-as_slice-count-clause-alone : goal.returns-then-as_slice-count-clause-alone
returns-then-as_slice-count-clause-alone c = λ other is e.
    let empty : c.loop-line.rest.now ≡ [] = grind (arith, common_steps) in
    let counted : length c.loop-line.placement ≡ c.in-Some-read_count.count = rw (← c.as_slice.ensures.lines) c.if-as_slice-count.true in
    let own = whole_text c.args.bytes.now c.loop-line.invariant.before c.loop-line.rest.now c.in-Some-read_count.count c.loop-line.placement c.loop-line.invariant.parts c.loop-line.invariant.begun empty counted in
    explained_agree other c.loop-line.placement is c.loop-line.invariant.begun.placed (e ∙ sym own)

pub returns-else-is_empty-clause-fault : goal.returns-else-is_empty-clause-fault
returns-else-is_empty-clause-fault c =
    let unended : c.loop-line.rest.now ≡ [] → c.in-Some-read_count.count ≢ length c.loop-line.placement = λ empty counted.
    elim c.else-is_empty.branch [
      | else-is_empty-via-then-is_empty+else-as_slice-count w ↦
          w.if-as_slice-count.false (ap length w.as_slice.ensures.lines ∙ sym counted)
      | else-is_empty-via-else-is_empty w ↦ grind (arith, common_steps)
    ] in
    rw c.fault_behind-else-is_empty.ensures
    (breaks_at_end c.args.bytes.now c.loop-line.invariant.before c.loop-line.rest.now c.in-Some-read_count.count c.loop-line.placement
    c.loop-line.invariant.parts c.loop-line.invariant.begun c.in_default-cut_line.ensures.none unended)
