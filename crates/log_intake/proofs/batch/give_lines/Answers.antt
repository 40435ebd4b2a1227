use Rattle.std.proofs.Common.{◌∙◌, refl}
use Rattle.log_intake.proofs.BatchFacts.{fewer_wait, gives_more, gives_none, gives_nothing}
use Rattle.log_intake.proofs.batch.give_lines.Goals as goal

pub lines-init : goal.lines-init
lines-init c = record { gives = gives_nothing c.args.reader.now _; ended = refl }

pub lines-smaller : goal.lines-smaller
lines-smaller c = let n = rw c.in-Ok-Some.field-0-is at c.in-Ok-Some.ensures in fewer_wait c.lines.reader c.next_line.new.self _ n.gives.0

pub lines-preserved : goal.lines-preserved
lines-preserved c =
    let n = rw c.in-Ok-Some.field-0-is at c.in-Ok-Some.ensures in
    let before = c.lines.invariant in
    record {
      gives = gives_more c.args.reader.now c.lines.reader c.next_line.new.self _ c.lines.lines.items c.push.new.self.items _ before.gives n.gives.0 n.gives.1 c.in_ok-push-in-Ok-Some.ensures.items;
      ended = n.ended ∙ before.ended;
    }

pub returns-in-Ok-None-clause-gives : goal.returns-in-Ok-None-clause-gives
returns-in-Ok-None-clause-gives c =
    let n = rw c.in-Ok-None.field-0-is at c.in-Ok-None.ensures in
    (gives_none c.args.reader.now c.lines.reader c.next_line.new.self _ _ c.lines.invariant.gives n.gives.0, n.gives.1)

pub returns-in-Err-TooLong-clause-gives : goal.returns-in-Err-TooLong-clause-gives
returns-in-Err-TooLong-clause-gives c =
    let n = rw c.in-Err-TooLong.field-0-is at c.in-Err-TooLong.ensures in
    (c.lines.reader, c.lines.invariant.gives, (c.in-Err-TooLong.field-0-0, (n.too_long c.in-Err-TooLong.field-0-0 refl).0))
