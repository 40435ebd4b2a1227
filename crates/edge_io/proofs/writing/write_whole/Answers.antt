use Rattle.std.proofs.Common.{arith}
use Rattle.std.proofs.lemmas.List.{take_rest, length-drop}
use Rattle.edge_io.proofs.WrittenFacts.{appends_more}
use Rattle.edge_io.proofs.writing.write_whole.Goals as goal

pub pieces-preserved : goal.pieces-preserved
pieces-preserved g c =
    let w = c.in_ok-at.ensures in
    let whole = take_rest c.args.text.now c.pieces.at in
    let bound = rw whole at w.bound in
    let appended = rw whole at w.bytes in
    let left = length-drop c.pieces.at c.args.text.now in
    let some = bound.1 in
    let within = c.pieces.invariant.within in
    let before = c.pieces.invariant.counted in
    let now = w.cause.counted in
    record {
      within = omega (arith, some, left, within);
      counted = omega (arith, before, now);
      front = appends_more (g.K.Sink.written c.args.out.now) (g.K.Sink.written c.pieces.out) (g.K.Sink.written c.write.new.self) c.args.text.now c.pieces.at c.in_ok-at.field-0 c.pieces.invariant.front appended;
    }
