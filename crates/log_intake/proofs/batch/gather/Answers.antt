use Rattle.std.proofs.Common.{◌∙◌, arith, rules}
use Rattle.log_intake.proofs.BatchFacts.{gathers_goes_on, gathers_on, gathers_then, on_err, some_then}
use Rattle.log_intake.proofs.batch.gather.Goals as goal

pub returns-in_err-piece : goal.returns-in_err-piece
returns-in_err-piece g c =
    let before = c.pieces.invariant.counted in
    let more = c.take_piece.ensures.reads.counted in
    record {
      gathers = search rules;
      more = search rules;
      fault = search rules;
      memory = on_err c.from_residual.result _ (some_then _ _ _ c.args.reader.now c.pieces.reader _ c.args.taken c.pieces.at c.pieces.invariant.gathers c.in_err-piece.ensures.reads.memory);
      counted = omega (arith, before, more);
      others = λ other differs. c.take_piece.ensures.reads.others other differs ∙ c.pieces.invariant.others other differs;
    }

pub returns-then-not-goes_on : goal.returns-then-not-goes_on
returns-then-not-goes_on g c =
    let before = c.pieces.invariant.counted in
    let more = c.take_piece.ensures.reads.counted in
    record {
      gathers = gathers_then c.in_ok-piece.piece.end _ _ _ c.args.reader.now c.pieces.reader c.take_piece.new.reader _ _ c.args.taken c.pieces.at c.in_ok-piece.piece.taken c.pieces.invariant.gathers c.in_ok-piece.ensures.reads.takes;
      more = search rules;
      fault = search rules;
      memory = tt;
      counted = omega (arith, before, more);
      others = λ other differs. c.take_piece.ensures.reads.others other differs ∙ c.pieces.invariant.others other differs;
    }

pub returns-then-at-taken-ge-BATCH : goal.returns-then-at-taken-ge-BATCH
returns-then-at-taken-ge-BATCH g c =
    let before = c.pieces.invariant.counted in
    let more = c.take_piece.ensures.reads.counted in
    record {
      gathers = gathers_goes_on c.in_ok-piece.piece.end _ _ _ c.args.reader.now c.pieces.reader c.take_piece.new.reader _ _ c.args.taken c.pieces.at c.in_ok-piece.piece.taken (c.goes_on.ensures.0 c.if-not-goes_on.false) c.pieces.invariant.gathers c.in_ok-piece.ensures.reads.takes;
      more = search rules;
      fault = search rules;
      memory = tt;
      counted = omega (arith, before, more);
      others = λ other differs. c.take_piece.ensures.reads.others other differs ∙ c.pieces.invariant.others other differs;
    }

pub returns-then-at-eq-MOST_INPUT : goal.returns-then-at-eq-MOST_INPUT
returns-then-at-eq-MOST_INPUT g c =
    let before = c.pieces.invariant.counted in
    let more = c.take_piece.ensures.reads.counted in
    record {
      gathers = gathers_goes_on c.in_ok-piece.piece.end _ _ _ c.args.reader.now c.pieces.reader c.take_piece.new.reader _ _ c.args.taken c.pieces.at c.in_ok-piece.piece.taken (c.goes_on.ensures.0 c.if-not-goes_on.false) c.pieces.invariant.gathers c.in_ok-piece.ensures.reads.takes;
      more = search rules;
      fault = search rules;
      memory = tt;
      counted = omega (arith, before, more);
      others = λ other differs. c.take_piece.ensures.reads.others other differs ∙ c.pieces.invariant.others other differs;
    }

pub pieces-preserved : goal.pieces-preserved
pieces-preserved g c =
    let few = c.if-at-taken-ge-BATCH.false in
    let before = c.pieces.invariant.counted in
    let more = c.take_piece.ensures.reads.counted in
    record {
      gathers = gathers_on _ _ c.args.reader.now c.take_piece.new.reader _ c.args.taken c.in_ok-piece.piece.taken
          (gathers_goes_on c.in_ok-piece.piece.end _ _ _ c.args.reader.now c.pieces.reader c.take_piece.new.reader _ _ c.args.taken c.pieces.at c.in_ok-piece.piece.taken (c.goes_on.ensures.0 c.if-not-goes_on.false) c.pieces.invariant.gathers c.in_ok-piece.ensures.reads.takes)
          (omega (arith, few));
      counted = omega (arith, before, more);
      others = λ other differs. c.take_piece.ensures.reads.others other differs ∙ c.pieces.invariant.others other differs;
      buffer = c.take_piece.ensures.buffer ∙ c.pieces.invariant.buffer;
    }
