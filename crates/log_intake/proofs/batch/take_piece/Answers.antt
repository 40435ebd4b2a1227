use Rattle.std.proofs.Common.{take, arith, refl, rules}
use Rattle.log_intake.proofs.BatchFacts.{piece_failed, piece_fed, piece_long, piece_past}
use Rattle.log_intake.proofs.batch.take_piece.Goals as goal

pub returns-in-Err-clause-reads : goal.returns-in-Err-clause-reads
returns-in-Err-clause-reads g c = record {
  takes = piece_failed _ _ c.args.reader.now _ c.args.taken c.requires.within c.requires.going c.in-Err.ensures.bytes;
  more = search rules;
  fault = λ _. c.in-Err.ensures.cause.failed;
  memory = tt;
  counted = c.in-Err.ensures.cause.counted;
  others = c.in-Err.ensures.others;
}

pub returns-then-not-branch-clause-reads : goal.returns-then-not-branch-clause-reads
returns-then-not-branch-clause-reads g c =
    let m = c.min-within.ensures in
    let w = c.requires.within in
    let a = c.read.auto.into in
    let small = c.requires.piece in
    record {
      takes = piece_long c.in_ok-give_fed.field-0 _ _ c.args.reader.now c.give_fed.new.reader _ _ c.read.new.into (take c.min-within.result c.read.new.into) c.args.taken c.min-within.result c.in-Ok.count c.if-not-branch.true c.in-Ok.ensures.bytes.0
          (omega (arith, m)) c.in-Ok.ensures.bound.0 (omega (arith, a, small)) (omega (arith, m, w)) refl c.in_ok-give_fed.ensures.gives;
      more = search rules;
      fault = search rules;
      memory = tt;
      counted = c.in-Ok.ensures.cause.counted;
      others = c.in-Ok.ensures.others;
    }

pub returns-then-within-count-clause-reads : goal.returns-then-within-count-clause-reads
returns-then-within-count-clause-reads g c =
    let m = c.min-within.ensures in
    let w = c.requires.within in
    let a = c.read.auto.into in
    let small = c.requires.piece in
    let t = c.if-within-count.true in
    record {
      takes = piece_past c.in_ok-give_fed.field-0 _ _ c.args.reader.now c.give_fed.new.reader _ _ c.read.new.into (take c.min-within.result c.read.new.into) c.args.taken c.min-within.result c.in-Ok.count c.if-not-branch.false c.in-Ok.ensures.bytes.0
          (omega (arith, t)) c.in-Ok.ensures.bound.0 (omega (arith, a, small)) (omega (arith, m, w, t)) refl c.in_ok-give_fed.ensures.going c.in_ok-give_fed.ensures.gives;
      more = search rules;
      fault = search rules;
      memory = tt;
      counted = c.in-Ok.ensures.cause.counted;
      others = c.in-Ok.ensures.others;
    }

pub returns-clause-reads : goal.returns-clause-reads
returns-clause-reads g c =
    let m = c.min-within.ensures in
    let w = c.requires.within in
    let a = c.read.auto.into in
    let small = c.requires.piece in
    let f = c.if-within-count.false in
    record {
      takes = piece_fed c.in_ok-give_fed.field-0 _ _ c.args.reader.now c.give_fed.new.reader _ _ c.read.new.into (take c.min-within.result c.read.new.into) c.args.taken c.min-within.result c.in-Ok.count c.if-not-branch.false c.in-Ok.ensures.bytes.0
          (omega (arith, m, f)) c.in-Ok.ensures.bound.0 (omega (arith, a, small)) (omega (arith, m, w)) refl c.in_ok-give_fed.ensures.going c.in_ok-give_fed.ensures.gives;
      more = search rules;
      fault = search rules;
      memory = tt;
      counted = c.in-Ok.ensures.cause.counted;
      others = c.in-Ok.ensures.others;
    }
