use Rattle.std.proofs.Common.{◌∙◌, sym, take, arith}
use Rattle.edge_io.proofs.WholeFacts.{whole_ended, whole_failed, whole_long, whole_memory}
use Rattle.edge_io.proofs.whole.read_whole.Goals as goal

pub returns-in-Err-clause-reads : goal.returns-in-Err-clause-reads
returns-in-Err-clause-reads g c =
    let l = c.pieces.invariant in
    let before = l.counted in
    let more = c.in-Err.ensures.cause.counted in
    let rose = c.in-Err.ensures.cause.failed in
    whole_failed _ _ _ _ _ _ c.pieces.bytes.items l.within l.told c.in-Err.ensures.bytes (omega (arith, before, more)) (omega (arith, before, rose))

pub returns-then-count-eq0-clause-reads : goal.returns-then-count-eq0-clause-reads
returns-then-count-eq0-clause-reads g c =
    let l = c.pieces.invariant in
    let before = l.counted in
    let more = c.in-Ok.ensures.cause.counted in
    let a = c.read.auto.into in
    let b = c.pieces.auto.buffer in
    let some = c.requires.some in
    whole_ended _ _ _ _ _ _ c.from_vec.result c.pieces.bytes.items (take c.in-Ok.count c.read.new.into) c.from_vec.ensures l.within l.told c.in-Ok.ensures.bytes.0 (sym c.in-Ok.ensures.bound.1 ∙ c.if-count-eq0.true)
    (c.in-Ok.ensures.bytes.1 c.if-count-eq0.true (omega (arith, a, b, some))) (omega (arith, before, more))

pub returns-then-room-count-clause-reads : goal.returns-then-room-count-clause-reads
returns-then-room-count-clause-reads g c =
    let l = c.pieces.invariant in
    let before = l.counted in
    let more = c.in-Ok.ensures.cause.counted in
    let a = c.read.auto.into in
    let b = c.pieces.auto.buffer in
    let small = c.requires.piece in
    let many = c.if-room-count.true in
    whole_long _ _ _ _ _ _ c.pieces.bytes.items c.read.new.into c.in-Ok.count l.within l.told c.in-Ok.ensures.bytes.0 c.in-Ok.ensures.bound.0 (omega (arith, a, b, small)) (omega (arith, before, more)) (omega (arith, many))

pub returns-in-Err-extend_from_slice-clause-reads : goal.returns-in-Err-extend_from_slice-clause-reads
returns-in-Err-extend_from_slice-clause-reads g c =
    let l = c.pieces.invariant in
    let before = l.counted in
    let more = c.in-Ok.ensures.cause.counted in
    let a = c.read.auto.into in
    let b = c.pieces.auto.buffer in
    let small = c.requires.piece in
    whole_memory _ _ _ _ _ _ c.pieces.bytes.items c.read.new.into c.in-Ok.count l.within l.told c.in-Ok.ensures.bytes.0 c.in-Ok.ensures.bound.0 (omega (arith, a, b, small)) (omega (arith, before, more))
