use Rattle.std.proofs.Common.{arith}
use Rattle.base_types.proofs.Lending.{written}
use Rattle.strict_order.proofs.latest.marks_of.Goals as goal

pub returns : goal.returns
returns c =
    let marks = c.in_ok-marks.marks in
    rw (written marks.len c.raise.new.marks marks.items (omega (arith, marks.ok.0)) (omega (arith, marks.ok.0, c.raise.auto.marks, c.deref_mut.ensures.len)))
    (record { order = marks.items; sorted = c.in_ok-marks.ensures; latest = rw c.deref_mut.ensures.value at c.raise.ensures })
