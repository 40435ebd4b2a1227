use Rattle.std.proofs.Common.{◌+◌, ◌≤◌, arith, sym, ◌∙◌}
use Rattle.line_reader.proofs.LineFacts.{line_at, skips_more, none_through, none_behind, none_between}
use Rattle.line_reader.proofs.search.find_line.Goals as goal

pub returns-then-not-is_dropped_line-clause-skipped : goal.returns-then-not-is_dropped_line-clause-skipped
returns-then-not-is_dropped_line-clause-skipped c = c.lines.invariant.0

pub returns-then-not-is_dropped_line-clause-some : goal.returns-then-not-is_dropped_line-clause-some
returns-then-not-is_dropped_line-clause-some c =
    let found = c.in-Some.ensures.some in
    let none = none_through c.args.bytes.now c.lines.start c.lines.from c.in-Some.end c.lines.invariant.1 found.0 c.lines.invariant.3 found.3 in
    let a = c.lines.invariant.1 in
    let b = found.0 in
    let first : c.lines.start ≤ c.in-Some.end = omega (arith, a, b) in
    line_at c.args.bytes.now c.lines.start c.in-Some.end first found.1 found.2 none (sym c.is_dropped_line.ensures ∙ c.if-not-is_dropped_line.true)

pub lines-preserved : goal.lines-preserved
lines-preserved c =
    let found = c.in-Some.ensures.some in
    let none = none_through c.args.bytes.now c.lines.start c.lines.from c.in-Some.end c.lines.invariant.1 found.0 c.lines.invariant.3 found.3 in
    let a = c.lines.invariant.1 in
    let b = found.0 in
    let within = found.1 in
    let first : c.lines.start ≤ c.in-Some.end = omega (arith, a, b) in (
      rw c.next_number-number.ensures (skips_more c.args.bytes.now c.args.number c.lines.start c.lines.number c.in-Some.end c.lines.invariant.0 first found.1 found.2 none (sym c.is_dropped_line.ensures ∙ c.if-not-is_dropped_line.false)),
      (omega arith),
      (omega (arith, within)),
      none_between c.args.bytes.now (c.in-Some.end + 1),
    )

pub returns-clause-skipped : goal.returns-clause-skipped
returns-clause-skipped c = c.lines.invariant.0

pub returns-clause-none : goal.returns-clause-none
returns-clause-none c = none_behind c.args.bytes.now c.lines.start c.lines.from c.lines.invariant.1 c.lines.invariant.3 c.in_default.ensures.none
