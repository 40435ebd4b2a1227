use Rattle.time_windows.proofs.Keeping.{spans_of-map}
use Rattle.time_windows.proofs.windows.Windows.build.Goals as goal

pub invariant_of-result : goal.invariant_of-result
invariant_of-result c =
    rw (c.of.ensures, c.of-2.ensures, c.in_ok-ends.ensures, c.in_ok-starts.ensures, spans_of-map c.args.spans.now)
    (record {
      behind = c.requires.above;
      ends = rw c.in_ok-ends.ensures at c.in_ok-running_greatest.ensures;
      starts = rw c.in_ok-starts.ensures at c.in_ok-running_least.ensures;
    })

pub returns-clause-spans : goal.returns-clause-spans
returns-clause-spans c = rw (c.of.ensures, c.of-2.ensures, c.in_ok-ends.ensures, c.in_ok-starts.ensures) (spans_of-map c.args.spans.now)
