use Rattle.std.proofs.Common.{◌+◌, ◌<◌, arith}
use Rattle.std.proofs.lemmas.List.Elements.{All-push, All-weaker}
use Rattle.std.proofs.lemmas.List.Quantifiers.{all_pairs_push}
use Rattle.time_windows.specs.declared.span.Span.{Span}
use Rattle.worked_base.proofs.window_rows.spans_of.Goals as goal

pub loop-written-preserved : goal.loop-written-preserved
loop-written-preserved g c =
    let before = c.loop-written.invariant in
    let items = c.loop-written.spans.items in
    let last = c.loop-written.last in
    let start = c.args.start in
    let span = c.next_span-span.result in
    let later : last < span.revision = c.next_span-span.ensures in
    rw c.in_ok-push.ensures.items (
      all_pairs_push (λ (a b : Span). a.revision < b.revision) items span before.0 (λ k d within. (let below = before.1 k d within in omega (arith, below, later))),
      All-push (λ (one : Span). one.revision < span.revision + 1) items span (All-weaker (λ (one : Span). one.revision < last + 1) (λ (one : Span). one.revision < span.revision + 1) (λ one below. omega (arith, below, later)) items before.1) (omega arith),
      All-push (λ (one : Span). start < one.revision) items span before.2 (omega (arith, before.3, later)),
      omega (arith, before.3, later),
    )
