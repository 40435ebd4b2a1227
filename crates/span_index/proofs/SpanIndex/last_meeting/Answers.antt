use Rattle.std.proofs.Common.{◌≡◌, ◌-◌, ◌≤◌, length, subst, sym, ap, ◌∙◌, arith}
use Rattle.std.proofs.lemmas.Bool.{false≢true}
use Rattle.std.proofs.lemmas.List.{length-map}
use Rattle.span_index.specs.Meeting.{Meets, NoneMeets}
use Rattle.span_index.specs.declared.Entry.{Entry}
use Rattle.span_index.proofs.Skipping.{block_upto, skip_block, skip_one}
use Rattle.span_index.proofs.SpanIndex.last_meeting.Goals as goal

pub spans-preserved-then-not-meets : goal.spans-preserved-then-not-meets
spans-preserved-then-not-meets c =
    let entries = c.self.inside.entries.items in
    let entry = c.index-entry.result.now in
    let upto : c.spans.rest ≤ c.args.count = c.spans.invariant.0 in
    let none = subst (λ l. NoneMeets l c.spans.rest c.args.count c.args.low c.args.high) (sym c.self.view_is) c.spans.invariant.1 in
    let requires : c.args.count ≤ length c.args.self.now = c.requires in
    let long : length c.args.self.now ≡ length entries = ap length (sym c.self.view_is) ∙ length-map entries (λ (e : Entry). e.span) in
    let bound : c.args.count ≤ length entries = omega arith in
    let not = λ (meets : Meets c.args.low c.args.high entry.hull). false≢true (c.if-not-meets.ensures.1 meets) in (
      block_upto entries entry c.spans.rest c.args.count c.args.low c.args.high c.spans-test.true upto bound c.index-entry.ensures none c.self.invariant,
      subst (λ l. NoneMeets l entry.from c.args.count c.args.low c.args.high) c.self.view_is
          (skip_block entries entry c.spans.rest c.args.count c.args.low c.args.high c.spans-test.true upto bound c.index-entry.ensures none c.self.invariant not),
    )

pub spans-preserved : goal.spans-preserved
spans-preserved c =
    let entries = c.self.inside.entries.items in
    let entry = c.index-entry.result.now in
    let upto : c.spans.rest ≤ c.args.count = c.spans.invariant.0 in
    let none = subst (λ l. NoneMeets l c.spans.rest c.args.count c.args.low c.args.high) (sym c.self.view_is) c.spans.invariant.1 in
    let requires : c.args.count ≤ length c.args.self.now = c.requires in
    let long : length c.args.self.now ≡ length entries = ap length (sym c.self.view_is) ∙ length-map entries (λ (e : Entry). e.span) in
    let bound : c.args.count ≤ length entries = omega arith in
    let not = λ (meets : Meets c.args.low c.args.high entry.span). false≢true (c.if-meets.ensures.1 meets) in (
      omega arith,
      subst (λ l. NoneMeets l (c.spans.rest - 1) c.args.count c.args.low c.args.high) c.self.view_is
          (skip_one entries entry c.spans.rest c.args.count c.args.low c.args.high c.spans-test.true upto bound c.index-entry.ensures none not),
    )
