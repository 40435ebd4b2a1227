use Rattle.std.proofs.Common.{List, None, subst}
use Rattle.std.proofs.lemmas.List.{take_all}
use Rattle.write_groups.proofs.Timing.{no_spans, none_more, one_more}
use Rattle.write_groups.specs.declared.groups.Group.{Group}
use Rattle.write_groups.specs.Spanned.{IsSpan, IsSpanIn, AreSpansOf}
use Rattle.write_groups.proofs.spans.spans_with.Goals as goal
use Rattle.write_groups.proofs.spans.spans_with.Goals.{in-Some+in_ok-push, in_default}

pub loop-group-init : goal.loop-group-init
loop-group-init c = rw c.in_ok-spans.ensures.items (no_spans c.args.events.now c.args.hidden.now)

pub loop-group-preserved : goal.loop-group-preserved
loop-group-preserved c = elim c.match-span_in.branch [
  | in-Some+in_ok-push w ↦
      let is : IsSpan c.args.events.now c.args.hidden.now c.group-item.result w.in-Some.span = subst (λ o. IsSpanIn c.args.events.now c.args.hidden.now c.group-item.result o) w.in-Some.is c.span_in.ensures in
      rw (w.spans-is, w.in_ok-push.ensures.items)
      (one_more c.args.events.now c.args.hidden.now c.args.groups.now c.loop-group.group-index c.group-item.result c.loop-group.spans.items w.in-Some.span c.requires c.loop-group-test.true c.group-item.is c.loop-group.invariant is)
  | in_default w ↦
      let none : IsSpanIn c.args.events.now c.args.hidden.now c.group-item.result None = subst (λ o. IsSpanIn c.args.events.now c.args.hidden.now c.group-item.result o) w.in_default.is c.span_in.ensures in
      rw w.spans-is
      (none_more c.args.events.now c.args.hidden.now c.args.groups.now c.loop-group.group-index c.group-item.result c.loop-group.spans.items c.loop-group-test.true c.group-item.is c.loop-group.invariant none)
]

pub returns : goal.returns
returns c = subst (λ (l : List Group). AreSpansOf c.args.events.now c.args.hidden.now l c.loop-group.spans.items)
    (take_all c.loop-group.group-index c.args.groups.now c.loop-group-test.false) c.loop-group.invariant
