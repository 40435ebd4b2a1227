use Rattle.std.proofs.Common.{◌-◌, ap, ◌∙◌, string_bytes, arith}
use Rattle.case_maker.specs.declared.cluster.Cluster.{Cluster}
use Rattle.case_maker.proofs.CaseFacts.{revision_bound, event_step}
use Rattle.case_maker.proofs.case.make_case.Goals as goal

pub append_next-requires-clause-revision : goal.append_next-requires-clause-revision
append_next-requires-clause-revision c =
    let bound = revision_bound c.args.number (c.loop-event.event - 1) in
    let same = ap (λ (s : Cluster). s.revision) c.loop-event.invariant.state in
    omega (arith, bound, same)

pub loop-event-preserved : goal.loop-event-preserved
loop-event-preserved c =
    let step = event_step c.args.number c.loop-event.event c.loop-event.cluster c.append_next.new.cluster (string_bytes c.loop-event.log) (string_bytes c.append_next.new.log) (omega arith)
    c.loop-event.invariant.state c.loop-event.invariant.written c.in_ok-append_next.ensures.state c.in_ok-append_next.ensures.line in
    record { state = step.0; written = step.1 }

pub returns-clause-setup : goal.returns-clause-setup
returns-clause-setup c = c.from_vec.ensures ∙ c.in_ok-from_slice.ensures.items ∙ c.as_bytes.ensures.value
