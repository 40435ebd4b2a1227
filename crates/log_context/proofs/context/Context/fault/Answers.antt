use Rattle.std.proofs.Common.{List, Option, subst, sym}
use Rattle.base_types.specs.declared.verdict.claim.Reason.{Reason}
use Rattle.object_past.specs.Faulted.{AreFaults}
use Rattle.log_context.specs.Histories.{history_of}
use Rattle.log_context.specs.Known.{Known}
use Rattle.log_context.proofs.context.Context.fault.Goals as goal

pub returns : goal.returns
returns c =
    let told : AreFaults (history_of c.args.self.now) c.self.inside.faults.items = subst (λ (k : Known). AreFaults (history_of k) c.self.inside.faults.items) c.self.view_is c.self.invariant.faults_of in
    let are : AreFaults (history_of c.args.self.now) c.as_slice.result.now = subst (λ (l : List (Option Reason)). AreFaults (history_of c.args.self.now) l) (sym c.as_slice.ensures.value) told in
    λ e known. c.fault_at.ensures (history_of c.args.self.now) e are known
