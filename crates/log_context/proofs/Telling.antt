-- A context holds what its setup and its events tell.
use Rattle.std.specs.Prelude.{◌≡◌, List, Option}
use Rattle.std.proofs.Common.{sym, subst}
use Rattle.base_types.specs.declared.verdict.claim.Reason.{Reason}
use Rattle.clouds.specs.Writes.{Writes}
use Rattle.time_windows.specs.History as timed
use Rattle.write_groups.specs.declared.event.Item.{Item}
use Rattle.write_groups.specs.declared.event.LogEvent.{LogEvent}
use Rattle.log_context.specs.Contexts.{IsContext}
use Rattle.log_context.specs.Known.{Known}
use Rattle.log_context.specs.Logged.{AreLogged}
use Rattle.log_context.specs.Shown.{AreItemsOf}
use Rattle.log_context.specs.Told.{IsTold}
use Rattle.log_context.specs.declared.log.Log.{Log}

pub told_of : (known : Known) (log : Log) (windows : timed.History) (clouds : Writes) (faults : List (Option Reason)) → known.snapshot ≡ log.snapshot
    → known.log ≡ log.events → IsContext known log windows clouds faults → IsTold known
told_of known log windows clouds faults items events is = record {
  trees = is.trees;
  snapshot = subst (λ (l : List Item). AreItemsOf known.trees known.setup.snapshot l) (sym items) is.logged.snapshot;
  logged = subst (λ (l : List LogEvent). AreLogged known.setup known.trees known.events l) (sym events) is.logged.logged;
  readable = is.readable;
  roles = is.roles;
  ends = is.ends;
  unrecorded = is.unrecorded;
  bypass = is.bypass;
}
