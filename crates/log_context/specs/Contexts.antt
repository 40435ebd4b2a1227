-- What is true of a context.
use Rattle.std.specs.Prelude.{◌≡◌, ◌<◌, ◌^◌, ◌≤ℤ◌, neg_ℤ, pos, ℕ, List, Option, All, length}
use Rattle.audit_event.specs.Events as audit
use Rattle.base_types.specs.declared.verdict.claim.Reason.{Reason}
use Rattle.clouds.specs.Writes.{Writes}
use Rattle.history_model.specs.Events as model
use Rattle.history_model.specs.Histories.{IsEvent}
use Rattle.history_model.specs.Readable.{IsReadable}
use Rattle.base_types.specs.Values.{InRange}
use Rattle.past_building.specs.Modelled.{AreCloudsOf}
use Rattle.past_building.specs.Hidden.{unrecorded_in}
use Rattle.setup_file.specs.Sound.{IsSound}
use Rattle.time_windows.specs.History as timed
use Rattle.object_past.specs.Faulted.{AreFaults}
use Rattle.log_context.specs.Histories.{history_of}
use Rattle.log_context.specs.Known.{Known}
use Rattle.log_context.specs.Log.{AreLines, IsLogOf, RiseByLine}
use Rattle.log_context.specs.LogTrees.{pooled}
use Rattle.rbac_timeline.specs.Sound.{AreSound}
use Rattle.log_context.specs.declared.log.Log.{Log}
use Rattle.log_context.specs.Roles.{AreRoles, role_ends}
use Rattle.write_groups.specs.Members.{AreGroupsOf}

-- what is found of the setup and the log is what the definitions say of them
pub record IsContext (known : Known) (log : Log) (windows : timed.History) (clouds : Writes) (faults : List (Option Reason)) : Type 0 where
  pub setup : IsSound known.setup
  pub events : All audit.IsSound known.events
  pub event_lines : AreLines known.events
  pub trees : known.trees ≡ pooled known.setup known.events
  pub numbers : All InRange known.trees
  pub logged : IsLogOf known.setup known.events known.trees log
  pub lines : RiseByLine known.log
  pub count : length known.log < 2 ^ 32
  -- far from the ends of the clock
  pub moments : (number : ℕ) (event : model.Event) → IsEvent (history_of known) number event → neg_ℤ (pos (2 ^ 101)) ≤ℤ event.lo
  pub readable : IsReadable (history_of known)
  pub groups : AreGroupsOf (history_of known) known.groups
  pub start : windows.start ≡ known.setup.start
  pub clouds_of : AreCloudsOf clouds (history_of known)
  pub roles : AreRoles known.trees known.versions known.rbac.versions
  pub ends : known.rbac.ends ≡ role_ends known.removals
  pub unrecorded : known.rbac.spans ≡ unrecorded_in (history_of known) known.log
  pub bypass : known.rbac.bypass ≡ known.setup.bypass
  pub sound_roles : AreSound known.rbac.versions known.rbac.ends
  pub nodes : All (λ v. v.node.0 < length known.trees) known.versions
  pub faults_of : AreFaults (history_of known) faults
