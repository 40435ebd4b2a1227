-- What a setup and the events of a log tell, whole: of a context, what the definitions say and nothing that is kept beside
-- it for speed.
use Rattle.std.specs.Prelude.{◌≡◌}
use Rattle.history_model.specs.Readable.{IsReadable}
use Rattle.past_building.specs.Hidden.{unrecorded_in}
use Rattle.log_context.specs.Histories.{history_of}
use Rattle.log_context.specs.Known.{Known}
use Rattle.log_context.specs.LogTrees.{pooled}
use Rattle.log_context.specs.Logged.{AreLogged}
use Rattle.log_context.specs.Roles.{AreRoles, role_ends}
use Rattle.log_context.specs.Shown.{AreItemsOf}

pub record IsTold (known : Known) : Type 0 where
  pub trees : known.trees ≡ pooled known.setup known.events
  pub snapshot : AreItemsOf known.trees known.setup.snapshot known.snapshot
  pub logged : AreLogged known.setup known.trees known.events known.log
  pub readable : IsReadable (history_of known)
  pub roles : AreRoles known.trees known.versions known.rbac.versions
  pub ends : known.rbac.ends ≡ role_ends known.removals
  pub unrecorded : known.rbac.spans ≡ unrecorded_in (history_of known) known.log
  pub bypass : known.rbac.bypass ≡ known.setup.bypass
