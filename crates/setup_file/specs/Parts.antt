-- What is read of a setup by functions of their own.
use Rattle.std.specs.Prelude.{ℕ, ◌&&◌, ◌||◌, List, [], Option, Some, None, Result, Ok, option_and_then, codes, if◌then◌else◌}
use Rattle.base_types.specs.Meaning.{Meaning}
use Rattle.base_types.specs.Parts.{member_of}
use Rattle.setup_file.specs.declared.authorization.Authorization.{Authorization}
use Rattle.setup_file.specs.declared.fault.SetupRule.{SetupRule}
use Rattle.setup_file.specs.declared.fault.SetupRule.TheVariants.{S14, S15}
use Rattle.setup_file.specs.declared.lists.ListRead.{ListRead}
use Rattle.setup_file.specs.declared.setup.Checkpoint.{Checkpoint}
use Rattle.setup_file.specs.declared.setup.SnapshotObject.{SnapshotObject}
use Rattle.setup_file.specs.declared.setup.Tracked.{Tracked}
use Rattle.setup_file.specs.Authorization.{authorization_of, is_authorized}
use Rattle.setup_file.specs.Checkpoints.{is_no_text, is_whole_at, checkpoints_of}
use Rattle.setup_file.specs.Lists.{list_of}
use Rattle.setup_file.specs.Steps.{◌>>=◌, or_breaks, unless_breaks}

-- a list that a checkpoint may have
abbrev pub fit_list_of : ℕ → Tracked → List ℕ → Meaning → Option ListRead
fit_list_of start tracked namespace tree = option_and_then (λ list. if (is_no_text namespace || tracked.namespaced) && is_whole_at start list then Some list else None) (list_of tracked [] namespace tree)

-- what stands on the resources and the snapshot: what is said of authorization, and the checkpoints
abbrev pub rest_at : ℕ → List Tracked → List SnapshotObject → Meaning → Result (Authorization × List Checkpoint) SetupRule
rest_at start resources snapshot tree = do
  authorization ← or_breaks S14 (authorization_of tree)
  checkpoints ← unless_breaks S14 (is_authorized resources snapshot authorization)
      (or_breaks S15 (checkpoints_of start resources (member_of (codes "checkpoints") tree)))
  Ok (authorization, checkpoints)
