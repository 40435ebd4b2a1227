-- The setup of the parts that are read one after another.
use Rattle.std.proofs.Common.{◌≡◌, List, Ok, codes, ap, ◌∙◌}
use Rattle.base_types.specs.Meaning.{Meaning}
use Rattle.base_types.specs.Parts.{member_of}
use Rattle.audit_policy.specs.declared.policy.Policy.{Policy}
use Rattle.setup_file.specs.declared.authorization.Authorization.{Authorization}
use Rattle.setup_file.specs.declared.clocks.Clocks.{Clocks}
use Rattle.setup_file.specs.declared.fault.SetupFault.{SetupFault}
use Rattle.setup_file.specs.declared.fault.SetupFault.TheVariants.{Rule, OutOfMemory}
use Rattle.setup_file.specs.declared.fault.SetupRule.TheVariants.{S14, S15}
use Rattle.setup_file.specs.declared.setup.Checkpoint.{Checkpoint}
use Rattle.setup_file.specs.declared.setup.Setup.{Setup}
use Rattle.setup_file.specs.declared.setup.SnapshotObject.{SnapshotObject}
use Rattle.setup_file.specs.declared.setup.Tracked.{Tracked}
use Rattle.setup_file.specs.Authorization.{authorization_of, is_authorized}
use Rattle.setup_file.specs.Checkpoints.{checkpoints_of}
use Rattle.setup_file.specs.Parts.{rest_at}
use Rattle.setup_file.specs.Reading.{clocks_of, policy_at, resources_at, snapshot_at, setup_with}
use Rattle.setup_file.specs.Steps.{◌>>=◌, or_breaks, unless_breaks, IsCause}
use Rattle.setup_file.proofs.Chains.{paired}

-- the setup that has these parts
abbrev pub made_of : Clocks → Policy → List Tracked → List SnapshotObject → Authorization → List Checkpoint → Setup
made_of clocks policy resources snapshot authorization checkpoints = record {
  start = clocks.start;
  start_time = clocks.start_time;
  until = clocks.until;
  slack = clocks.slack;
  lag = clocks.lag;
  policy = policy;
  authorize = authorization.authorize;
  resources = resources;
  snapshot = snapshot;
  bypass = authorization.bypass;
  skip = authorization.skip;
  checkpoints = checkpoints;
}

-- where the parts before the rest break no rule
pub by_rest : (tree : Meaning) (clocks : Clocks) (policy : Policy) (resources : List Tracked) (snapshot : List SnapshotObject)
    → clocks_of tree ≡ Ok clocks → policy_at tree ≡ Ok policy → resources_at tree ≡ Ok resources → snapshot_at clocks.start resources tree ≡ Ok snapshot
    → setup_with tree ≡ (rest_at clocks.start resources snapshot tree >>= (λ rest. Ok (made_of clocks policy resources snapshot rest.0 rest.1)))
by_rest tree clocks policy resources snapshot c p r s =
    rw (c, p, r, s)
    (paired (or_breaks S14 (authorization_of tree))
    (λ authorization. unless_breaks S14 (is_authorized resources snapshot authorization) (or_breaks S15 (checkpoints_of clocks.start resources (member_of (codes "checkpoints") tree))))
    (λ authorization checkpoints. Ok (made_of clocks policy resources snapshot authorization checkpoints)))

pub rest_breaks : (tree : Meaning) (clocks : Clocks) (policy : Policy) (resources : List Tracked) (snapshot : List SnapshotObject) (fault : SetupFault)
    → clocks_of tree ≡ Ok clocks → policy_at tree ≡ Ok policy → resources_at tree ≡ Ok resources → snapshot_at clocks.start resources tree ≡ Ok snapshot
    → IsCause (rest_at clocks.start resources snapshot tree) fault → IsCause (setup_with tree) fault
rest_breaks tree clocks policy resources snapshot (Rule rule) c p r s cause =
    by_rest tree clocks policy resources snapshot c p r s ∙ ap (λ found. found >>= (λ rest. Ok (made_of clocks policy resources snapshot rest.0 rest.1))) cause
rest_breaks tree clocks policy resources snapshot OutOfMemory c p r s cause = cause

pub rest_found : (tree : Meaning) (clocks : Clocks) (policy : Policy) (resources : List Tracked) (snapshot : List SnapshotObject) (authorization : Authorization) (checkpoints : List Checkpoint)
    → clocks_of tree ≡ Ok clocks → policy_at tree ≡ Ok policy → resources_at tree ≡ Ok resources → snapshot_at clocks.start resources tree ≡ Ok snapshot
    → rest_at clocks.start resources snapshot tree ≡ Ok (authorization, checkpoints) → setup_with tree ≡ Ok (made_of clocks policy resources snapshot authorization checkpoints)
rest_found tree clocks policy resources snapshot authorization checkpoints c p r s found =
    by_rest tree clocks policy resources snapshot c p r s ∙ ap (λ found. found >>= (λ rest. Ok (made_of clocks policy resources snapshot rest.0 rest.1))) found
