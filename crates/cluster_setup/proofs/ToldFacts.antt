-- What a setup that is made says.
use Rattle.std.proofs.Common.{◌≡◌, ℕ, Bool, true, false, List, [], ◌∷◌, Some, None, Ok, codes, refl, sym, ◌∙◌, ap, subst}
use Rattle.std.specs.Prelude.{option_and_then}
use Rattle.std.specs.List.{flat_map}
use Rattle.std.specs.Result.{result_ok}
use Rattle.audit_policy.specs.declared.policy.Policy.{Policy}
use Rattle.audit_policy.specs.Forms.{policy_of}
use Rattle.base_types.specs.Meaning.{Meaning, items, flag, kids_of}
use Rattle.base_types.specs.Parts.{member_of, items_of}
use Rattle.base_types.proofs.Lists.{kids_list-kids_of}
use Rattle.setup_file.specs.declared.authorization.Authorization.{Authorization}
use Rattle.setup_file.specs.declared.clocks.Clocks.{Clocks}
use Rattle.setup_file.specs.declared.clocks.Start.{Start}
use Rattle.setup_file.specs.declared.fault.SetupRule.TheVariants.{S2, S3, S4, S5, S6, S7, S8, S9, S10, S11, S12, S13, S14, S15}
use Rattle.setup_file.specs.declared.setup.Checkpoint.{Checkpoint}
use Rattle.setup_file.specs.declared.setup.Setup.{Setup}
use Rattle.setup_file.specs.declared.setup.SnapshotObject.{SnapshotObject}
use Rattle.setup_file.specs.declared.setup.Tracked.{Tracked}
use Rattle.setup_file.specs.Authorization.{authorization_of, authorize_of, groups_or, is_authorized}
use Rattle.setup_file.specs.Checkpoints.{checkpoints_of}
use Rattle.setup_file.specs.Clocks.{start_of, until_of, nanos_of}
use Rattle.base_types.specs.Revisions.{revision_of}
use Rattle.timestamps.specs.Timestamps.{moment_of}
use Rattle.setup_file.specs.Reading.{chained, is_setup_form, is_known_version, clocks_of, policy_at, resources_at, snapshot_at, setup_with, setup_of}
use Rattle.setup_file.specs.Resources.{entries_in, are_apart, has_shape, tracked_in}
use Rattle.setup_file.specs.Snapshots.{snapshot_in, are_at_start}
use Rattle.setup_file.specs.Steps.{or_breaks, unless_breaks}
use Rattle.base_types.proofs.Found.{same_some, found_both, was_ok}
use Rattle.setup_file.proofs.Chains.{same_kept, kept_both, not_broken, test_kept}
use Rattle.std.specs.List.{list_all}
use Rattle.cluster_setup.specs.Files.{start_word}
use Rattle.cluster_setup.specs.Making.{entries_of, lag_of, objects_of, setup_tree, start_tree}
use Rattle.cluster_setup.specs.Told.{IsSetupOf}

pub record AreClocksOf (revision time : List ℕ) (judged : Bool) (clocks : Clocks) : Type 0 where
  pub start : revision_of revision ≡ Some clocks.start
  pub start_time : moment_of time ≡ Some clocks.start_time
  pub until : clocks.until ≡ None
  pub slack : clocks.slack ≡ 0
  pub lag : clocks.lag ≡ lag_of judged

start_told : (revision time : List ℕ) (start : Start) → start_of (start_tree revision time) ≡ Some start → (revision_of revision ≡ Some start.revision) × (moment_of time ≡ Some start.time)
start_told revision time start e =
    let number = found_both (revision_of revision) _ start e in
    let moment = found_both (moment_of time) _ start number.2 in
    let is = same_some _ start moment.2 in
    (number.1 ∙ ap (λ (s : Start). Some s.revision) is, moment.1 ∙ ap (λ (s : Start). Some s.time) is)

clocks_told : (tree : Meaning) (revision time : List ℕ) (judged : Bool) (clocks : Clocks) → member_of (codes "start") tree ≡ Some (start_tree revision time) → member_of (codes "until") tree ≡ None
    → member_of (codes "slackNanos") tree ≡ None → nanos_of (member_of (codes "lagNanos") tree) ≡ Some (lag_of judged) → clocks_of tree ≡ Ok clocks → AreClocksOf revision time judged clocks
clocks_told tree revision time judged clocks begun endless sharp late e =
    let start = kept_both (or_breaks S4 (chained (member_of (codes "start") tree) start_of)) _ clocks e in
    let until = kept_both (or_breaks S5 (until_of start.0.time (member_of (codes "until") tree))) _ clocks start.2 in
    let slack = kept_both (or_breaks S6 (nanos_of (member_of (codes "slackNanos") tree))) _ clocks until.2 in
    let lag = kept_both (or_breaks S6 (nanos_of (member_of (codes "lagNanos") tree))) _ clocks slack.2 in
    let is = same_kept _ clocks lag.2 in
    let started = not_broken S4 _ start.0 start.1 in
    let told = start_told revision time start.0 (sym (ap (λ m. chained m start_of) begun) ∙ started) in
    let until_is = same_some None until.0 (sym (ap (until_of start.0.time) endless) ∙ not_broken S5 _ until.0 until.1) in
    let slack_is = same_some 0 slack.0 (sym (ap nanos_of sharp) ∙ not_broken S6 _ slack.0 slack.1) in
    let lag_is = same_some (lag_of judged) lag.0 (sym late ∙ not_broken S6 _ lag.0 lag.1) in
    subst (AreClocksOf revision time judged) is (record {
      start = told.0;
      start_time = told.1;
      until = sym until_is;
      slack = sym slack_is;
      lag = sym lag_is;
    })

policy_told : (tree given : Meaning) (policy : Policy) → member_of (codes "policy") tree ≡ Some given → policy_at tree ≡ Ok policy → policy_of given ≡ Ok policy
policy_told tree given policy there e =
    was_ok (policy_of given) policy (sym (ap (λ m. chained m (λ value. result_ok (policy_of value))) there) ∙ not_broken S7 _ policy e)

resources_told : (tree : Meaning) (list : List Meaning) (resources : List Tracked) → chained (member_of (codes "resources") tree) items_of ≡ Some list → resources_at tree ≡ Ok resources → tracked_in list ≡ Some resources
resources_told tree list resources there e =
    let trees = kept_both (or_breaks S8 (chained (member_of (codes "resources") tree) items_of)) _ resources e in
    let entries = kept_both (or_breaks S8 (entries_in trees.0)) _ resources trees.2 in
    let apart = test_kept S9 (are_apart entries.0) _ resources entries.2 in
    let shaped = test_kept S10 (list_all has_shape trees.0) _ resources apart.1 in
    let same = same_some list trees.0 (sym there ∙ not_broken S8 _ trees.0 trees.1) in
    subst (λ l. tracked_in l ≡ Some resources) (sym same) (not_broken S11 _ resources shaped.1)

snapshot_told : (start : ℕ) (resources : List Tracked) (tree : Meaning) (list : List Meaning) (snapshot : List SnapshotObject) → chained (member_of (codes "snapshot") tree) items_of ≡ Some list
    → snapshot_at start resources tree ≡ Ok snapshot → snapshot_in resources list ≡ Some snapshot
snapshot_told start resources tree list snapshot there e =
    let trees = kept_both (or_breaks S12 (chained (member_of (codes "snapshot") tree) items_of)) _ snapshot e in
    let objects = kept_both (or_breaks S12 (snapshot_in resources trees.0)) _ snapshot trees.2 in
    let early = test_kept S13 (are_at_start start objects.0) _ snapshot objects.2 in
    let is = same_kept objects.0 snapshot early.1 in
    let same = same_some list trees.0 (sym there ∙ not_broken S12 _ trees.0 trees.1) in
    subst (λ l. snapshot_in resources l ≡ Some snapshot) (sym same) (not_broken S12 _ objects.0 objects.1 ∙ ap (λ o. Some o) is)

authorization_told : (tree : Meaning) (judged : Bool) (authorization : Authorization) → member_of (codes "authorize") tree ≡ Some (flag judged) → member_of (codes "bypassGroups") tree ≡ None
    → member_of (codes "skipGroups") tree ≡ None → authorization_of tree ≡ Some authorization
    → (authorization.authorize ≡ judged) × (authorization.bypass ≡ codes "system:masters" ∷ []) × (authorization.skip ≡ codes "system:nodes" ∷ [])
authorization_told tree judged authorization there usual usual_skip e =
    let authorize = found_both (authorize_of (member_of (codes "authorize") tree)) _ authorization e in
    let bypass = found_both (groups_or (codes "system:masters") (member_of (codes "bypassGroups") tree)) _ authorization authorize.2 in
    let skip = found_both (groups_or (codes "system:nodes") (member_of (codes "skipGroups") tree)) _ authorization bypass.2 in
    let is = same_some _ authorization skip.2 in
    let judged_is = same_some judged authorize.0 (sym (ap authorize_of there) ∙ authorize.1) in
    let bypass_is = same_some (codes "system:masters" ∷ []) bypass.0 (sym (ap (groups_or (codes "system:masters")) usual) ∙ bypass.1) in
    let skip_is = same_some (codes "system:nodes" ∷ []) skip.0 (sym (ap (groups_or (codes "system:nodes")) usual_skip) ∙ skip.1) in
    (sym (judged_is ∙ ap (λ (a : Authorization). a.authorize) is), sym (bypass_is ∙ ap (λ (a : Authorization). a.bypass) is), sym (skip_is ∙ ap (λ (a : Authorization). a.skip) is))

checkpoints_told : (start : ℕ) (resources : List Tracked) (tree : Meaning) (checkpoints : List Checkpoint) → member_of (codes "checkpoints") tree ≡ None
    → checkpoints_of start resources (member_of (codes "checkpoints") tree) ≡ Some checkpoints → checkpoints ≡ []
checkpoints_told start resources tree checkpoints none e = sym (same_some [] checkpoints (sym (ap (checkpoints_of start resources) none) ∙ e))

-- the members of the tree that is made
pub record HasParts (revision time : List ℕ) (given : Meaning) (entries objects : List Meaning) (judged : Bool) (tree : Meaning) : Type 0 where
  pub start : member_of (codes "start") tree ≡ Some (start_tree revision time)
  pub until : member_of (codes "until") tree ≡ None
  pub slack : member_of (codes "slackNanos") tree ≡ None
  pub lag : nanos_of (member_of (codes "lagNanos") tree) ≡ Some (lag_of judged)
  pub policy : member_of (codes "policy") tree ≡ Some given
  pub resources : member_of (codes "resources") tree ≡ Some (items (kids_of entries))
  pub snapshot : member_of (codes "snapshot") tree ≡ Some (items (kids_of objects))
  pub authorize : member_of (codes "authorize") tree ≡ Some (flag judged)
  pub bypass : member_of (codes "bypassGroups") tree ≡ None
  pub skip : member_of (codes "skipGroups") tree ≡ None
  pub checkpoints : member_of (codes "checkpoints") tree ≡ None

has_parts : (revision time : List ℕ) (given : Meaning) (trees shown : List Meaning) (judged : Bool)
    → HasParts revision time given (flat_map (entries_of trees) trees) (flat_map (objects_of trees) shown) judged (setup_tree revision time given trees shown judged)
has_parts revision time given trees shown true = record {
  start = refl;
  until = refl;
  slack = refl;
  lag = refl;
  policy = refl;
  resources = refl;
  snapshot = refl;
  authorize = refl;
  bypass = refl;
  skip = refl;
  checkpoints = refl;
}
has_parts revision time given trees shown false = record {
  start = refl;
  until = refl;
  slack = refl;
  lag = refl;
  policy = refl;
  resources = refl;
  snapshot = refl;
  authorize = refl;
  bypass = refl;
  skip = refl;
  checkpoints = refl;
}

-- the items of a list that was made of them
items_back : (list : List Meaning) → items_of (items (kids_of list)) ≡ Some list
items_back list = ap (λ l. Some l) (kids_list-kids_of list)

from_parts : (revision time : List ℕ) (given : Meaning) (trees : List Meaning) (judged : Bool) (tree : Meaning) (setup : Setup) → start_word trees ≡ Some revision
    → HasParts revision time given (flat_map (entries_of trees) trees) (flat_map (objects_of trees) trees) judged tree → setup_of tree ≡ Ok setup → IsSetupOf time given trees judged setup
from_parts revision time given trees judged tree setup begun parts e =
    let form = test_kept S2 (is_setup_form tree) _ setup e in
    let version = test_kept S3 (is_known_version tree) (setup_with tree) setup form.1 in
    let clocks = kept_both (clocks_of tree) _ setup version.1 in
    let policy = kept_both (policy_at tree) _ setup clocks.2 in
    let resources = kept_both (resources_at tree) _ setup policy.2 in
    let snapshot = kept_both (snapshot_at clocks.0.start resources.0 tree) _ setup resources.2 in
    let authorization = kept_both (or_breaks S14 (authorization_of tree)) _ setup snapshot.2 in
    let rest = or_breaks S15 (checkpoints_of clocks.0.start resources.0 (member_of (codes "checkpoints") tree)) in
    let checkpoints = kept_both (unless_breaks S14 (is_authorized resources.0 snapshot.0 authorization.0) rest) _ setup authorization.2 in
    let passed = test_kept S14 (is_authorized resources.0 snapshot.0 authorization.0) rest checkpoints.0 checkpoints.1 in
    let times = clocks_told tree revision time judged clocks.0 parts.start parts.until parts.slack parts.lag clocks.1 in
    let entries = flat_map (entries_of trees) trees in
    let objects = flat_map (objects_of trees) trees in
    let decided = authorization_told tree judged authorization.0 parts.authorize parts.bypass parts.skip (not_broken S14 _ authorization.0 authorization.1) in
    subst (IsSetupOf time given trees judged) (same_kept _ setup checkpoints.2) (record {
      start = ap (option_and_then revision_of) begun ∙ times.start;
      start_time = times.start_time;
      policy = policy_told tree given policy.0 parts.policy policy.1;
      resources = resources_told tree entries resources.0 (ap (λ m. chained m items_of) parts.resources ∙ items_back entries) resources.1;
      snapshot = snapshot_told clocks.0.start resources.0 tree objects snapshot.0 (ap (λ m. chained m items_of) parts.snapshot ∙ items_back objects) snapshot.1;
      authorize = decided.0;
      lag = times.lag;
      slack = times.slack;
      until = times.until;
      bypass = decided.1;
      skip = decided.2;
      checkpoints = checkpoints_told clocks.0.start resources.0 tree checkpoints.0 parts.checkpoints (not_broken S15 _ checkpoints.0 passed.1);
    })

pub setup_told : (revision time : List ℕ) (given : Meaning) (trees : List Meaning) (judged : Bool) (setup : Setup) → start_word trees ≡ Some revision
    → setup_of (setup_tree revision time given trees trees judged) ≡ Ok setup → IsSetupOf time given trees judged setup
setup_told revision time given trees judged setup begun e =
    from_parts revision time given trees judged (setup_tree revision time given trees trees judged) setup begun (has_parts revision time given trees trees judged) e
