-- A setup that breaks no rule is sound.
use Rattle.std.proofs.Common.{◌≡◌, ◌≤◌, ◌^◌, ℕ, List, length, Some, Ok, codes, subst, arith}
use Rattle.base_types.specs.Meaning.{Meaning}
use Rattle.base_types.specs.Parts.{member_of, items_of}
use Rattle.base_types.specs.Values.{InRange}
use Rattle.setup_file.specs.declared.fault.SetupRule.TheVariants.{S2, S3, S14, S15}
use Rattle.setup_file.specs.declared.setup.Setup.{Setup}
use Rattle.setup_file.specs.Authorization.{authorization_of, is_authorized}
use Rattle.setup_file.specs.Checkpoints.{checkpoints_of}
use Rattle.setup_file.specs.Reading.{is_setup_form, is_known_version, clocks_of, policy_at, resources_at, snapshot_at, setup_with, setup_of, IsTreeOf}
use Rattle.setup_file.specs.Sound.{IsSound}
use Rattle.setup_file.specs.Steps.{or_breaks, unless_breaks}
use Rattle.setup_file.proofs.Chains.{same_kept, kept_both, not_broken, test_kept}
use Rattle.setup_file.proofs.InRange.{member_in_range}
use Rattle.setup_file.proofs.SoundClocks.{clocks_are_sound}
use Rattle.setup_file.proofs.SoundLists.{all_are_later}
use Rattle.setup_file.proofs.SoundObjects.{snapshot_is_few, snapshot_is_sound}
use Rattle.setup_file.proofs.SoundResources.{resources_are_apart}
use Rattle.setup_file.proofs.TextLists.{list_within}

with_is_sound : (tree : Meaning) (setup : Setup) → ((list : Meaning) (trees : List Meaning) → member_of (codes "snapshot") tree ≡ Some list → items_of list ≡ Some trees → length trees ≤ 2 ^ 28)
    → InRange tree → setup_with tree ≡ Ok setup → IsSound setup
with_is_sound tree setup few range e =
    let clocks = kept_both (clocks_of tree) _ setup e in
    let policy = kept_both (policy_at tree) _ setup clocks.2 in
    let resources = kept_both (resources_at tree) _ setup policy.2 in
    let snapshot = kept_both (snapshot_at clocks.0.start resources.0 tree) _ setup resources.2 in
    let authorization = kept_both (or_breaks S14 (authorization_of tree)) _ setup snapshot.2 in
    let given = or_breaks S15 (checkpoints_of clocks.0.start resources.0 (member_of (codes "checkpoints") tree)) in
    let checkpoints = kept_both (unless_breaks S14 (is_authorized resources.0 snapshot.0 authorization.0) given) _ setup authorization.2 in
    let passed = test_kept S14 (is_authorized resources.0 snapshot.0 authorization.0) given checkpoints.0 checkpoints.1 in
    let times = clocks_are_sound tree clocks.0 clocks.1 in
    let objects = snapshot_is_sound clocks.0.start resources.0 tree snapshot.0 range snapshot.1 in
    subst IsSound (same_kept _ setup checkpoints.2) (record {
      slack = times.slack;
      lag = times.lag;
      start_time = times.start_time;
      until = times.until;
      resources = resources_are_apart tree resources.0 resources.1;
      snapshot = objects.there;
      trees = objects.range;
      few = snapshot_is_few clocks.0.start resources.0 tree snapshot.0 (2 ^ 28) few snapshot.1;
      checkpoints = all_are_later clocks.0.start resources.0 (member_of (codes "checkpoints") tree) checkpoints.0 (λ list. member_in_range (codes "checkpoints") tree list range)
          (not_broken S15 _ checkpoints.0 passed.1);
    })

pub setup_is_sound : (bytes : List ℕ) (tree : Meaning) (setup : Setup) → IsTreeOf bytes tree → length bytes ≤ 2 ^ 28 → InRange tree → setup_of tree ≡ Ok setup → IsSound setup
setup_is_sound bytes tree setup is short range e =
    let form = test_kept S2 (is_setup_form tree) _ setup e in
    let version = test_kept S3 (is_known_version tree) (setup_with tree) setup form.1 in
    with_is_sound tree setup few range version.1
  where
    few : (list : Meaning) (trees : List Meaning) → member_of (codes "snapshot") tree ≡ Some list → items_of list ≡ Some trees → length trees ≤ 2 ^ 28
    few list trees found listed =
        let within = list_within bytes (codes "snapshot") is.1.0 tree list trees is.1.1 is.1.2 found listed in
        omega (arith, within, short)
