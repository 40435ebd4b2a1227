-- A setup that breaks no rule has few checkpoints.
use Rattle.std.proofs.Common.{◌≡◌, ℕ, ◌+◌, ◌≤◌, List, [], ◌∷◌, length, Option, Some, None, Ok, Err, inl, inr, codes, nat_le, subst, ap, arith}
use Rattle.std.proofs.lemmas.Bool.{leb-true}
use Rattle.base_types.specs.Meaning.{Meaning}
use Rattle.base_types.specs.Parts.{items_of, member_of}
use Rattle.setup_file.specs.declared.fault.SetupRule.TheVariants.{S1, S2, S3, S14, S15}
use Rattle.setup_file.specs.declared.setup.Checkpoint.{Checkpoint}
use Rattle.setup_file.specs.declared.setup.Setup.{Setup}
use Rattle.setup_file.specs.declared.setup.Tracked.{Tracked}
use Rattle.setup_file.specs.Authorization.{authorization_of, is_authorized}
use Rattle.setup_file.specs.Checkpoints.{checkpoint_of, checkpoints_from, checkpoints_of, few_checkpoints}
use Rattle.setup_file.specs.Reading.{ReadsAs, clocks_of, is_known_version, is_setup_form, policy_at, resources_at, setup_with, snapshot_at}
use Rattle.setup_file.specs.Steps.{or_breaks, unless_breaks}
use Rattle.base_types.proofs.Found.{found_both, same_some, where_true}
use Rattle.setup_file.proofs.Chains.{kept_both, not_broken, same_kept, test_kept}

as_many : (start : ℕ) (resources : List Tracked) (number : ℕ) (trees : List Meaning) (checkpoints : List Checkpoint) → checkpoints_from start resources number trees ≡ Some checkpoints → length checkpoints ≡ length trees
as_many start resources number [] checkpoints e = let same = ap length (same_some [] checkpoints e) in omega (arith, same)
as_many start resources number (tree ∷ trees) checkpoints e =
    let first = found_both (checkpoint_of start resources number tree) _ checkpoints e in
    let rest = found_both (checkpoints_from start resources (number + 1) trees) _ checkpoints first.2 in
    let same = ap length (same_some (first.0 ∷ rest.0) checkpoints rest.2) in
    let others = as_many start resources (number + 1) trees rest.0 rest.1 in
    omega (arith, same, others)

few_in : (start : ℕ) (resources : List Tracked) (member : Option Meaning) (checkpoints : List Checkpoint) → checkpoints_of start resources member ≡ Some checkpoints → length checkpoints ≤ 10000
few_in start resources None checkpoints e = let same = ap length (same_some [] checkpoints e) in omega (arith, same)
few_in start resources (Some list) checkpoints e =
    let trees = found_both (items_of list) _ checkpoints e in
    let few = found_both (few_checkpoints trees.0) _ checkpoints trees.2 in
    let count = where_true (nat_le (length trees.0) 10_000) (Some trees.0) few.0 few.1 in
    let most = leb-true (length trees.0) 10_000 count.0 in
    let same = ap length (same_some trees.0 few.0 count.1) in
    let all = as_many start resources 1 few.0 checkpoints few.2 in
    omega (arith, most, same, all)

few_with : (tree : Meaning) (setup : Setup) → setup_with tree ≡ Ok setup → length setup.checkpoints ≤ 10000
few_with tree setup e =
    let clocks = kept_both (clocks_of tree) _ setup e in
    let policy = kept_both (policy_at tree) _ setup clocks.2 in
    let resources = kept_both (resources_at tree) _ setup policy.2 in
    let snapshot = kept_both (snapshot_at clocks.0.start resources.0 tree) _ setup resources.2 in
    let authorization = kept_both (or_breaks S14 (authorization_of tree)) _ setup snapshot.2 in
    let given = or_breaks S15 (checkpoints_of clocks.0.start resources.0 (member_of (codes "checkpoints") tree)) in
    let checkpoints = kept_both (unless_breaks S14 (is_authorized resources.0 snapshot.0 authorization.0) given) _ setup authorization.2 in
    let passed = test_kept S14 (is_authorized resources.0 snapshot.0 authorization.0) given checkpoints.0 checkpoints.1 in
    let few = few_in clocks.0.start resources.0 (member_of (codes "checkpoints") tree) checkpoints.0 (not_broken S15 _ checkpoints.0 passed.1) in
    subst (λ (s : Setup). length s.checkpoints ≤ 10000) (same_kept _ setup checkpoints.2) few

pub few_read : (bytes : List ℕ) (setup : Setup) → ReadsAs bytes (Ok setup) → length setup.checkpoints ≤ 10000
few_read bytes setup (inl (tree, is, e)) =
    let form = test_kept S2 (is_setup_form tree) _ setup e in
    let version = test_kept S3 (is_known_version tree) (setup_with tree) setup form.1 in
    few_with tree setup version.1
few_read bytes setup (inr (none, broken)) = absurd (let no : Ok setup ≡ Err S1 = broken in cc)
