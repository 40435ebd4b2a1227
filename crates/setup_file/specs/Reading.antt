-- The setup of a text, or the first rule that it breaks.
use Rattle.std.specs.Prelude.{◌≡◌, ℕ, ℤ, pos, ◌⊎◌, Bool, false, ◌&&◌, ◌||◌, List, [], ◌∷◌, ◌++◌, Option, Some, None, Result, Ok, Err, IsUtf8, is_some, codes, if◌then◌else◌}
use Rattle.std.specs.List.{list_all}
use Rattle.std.specs.Ordering.{int_eq}
use Rattle.std.specs.Result.{result_ok}
use Rattle.serde_json.specs.Data.{Data}
use Rattle.serde_json.specs.Read.{read}
use Rattle.audit_policy.specs.declared.policy.Policy.{Policy}
use Rattle.audit_policy.specs.Forms.{policy_of}
use Rattle.base_types.specs.Meaning.{Meaning}
use Rattle.base_types.specs.Parts.{member_of, whole_of, items_of}
use Rattle.base_types.specs.Values.{of_data}
use Rattle.setup_file.specs.declared.clocks.Clocks.{Clocks}
use Rattle.setup_file.specs.declared.fault.SetupRule.{SetupRule}
use Rattle.setup_file.specs.declared.fault.SetupRule.TheVariants.{S1, S2, S3, S4, S5, S6, S7, S8, S9, S10, S11, S12, S13, S14, S15}
use Rattle.setup_file.specs.declared.setup.Setup.{Setup}
use Rattle.setup_file.specs.declared.setup.SnapshotObject.{SnapshotObject}
use Rattle.setup_file.specs.declared.setup.Tracked.{Tracked}
use Rattle.setup_file.specs.Authorization.{authorization_of, is_authorized}
use Rattle.setup_file.specs.Checkpoints.{checkpoints_of}
use Rattle.setup_file.specs.Clocks.{start_of, until_of, nanos_of}
use Rattle.setup_file.specs.Forms.{is_form}
use Rattle.setup_file.specs.Objects.{has_text_at}
use Rattle.setup_file.specs.Resources.{entries_in, are_apart, has_shape, tracked_in}
use Rattle.setup_file.specs.Snapshots.{snapshot_in, are_at_start}
use Rattle.setup_file.specs.Steps.{◌>>=◌, or_breaks, unless_breaks}

-- the members that every setup has, `version` aside
abbrev pub required : List (List ℕ)
required = codes "kind" ∷ codes "start" ∷ codes "policy" ∷ codes "resources" ∷ codes "snapshot" ∷ []

abbrev pub known : List (List ℕ)
known = required ++ (codes "version" ∷ codes "until" ∷ codes "slackNanos" ∷ codes "lagNanos" ∷ codes "authorize" ∷ codes "bypassGroups" ∷ codes "skipGroups" ∷ [])

abbrev pub is_number : ℕ → Option ℤ → Bool
is_number number None = false
is_number number (Some found) = int_eq found (pos number)

abbrev pub whole_at : List ℕ → Meaning → Option ℤ
whole_at name tree = whole_in (member_of name tree)
  where
    whole_in : Option Meaning → Option ℤ
    whole_in None = None
    whole_in (Some value) = whole_of value

abbrev pub is_version : ℕ → Meaning → Bool
is_version number tree = is_number number (whole_at (codes "version") tree)

-- `checkpoints` came with version 2
abbrev pub known_2 : List (List ℕ)
known_2 = known ++ (codes "checkpoints" ∷ [])

abbrev pub has_known : Meaning → Bool
has_known tree = if is_version 2 tree then is_form known_2 tree else is_form known tree

abbrev pub has_all : List (List ℕ) → Meaning → Bool
has_all names tree = list_all (λ name. is_some (member_of name tree)) names

abbrev pub is_setup_form : Meaning → Bool
is_setup_form tree = has_text_at (codes "kind") (codes "PastSetup") tree && has_all required tree && has_known tree

abbrev pub is_known_version : Meaning → Bool
is_known_version tree = is_version 1 tree || is_version 2 tree

abbrev pub chained : {A B : Type 0} → Option A → (A → Option B) → Option B
chained None next = None
chained (Some value) next = next value

abbrev pub clocks_of : Meaning → Result Clocks SetupRule
clocks_of tree = do
  start ← or_breaks S4 (chained (member_of (codes "start") tree) start_of)
  until ← or_breaks S5 (until_of start.time (member_of (codes "until") tree))
  slack ← or_breaks S6 (nanos_of (member_of (codes "slackNanos") tree))
  lag ← or_breaks S6 (nanos_of (member_of (codes "lagNanos") tree))
  Ok (record { start = start.revision; start_time = start.time; until = until; slack = slack; lag = lag })

abbrev pub policy_at : Meaning → Result Policy SetupRule
policy_at tree = or_breaks S7 (chained (member_of (codes "policy") tree) (λ value. result_ok (policy_of value)))

-- all entries are in their form before any two are compared, and so on
abbrev pub resources_at : Meaning → Result (List Tracked) SetupRule
resources_at tree = do
  trees ← or_breaks S8 (chained (member_of (codes "resources") tree) items_of)
  entries ← or_breaks S8 (entries_in trees)
  unless_breaks S9 (are_apart entries)
      (unless_breaks S10 (list_all has_shape trees)
      (or_breaks S11 (tracked_in trees)))

abbrev pub snapshot_at : ℕ → List Tracked → Meaning → Result (List SnapshotObject) SetupRule
snapshot_at start resources tree = do
  trees ← or_breaks S12 (chained (member_of (codes "snapshot") tree) items_of)
  objects ← or_breaks S12 (snapshot_in resources trees)
  unless_breaks S13 (are_at_start start objects) (Ok objects)

abbrev pub setup_with : Meaning → Result Setup SetupRule
setup_with tree = do
  clocks ← clocks_of tree
  policy ← policy_at tree
  resources ← resources_at tree
  snapshot ← snapshot_at clocks.start resources tree
  authorization ← or_breaks S14 (authorization_of tree)
  checkpoints ← unless_breaks S14 (is_authorized resources snapshot authorization)
      (or_breaks S15 (checkpoints_of clocks.start resources (member_of (codes "checkpoints") tree)))
  Ok (record {
    start = clocks.start;
    start_time = clocks.start_time;
    until = clocks.until;
    slack = clocks.slack;
    lag = clocks.lag;
    policy = policy;
    authorize = authorization.authorize;
    resources = resources;
    snapshot = snapshot;
    bypass = authorization.bypass;
    skip = authorization.skip;
    checkpoints = checkpoints;
  })

-- the setup of a tree, or the first rule that it breaks
abbrev pub setup_of : Meaning → Result Setup SetupRule
setup_of tree = unless_breaks S2 (is_setup_form tree) (unless_breaks S3 (is_known_version tree) (setup_with tree))

-- the bytes are the JSON text (RFC 8259) of this tree
abbrev pub IsTreeOf : List ℕ → Meaning → Type 0
IsTreeOf bytes tree = IsUtf8 bytes × ((value : Data) × (read bytes ≡ Some value) × (of_data value ≡ Some tree))

-- what bytes read as: what their tree does, and without a tree they break the first rule
abbrev pub ReadsAs : List ℕ → Result Setup SetupRule → Type 0
ReadsAs bytes found =
    ((tree : Meaning) × IsTreeOf bytes tree × (setup_of tree ≡ found))
    ⊎ (((tree : Meaning) → IsTreeOf bytes tree → ⊥) × (found ≡ Err S1))
