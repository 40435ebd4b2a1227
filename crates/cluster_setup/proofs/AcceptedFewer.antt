-- A setup that is accepted with the objects of some files is accepted with those of fewer.
use Rattle.std.proofs.Common.{◌≡◌, ℕ, ◌≤◌, Bool, true, false, ◌&&◌, ◌||◌, not, List, [], ◌∷◌, ◌++◌, map, take, drop, Option, Some, Result, Ok, bytes_eq, codes, nat_le, is_some, ◌==◌, All, if◌then◌else◌, refl, sym, ap, ◌∙◌, subst}
use Rattle.std.specs.Prelude.{option_and_then}
use Rattle.std.specs.List.{flat_map, list_all, list_any}
use Rattle.std.proofs.lemmas.Bool.{and_parts}
use Rattle.std.proofs.lemmas.List.{map-append, take-append-drop, take-take}
use Rattle.std.proofs.lemmas.List.Concat.{flat_map-append}
use Rattle.std.proofs.lemmas.List.Elements.{All-take}
use Rattle.std.proofs.lemmas.List.Folds.{list_any-append, list_all-append}
use Rattle.audit_policy.specs.declared.policy.Policy.{Policy}
use Rattle.base_types.specs.Meaning.{Meaning}
use Rattle.base_types.specs.Parts.{member_of, items_of}
use Rattle.base_types.specs.Values.{InRange}
use Rattle.base_types.proofs.Found.{found_both, same_some}
use Rattle.base_types.proofs.Lists.{kids_list-kids_of}
use Rattle.setup_file.specs.declared.authorization.Authorization.{Authorization}
use Rattle.setup_file.specs.declared.clocks.Clocks.{Clocks}
use Rattle.setup_file.specs.declared.fault.SetupRule.{SetupRule}
use Rattle.setup_file.specs.declared.fault.SetupRule.TheVariants.{S2, S3, S12, S13, S14, S15}
use Rattle.setup_file.specs.declared.setup.Checkpoint.{Checkpoint}
use Rattle.setup_file.specs.declared.setup.Setup.{Setup}
use Rattle.setup_file.specs.declared.setup.SnapshotObject.{SnapshotObject}
use Rattle.setup_file.specs.declared.setup.Tracked.{Tracked}
use Rattle.setup_file.specs.Authorization.{authorization_of, has_rbac, is_authorized, is_readable, rbac_group, rbac_resources}
use Rattle.setup_file.specs.Checkpoints.{checkpoints_of}
use Rattle.setup_file.specs.Distinct.{are_distinct, key_eq}
use Rattle.setup_file.specs.Reading.{chained, clocks_of, is_known_version, is_setup_form, policy_at, resources_at, setup_of, setup_with, snapshot_at}
use Rattle.setup_file.specs.Resources.{tracked_as}
use Rattle.setup_file.specs.Snapshots.{are_at_start, snapshot_entry_of, snapshot_in}
use Rattle.setup_file.specs.Steps.{◌>>=◌, or_breaks, unless_breaks}
use Rattle.setup_file.proofs.Chains.{kept_both, not_broken, same_kept, test_kept}
use Rattle.cluster_setup.specs.declared.assembling.Given.{Given}
use Rattle.cluster_setup.specs.Answers.{IsAccepted}
use Rattle.cluster_setup.specs.Making.{entries_of, objects_of}
use Rattle.cluster_setup.specs.Making as made
use Rattle.cluster_setup.specs.Shown.{setup_up_to}
use Rattle.cluster_setup.proofs.FewerObjects.{read_fewer}
use Rattle.cluster_setup.proofs.Ranges.{setup_in_range}

-- ---- the tests of a snapshot

-- the first of some objects are read, where all are
record ReadFront (resources : List Tracked) (xs : List Meaning) (objects : List SnapshotObject) : Type 0 where
  front : List SnapshotObject
  back : List SnapshotObject
  read : snapshot_in resources xs ≡ Some front
  is : front ++ back ≡ objects

in_front : {A : Type 0} (one : Option A) (more : Option (List A)) (object : A) (front : List A) → one ≡ Some object → more ≡ Some front
    → option_and_then (λ o. option_and_then (λ os. Some (o ∷ os)) more) one ≡ Some (object ∷ front)
in_front one more object front here behind = rw (here, behind) refl

front_read : (resources : List Tracked) (xs ys : List Meaning) (objects : List SnapshotObject) → snapshot_in resources (xs ++ ys) ≡ Some objects → ReadFront resources xs objects
front_read resources [] ys objects e = record { front = []; back = objects; read = refl; is = refl }
front_read resources (x ∷ xs) ys objects e =
    let first = found_both (snapshot_entry_of resources x) _ objects e in
    let rest = found_both (snapshot_in resources (xs ++ ys)) _ objects first.2 in
    let others = front_read resources xs ys rest.0 rest.1 in
    record {
      front = first.0 ∷ others.front;
      back = others.back;
      read = in_front (snapshot_entry_of resources x) (snapshot_in resources xs) first.0 others.front first.1 others.read;
      is = ap (λ l. first.0 ∷ l) others.is ∙ same_some (first.0 ∷ rest.0) objects rest.2;
    }

not_either : (a b : Bool) → not (a || b) ≡ true → not a ≡ true
not_either true b e = e
not_either false b e = refl

distinct_front : {A : Type 0} (same : A → A → Bool) (xs ys : List A) → are_distinct same (xs ++ ys) ≡ true → are_distinct same xs ≡ true
distinct_front same [] ys e = refl
distinct_front {A = A} same (x ∷ xs) ys e =
    let parts = and_parts _ _ e in
    let test : A → Bool = λ other. same other x in
    let apart = not_either (list_any test xs) (list_any test ys) (ap not (sym (list_any-append test xs ys)) ∙ parts.0) in
    rw (apart, distinct_front same xs ys parts.1) refl

distinct_by : {A B : Type 0} (same : B → B → Bool) (f : A → B) (xs ys : List A) → are_distinct same (map f (xs ++ ys)) ≡ true → are_distinct same (map f xs) ≡ true
distinct_by same f xs ys e = distinct_front same (map f xs) (map f ys) (ap (are_distinct same) (sym (map-append f xs ys)) ∙ e)

all_front : {A : Type 0} (test : A → Bool) (xs ys : List A) → list_all test (xs ++ ys) ≡ true → list_all test xs ≡ true
all_front test xs ys e = (and_parts _ _ (sym (list_all-append test xs ys) ∙ e)).0

at_start_front : (start : ℕ) (xs ys : List SnapshotObject) → are_at_start start (xs ++ ys) ≡ true → are_at_start start xs ≡ true
at_start_front start xs ys e =
    let parts = and_parts _ _ e in
    let front = and_parts _ _ parts.0 in
    let first = and_parts _ _ front.0 in
    rw (
      distinct_by key_eq (λ (object : SnapshotObject). object.key) xs ys first.0,
      distinct_by bytes_eq (λ (object : SnapshotObject). object.uid) xs ys first.1,
      distinct_by (λ a b. a == b) (λ (object : SnapshotObject). object.revision) xs ys front.1,
      all_front (λ (object : SnapshotObject). nat_le object.revision start) xs ys parts.1,
    ) refl

both : (a b : Bool) → a ≡ true → b ≡ true → (a && b) ≡ true
both a b p q = rw (p, q) refl

authorized_front : (resources : List Tracked) (xs ys : List SnapshotObject) (asked : Bool)
    → (if asked then has_rbac resources (xs ++ ys) else true) ≡ true → (if asked then has_rbac resources xs else true) ≡ true
authorized_front resources xs ys false e = refl
authorized_front resources xs ys true e =
    let tracked = list_all (λ resource. is_some (tracked_as resources rbac_group resource)) rbac_resources in
    let parts = and_parts tracked (list_all is_readable (xs ++ ys)) e in
    both tracked (list_all is_readable xs) parts.0 (all_front is_readable xs ys parts.1)

-- ---- the steps of a setup

step_on : {A B : Type 0} (found : Result A SetupRule) (next : A → Result B SetupRule) (x : A) (y : B) → found ≡ Ok x → next x ≡ Ok y → (found >>= next) ≡ Ok y
step_on found next x y is after = ap (λ r. r >>= next) is ∙ after

passed : {A : Type 0} (rule : SetupRule) (test : Bool) (rest : Result A SetupRule) (y : A) → test ≡ true → rest ≡ Ok y → unless_breaks rule test rest ≡ Ok y
passed rule test rest y is after = ap (λ b. unless_breaks rule b rest) is ∙ after

found_ok : {A : Type 0} (rule : SetupRule) (found : Option A) (x : A) → found ≡ Some x → or_breaks rule found ≡ Ok x
found_ok rule found x is = ap (or_breaks rule) is

-- two trees that differ in their objects alone, of which the second has the first of those that the other one has
record HasFewer (old new : Meaning) (xs ys : List Meaning) : Type 0 where
  form : is_setup_form new ≡ true
  version : is_known_version new ≡ true
  clocks : clocks_of new ≡ clocks_of old
  policy : policy_at new ≡ policy_at old
  resources : resources_at new ≡ resources_at old
  objects : chained (member_of (codes "snapshot") old) items_of ≡ Some (xs ++ ys)
  fewer : chained (member_of (codes "snapshot") new) items_of ≡ Some xs
  authorization : authorization_of new ≡ authorization_of old
  checkpoints : member_of (codes "checkpoints") new ≡ member_of (codes "checkpoints") old

-- the steps of a setup, each with what it found
record Steps (tree : Meaning) : Type 0 where
  clocks : Clocks
  policy : Policy
  resources : List Tracked
  snapshot : List SnapshotObject
  authorization : Authorization
  checkpoints : List Checkpoint
  form : is_setup_form tree ≡ true
  version : is_known_version tree ≡ true
  clocks_are : clocks_of tree ≡ Ok clocks
  policy_is : policy_at tree ≡ Ok policy
  resources_are : resources_at tree ≡ Ok resources
  snapshot_is : snapshot_at clocks.start resources tree ≡ Ok snapshot
  authorization_is : authorization_of tree ≡ Some authorization
  authorized : is_authorized resources snapshot authorization ≡ true
  checkpoints_are : checkpoints_of clocks.start resources (member_of (codes "checkpoints") tree) ≡ Some checkpoints

steps_of : (tree : Meaning) (setup : Setup) → setup_of tree ≡ Ok setup → Steps tree
steps_of tree setup e =
    let form = test_kept S2 (is_setup_form tree) _ setup e in
    let version = test_kept S3 (is_known_version tree) (setup_with tree) setup form.1 in
    let clocks = kept_both (clocks_of tree) _ setup version.1 in
    let policy = kept_both (policy_at tree) _ setup clocks.2 in
    let resources = kept_both (resources_at tree) _ setup policy.2 in
    let snapshot = kept_both (snapshot_at clocks.0.start resources.0 tree) _ setup resources.2 in
    let authorization = kept_both (or_breaks S14 (authorization_of tree)) _ setup snapshot.2 in
    let rest = or_breaks S15 (checkpoints_of clocks.0.start resources.0 (member_of (codes "checkpoints") tree)) in
    let checkpoints = kept_both (unless_breaks S14 (is_authorized resources.0 snapshot.0 authorization.0) rest) _ setup authorization.2 in
    let authorized = test_kept S14 (is_authorized resources.0 snapshot.0 authorization.0) rest checkpoints.0 checkpoints.1 in
    record {
      clocks = clocks.0;
      policy = policy.0;
      resources = resources.0;
      snapshot = snapshot.0;
      authorization = authorization.0;
      checkpoints = checkpoints.0;
      form = form.0;
      version = version.0;
      clocks_are = clocks.1;
      policy_is = policy.1;
      resources_are = resources.1;
      snapshot_is = snapshot.1;
      authorization_is = not_broken S14 _ authorization.0 authorization.1;
      authorized = authorized.0;
      checkpoints_are = not_broken S15 _ checkpoints.0 authorized.1;
    }

setup_made : (tree : Meaning) (steps : Steps tree) → (setup : Setup) × (setup_of tree ≡ Ok setup)
setup_made tree s =
    let setup : Setup = record {
      start = s.clocks.start;
      start_time = s.clocks.start_time;
      until = s.clocks.until;
      slack = s.clocks.slack;
      lag = s.clocks.lag;
      policy = s.policy;
      authorize = s.authorization.authorize;
      resources = s.resources;
      snapshot = s.snapshot;
      bypass = s.authorization.bypass;
      skip = s.authorization.skip;
      checkpoints = s.checkpoints;
    } in
    let checked = passed S14 (is_authorized s.resources s.snapshot s.authorization) _ s.checkpoints s.authorized (found_ok S15 _ s.checkpoints s.checkpoints_are) in
    let whole : setup_with tree ≡ Ok setup =
    step_on (clocks_of tree) _ s.clocks setup s.clocks_are
    (step_on (policy_at tree) _ s.policy setup s.policy_is
    (step_on (resources_at tree) _ s.resources setup s.resources_are
    (step_on (snapshot_at s.clocks.start s.resources tree) _ s.snapshot setup s.snapshot_is
    (step_on (or_breaks S14 (authorization_of tree)) _ s.authorization setup (found_ok S14 _ s.authorization s.authorization_is)
    (step_on _ _ s.checkpoints setup checked refl))))) in
    (setup, passed S2 (is_setup_form tree) _ setup s.form (passed S3 (is_known_version tree) (setup_with tree) setup s.version whole))

-- a snapshot with fewer objects
record FewerAtStart (start : ℕ) (resources : List Tracked) (new : Meaning) (objects : List SnapshotObject) : Type 0 where
  front : List SnapshotObject
  back : List SnapshotObject
  is : front ++ back ≡ objects
  read : snapshot_at start resources new ≡ Ok front

snapshot_fewer : (old new : Meaning) (xs ys : List Meaning) (start : ℕ) (resources : List Tracked) (objects : List SnapshotObject) → HasFewer old new xs ys
    → snapshot_at start resources old ≡ Ok objects → FewerAtStart start resources new objects
snapshot_fewer old new xs ys start resources objects fewer e =
    let trees = kept_both (or_breaks S12 (chained (member_of (codes "snapshot") old) items_of)) _ objects e in
    let read = kept_both (or_breaks S12 (snapshot_in resources trees.0)) _ objects trees.2 in
    let begun = test_kept S13 (are_at_start start read.0) _ objects read.2 in
    let same : trees.0 ≡ xs ++ ys = same_some trees.0 (xs ++ ys) (sym (not_broken S12 _ trees.0 trees.1) ∙ fewer.objects) in
    let all = subst (λ l. snapshot_in resources l ≡ Some read.0) same (not_broken S12 _ read.0 read.1) in
    let front = front_read resources xs ys read.0 all in
    let early = at_start_front start front.front front.back (ap (are_at_start start) front.is ∙ begun.0) in
    record {
      front = front.front;
      back = front.back;
      is = front.is ∙ same_kept read.0 objects begun.1;
      read = step_on (or_breaks S12 (chained (member_of (codes "snapshot") new) items_of)) _ xs front.front (found_ok S12 _ xs fewer.fewer)
          (step_on (or_breaks S12 (snapshot_in resources xs)) _ front.front front.front (found_ok S12 _ front.front front.read)
          (passed S13 (are_at_start start front.front) _ front.front early refl));
    }

steps_fewer : (old new : Meaning) (xs ys : List Meaning) → HasFewer old new xs ys → Steps old → Steps new
steps_fewer old new xs ys fewer s =
    let snapshot = snapshot_fewer old new xs ys s.clocks.start s.resources s.snapshot fewer s.snapshot_is in
    record {
      clocks = s.clocks;
      policy = s.policy;
      resources = s.resources;
      snapshot = snapshot.front;
      authorization = s.authorization;
      checkpoints = s.checkpoints;
      form = fewer.form;
      version = fewer.version;
      clocks_are = fewer.clocks ∙ s.clocks_are;
      policy_is = fewer.policy ∙ s.policy_is;
      resources_are = fewer.resources ∙ s.resources_are;
      snapshot_is = snapshot.read;
      authorization_is = fewer.authorization ∙ s.authorization_is;
      authorized = authorized_front s.resources snapshot.front snapshot.back s.authorization.authorize
          (ap (λ l. is_authorized s.resources l s.authorization) snapshot.is ∙ s.authorized);
      checkpoints_are = ap (checkpoints_of s.clocks.start s.resources) fewer.checkpoints ∙ s.checkpoints_are;
    }

-- ---- the setups of some files' objects

has_fewer : (revision time : List ℕ) (policy : Meaning) (resources xs ys : List Meaning) (judged : Bool)
    → HasFewer (made.setup_with revision time policy resources (xs ++ ys) judged) (made.setup_with revision time policy resources xs judged) xs ys
has_fewer revision time policy resources xs ys true = record {
  form = refl;
  version = refl;
  clocks = refl;
  policy = refl;
  resources = refl;
  objects = ap (λ l. Some l) (kids_list-kids_of (xs ++ ys));
  fewer = ap (λ l. Some l) (kids_list-kids_of xs);
  authorization = refl;
  checkpoints = refl;
}
has_fewer revision time policy resources xs ys false = record {
  form = refl;
  version = refl;
  clocks = refl;
  policy = refl;
  resources = refl;
  objects = ap (λ l. Some l) (kids_list-kids_of (xs ++ ys));
  fewer = ap (λ l. Some l) (kids_list-kids_of xs);
  authorization = refl;
  checkpoints = refl;
}

-- what is accepted is so with the objects in front alone
accepted_front : (revision time : List ℕ) (policy : Meaning) (resources xs ys : List Meaning) (judged : Bool)
    → InRange (made.setup_with revision time policy resources (xs ++ ys) judged) → InRange (made.setup_with revision time policy resources xs judged)
    → IsAccepted (made.setup_with revision time policy resources (xs ++ ys) judged) → IsAccepted (made.setup_with revision time policy resources xs judged)
accepted_front revision time policy resources xs ys judged range range_fewer accepted =
    let old = made.setup_with revision time policy resources (xs ++ ys) judged in
    let new = made.setup_with revision time policy resources xs judged in
    let steps = steps_fewer old new xs ys (has_fewer revision time policy resources xs ys judged) (steps_of old accepted.setup accepted.is) in
    let less = setup_made new steps in
    record { setup = less.0; read = read_fewer revision time policy resources xs ys judged range range_fewer accepted.read; is = less.1 }

-- a setup that is accepted with the objects of some files is accepted with those of fewer
pub accepted_fewer : (given : Given) (number fewer : ℕ) → fewer ≤ number → InRange given.policy.now → All InRange given.trees.now
    → IsAccepted (setup_up_to given number) → IsAccepted (setup_up_to given fewer)
accepted_fewer given number fewer less policy_range range accepted =
    let trees = given.trees.now in
    let objects = flat_map (objects_of trees) in
    let resources = flat_map (entries_of trees) trees in
    let setup = λ (some : List Meaning). made.setup_with given.revision.now given.time.now given.policy.now resources some given.authorize in
    let front = take fewer trees in
    let more = drop fewer (take number trees) in
    let apart : take number trees ≡ front ++ more = sym (take-append-drop fewer (take number trees)) ∙ ap (λ l. l ++ more) (take-take fewer number trees less) in
    let split : objects (take number trees) ≡ objects front ++ objects more = ap objects apart ∙ flat_map-append (objects_of trees) front more in
    let whole_range = λ (n : ℕ). setup_in_range given.revision.now given.time.now given.policy.now trees (take n trees) given.authorize policy_range range (All-take InRange n trees range) in
    accepted_front given.revision.now given.time.now given.policy.now resources (objects front) (objects more) given.authorize
    (subst (λ l. InRange (setup l)) split (whole_range number)) (whole_range fewer) (subst (λ l. IsAccepted (setup l)) split accepted)
