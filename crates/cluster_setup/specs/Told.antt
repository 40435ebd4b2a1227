-- What a setup that is made says, in the words of those who read it (setup_file).
use Rattle.std.specs.Prelude.{◌≡◌, ℕ, Bool, List, [], ◌∷◌, Some, None, Ok, codes, option_and_then}
use Rattle.std.specs.List.{flat_map}
use Rattle.audit_policy.specs.Forms.{policy_of}
use Rattle.base_types.specs.Meaning.{Meaning}
use Rattle.setup_file.specs.declared.setup.Setup.{Setup}
use Rattle.base_types.specs.Revisions.{revision_of}
use Rattle.timestamps.specs.Timestamps.{moment_of}
use Rattle.setup_file.specs.Reading.{ReadsAs}
use Rattle.setup_file.specs.Resources.{tracked_in}
use Rattle.setup_file.specs.Snapshots.{snapshot_in}
use Rattle.cluster_setup.specs.Answers.{IsPolicy}
use Rattle.cluster_setup.specs.Files.{start_word}
use Rattle.cluster_setup.specs.Making.{entries_of, lag_of, objects_of}
use Rattle.cluster_setup.specs.Refusing.{AreTrees}

-- the setup begins at the revision of the first list and at this time, and has this policy, the entries of the lists' resources in the
-- order of the files, as snapshot exactly the items of the lists in the order of files and items, and nothing else
pub record IsSetupOf (time : List ℕ) (given : Meaning) (trees : List Meaning) (judged : Bool) (setup : Setup) : Type 0 where
  pub start : option_and_then revision_of (start_word trees) ≡ Some setup.start
  pub start_time : moment_of time ≡ Some setup.start_time
  pub policy : policy_of given ≡ Ok setup.policy
  pub resources : tracked_in (flat_map (entries_of trees) trees) ≡ Some setup.resources
  pub snapshot : snapshot_in setup.resources (flat_map (objects_of trees) trees) ≡ Some setup.snapshot
  pub authorize : setup.authorize ≡ judged
  pub lag : setup.lag ≡ lag_of judged
  pub slack : setup.slack ≡ 0
  pub until : setup.until ≡ None
  pub bypass : setup.bypass ≡ codes "system:masters" ∷ []
  pub skip : setup.skip ≡ codes "system:nodes" ∷ []
  pub checkpoints : setup.checkpoints ≡ []

-- the text reads as such a setup, of the trees of these bytes
pub record Tells (time policy : List ℕ) (files : List (List ℕ)) (judged : Bool) (text : List ℕ) : Type 0 where
  pub given : Meaning
  pub governed : IsPolicy policy given
  pub trees : List Meaning
  pub read : AreTrees files trees
  pub setup : Setup
  pub accepted : ReadsAs text (Ok setup)
  pub told : IsSetupOf time given trees judged setup
