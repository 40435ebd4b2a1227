-- What is answered: the text of a setup, which is a line, or the first refusal.
use Rattle.std.specs.Prelude.{◌≡◌, ◌<◌, ◌≤◌, ⊤, ◌⊎◌, ℕ, ◌==◌, Bool, true, List, length, take, Some, None, Ok, Err, is_some, if◌then◌else◌}
use Rattle.std.specs.Result.{result_ok}
use Rattle.serde_json.specs.Written.{compact_text}
use Rattle.base_types.specs.Meaning.{Meaning}
use Rattle.base_types.specs.Values.{data_of}
use Rattle.audit_policy.specs.Forms.{policy_of}
use Rattle.setup_file.specs.declared.fault.SetupRule.{SetupRule}
use Rattle.setup_file.specs.declared.fault.SetupRule.TheVariants.{S1}
use Rattle.setup_file.specs.declared.setup.Setup.{Setup}
use Rattle.timestamps.specs.Timestamps.{moment_of}
use Rattle.setup_file.specs.Reading.{IsTreeOf, setup_of}
use Rattle.verdict_text.specs.Words.{ended}
use Rattle.cluster_setup.specs.declared.fault.FileFault.TheVariants.{Json, Rule as BreaksRule}
use Rattle.cluster_setup.specs.declared.fault.SetupRefusal.{SetupRefusal}
use Rattle.cluster_setup.specs.declared.fault.SetupRefusal.TheVariants.{Time, Policy, Empty, Rule, File, OutOfMemory}
use Rattle.cluster_setup.specs.Files.{start_word}
use Rattle.cluster_setup.specs.Making.{setup_tree}
use Rattle.cluster_setup.specs.Refusing.{AreTrees, IsFirstBroken, first_refused}

-- the compact JSON text of a tree, as a line
abbrev pub json_line : Meaning → List ℕ
json_line tree = ended (compact_text (data_of tree))

-- the tree is that of a setup, and is read again from its line
pub record IsAccepted (tree : Meaning) : Type 0 where
  pub setup : Setup
  pub read : IsTreeOf (json_line tree) tree
  pub is : setup_of tree ≡ Ok setup

-- the line of a tree that is accepted
pub record IsTextOf (tree : Meaning) (text : List ℕ) : Type 0 where
  pub is : text ≡ json_line tree
  pub accepted : IsAccepted tree

-- the rule that the tree of a setup breaks, read again from its line; what is too deep to be read again breaks the first, and no other
abbrev pub Breaks : Meaning → SetupRule → Type 0
Breaks tree rule = (IsTreeOf (json_line tree) tree × (setup_of tree ≡ Err rule)) ⊎ ((IsTreeOf (json_line tree) tree → ⊥) × (rule ≡ S1))

-- the bytes are an audit policy as JSON
abbrev pub IsPolicy : List ℕ → Meaning → Type 0
IsPolicy bytes tree = IsTreeOf bytes tree × (is_some (result_ok (policy_of tree)) ≡ true)

-- what a rule is refused as that is broken with the objects of as many files and of no fewer
abbrev pub blamed : ℕ → SetupRule → SetupRefusal
blamed number rule = if number == 0 then Rule rule else File number (BreaksRule rule)

-- a rule is broken with the objects of these files at the front, and none with those of fewer
pub record IsBlamed (revision time : List ℕ) (policy : Meaning) (trees : List Meaning) (authorize : Bool) (refusal : SetupRefusal) : Type 0 where
  pub number : ℕ
  pub rule : SetupRule
  pub within : number ≤ length trees
  pub broken : Breaks (setup_tree revision time policy trees (take number trees) authorize) rule
  pub before : (fewer : ℕ) → fewer < number → IsAccepted (setup_tree revision time policy trees (take fewer trees) authorize)
  pub is : refusal ≡ blamed number rule

-- the setup of these files
pub record IsSetupText (time : List ℕ) (policy : Meaning) (trees : List Meaning) (authorize : Bool) (text : List ℕ) : Type 0 where
  pub sound : first_refused trees trees ≡ None
  pub revision : List ℕ
  pub start : start_word trees ≡ Some revision
  pub made : IsTextOf (setup_tree revision time policy trees trees authorize) text

-- some list is there, and the setup of these files breaks a rule
pub record BreaksRules (time : List ℕ) (policy : Meaning) (trees : List Meaning) (authorize : Bool) (refusal : SetupRefusal) : Type 0 where
  pub sound : first_refused trees trees ≡ None
  pub revision : List ℕ
  pub start : start_word trees ≡ Some revision
  pub blamed : IsBlamed revision time policy trees authorize refusal

-- why no setup is made of these files
abbrev pub IsRefused : List ℕ → Meaning → List Meaning → Bool → SetupRefusal → Type 0
IsRefused time policy trees authorize refusal =
    (first_refused trees trees ≡ Some refusal)
    ⊎ (((first_refused trees trees ≡ None) × (start_word trees ≡ None) × (refusal ≡ Empty))
    ⊎ BreaksRules time policy trees authorize refusal)

-- the text of the setup of these files
pub record IsReadOut (time : List ℕ) (policy : Meaning) (files : List (List ℕ)) (authorize : Bool) (text : List ℕ) : Type 0 where
  pub trees : List Meaning
  pub read : AreTrees files trees
  pub made : IsSetupText time policy trees authorize text

-- some file is no JSON text, or no setup is made of the trees of the files
abbrev pub IsUnread : List ℕ → Meaning → List (List ℕ) → Bool → SetupRefusal → Type 0
IsUnread time policy files authorize refusal =
    ((number : ℕ) × IsFirstBroken files number × (refusal ≡ File number Json))
    ⊎ ((trees : List Meaning) × AreTrees files trees × IsRefused time policy trees authorize refusal)

-- the text of the setup of these bytes
pub record IsMade (time policy : List ℕ) (files : List (List ℕ)) (authorize : Bool) (text : List ℕ) : Type 0 where
  pub timed : is_some (moment_of time) ≡ true
  pub given : Meaning
  pub governed : IsPolicy policy given
  pub made : IsReadOut time given files authorize text

-- time and policy are as they should be, and a file isn't
pub record FilesRefused (time policy : List ℕ) (files : List (List ℕ)) (authorize : Bool) (refusal : SetupRefusal) : Type 0 where
  pub timed : is_some (moment_of time) ≡ true
  pub given : Meaning
  pub governed : IsPolicy policy given
  pub cause : IsUnread time given files authorize refusal

-- the time is the first reason, the policy the second, and then a file
abbrev pub Refuses : List ℕ → List ℕ → List (List ℕ) → Bool → SetupRefusal → Type 0
Refuses time policy files authorize refusal =
    ((refusal ≡ Time) × (moment_of time ≡ None))
    ⊎ (((refusal ≡ Policy) × (is_some (moment_of time) ≡ true) × ((tree : Meaning) → IsPolicy policy tree → ⊥))
    ⊎ FilesRefused time policy files authorize refusal)

-- want of memory tells nothing
abbrev pub OrMemory : (SetupRefusal → Type 0) → SetupRefusal → Type 0
OrMemory Is Time = Is Time
OrMemory Is Policy = Is Policy
OrMemory Is Empty = Is Empty
OrMemory Is (Rule rule) = Is (Rule rule)
OrMemory Is (File number code) = Is (File number code)
OrMemory Is OutOfMemory = ⊤
