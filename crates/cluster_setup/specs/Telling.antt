-- The words of refusals.
use Rattle.std.specs.Prelude.{ℕ, ◌-◌, ◌++◌, List, [], codes, decimal, slice_get, unwrap_or}
use Rattle.setup_file.specs.declared.fault.SetupRule.{SetupRule}
use Rattle.setup_file.specs.Rules.{rule_number}
use Rattle.cluster_setup.specs.declared.fault.FileFault.{FileFault}
use Rattle.cluster_setup.specs.declared.fault.FileFault.TheVariants.{Json, Kind, Pages, Unknown, Version, Twice, Revision, Rule as BreaksRule}
use Rattle.cluster_setup.specs.declared.fault.SetupRefusal.{SetupRefusal}
use Rattle.cluster_setup.specs.declared.fault.SetupRefusal.TheVariants.{Time, Policy, Empty, Rule, File, OutOfMemory}

-- `S1` to `S15`
abbrev pub rule_word : SetupRule → List ℕ
rule_word rule = codes "S" ++ decimal (rule_number rule)

abbrev pub code_word : FileFault → List ℕ
code_word Json = codes "json"
code_word Kind = codes "kind"
code_word Pages = codes "pages"
code_word Unknown = codes "unknown"
code_word Version = codes "version"
code_word Twice = codes "twice"
code_word Revision = codes "revision"
code_word (BreaksRule rule) = rule_word rule

-- the name of the file of this number, counted from 1
abbrev pub name_at : List (List ℕ) → ℕ → List ℕ
name_at names number = unwrap_or (slice_get names (number - 1)) []

-- of files with these names; for want of memory there are no words
abbrev pub refusal_words : List (List ℕ) → SetupRefusal → List ℕ
refusal_words names Time = codes "time"
refusal_words names Policy = codes "policy"
refusal_words names Empty = codes "empty"
refusal_words names (Rule rule) = codes "resources " ++ rule_word rule
refusal_words names (File number code) = codes "file " ++ (name_at names number ++ (codes " " ++ code_word code))
refusal_words names OutOfMemory = []
