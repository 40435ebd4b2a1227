-- What a call of the program tells of its words, of the desk and of the sink, whatever its answer is.
use Rattle.std.specs.Prelude.{◌≡◌, ◌⊎◌, ℕ, Bool, List, ◌∷◌, Option, Some, None}
use Rattle.std.specs.Io.KnownBytes.{IsAtEnd, Keeps}
use Rattle.edge_io.specs.Endings.{Ends}
use Rattle.edge_io.specs.Faults.{Rose}
use Rattle.edge_io.specs.Whole.{TakesWhole}
use Rattle.cluster_setup.specs.Gathering.{TakesFiles}
use Rattle.log_sift.specs.Named.{most_log}
use Rattle.log_verdict.specs.Endings.{IsVerdictStatus, ReadsNames}
use Rattle.companion_words.specs.Command.{Asked, Explain, IsAsked, Picture, Reads, ReadsWords, Setup, Sift}
use Rattle.companion.specs.Program.{usage_answer}

-- The status tells why there is no answer: 2 that the words are no command, 5 and 6 that a count of faults rose, 8 that
-- nothing was written.
pub record StatusTells (words : List (List ℕ)) (desk_before desk_now sink_before sink_now : ℕ) (before now : Option (List ℕ)) (status : ℕ) : Type 0 where
  pub usage : IsAsked words None → Ends 2 usage_answer.text sink_before sink_now before now status
  pub usage_only : status ≡ 2 → IsAsked words None
  pub read_fault : status ≡ 5 → Rose desk_before desk_now
  pub write_fault : status ≡ 6 → Rose sink_before sink_now
  pub memory : status ≡ 8 → Keeps before now

-- the statuses that tell that a command has read all its names to their ends: a log was sifted, a setup made or refused of
-- what was given, a page shown
abbrev pub ReadsAll : Asked → ℕ → Type 0
ReadsAll (Explain text) status = ⊥
ReadsAll (Sift left log) status = status ≡ 0
ReadsAll (Setup authorize time policy files) status = (status ≡ 0) ⊎ (status ≡ 3)
ReadsAll (Picture setup log) status = IsVerdictStatus status

-- what was taken of each name of the desk: all where the status tells it, of a setup and a log that are shown what the judge
-- takes, of any other name at most a piece past its limit, of a setup's policy and files nothing behind one that wasn't read
-- whole, and nothing of a name that the words don't give to be read
pub record ReadsDesk (words : List (List ℕ)) (old now : List ℕ → Option (List ℕ)) (untouched : Type 0) (status : ℕ) : Type 0 where
  pub names : (setup log : List ℕ) → IsAsked words (Some (Picture setup log)) → ReadsNames old now status setup log
  pub sifted : (left : Bool) (log : List ℕ) → IsAsked words (Some (Sift left log)) → TakesWhole most_log (old log) (now log) (status ≡ 5)
  pub given : (authorize : Bool) (time policy : List ℕ) (files : List (List ℕ)) → IsAsked words (Some (Setup authorize time policy files)) → TakesFiles (policy ∷ files) old now (status ≡ 5)
  pub ends : (asked : Asked) (name : List ℕ) → IsAsked words (Some asked) → Reads asked name → ReadsAll asked status → IsAtEnd (now name)
  pub desk_left : ((name : List ℕ) → ReadsWords words name → ⊥) → untouched
  pub others_left : (name : List ℕ) → (ReadsWords words name → ⊥) → now name ≡ old name
