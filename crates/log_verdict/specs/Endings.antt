-- How a call that reads a desk and writes its answer may end, and what it has taken of a setup and a log then.
use Rattle.std.specs.Prelude.{◌≡◌, ◌⊎◌, ℕ, List, Option, codes}
use Rattle.std.specs.Io.KnownBytes.{IsAtEnd, Keeps}
use Rattle.context_intake.specs.Taking.{TakesSetupAndLog}
use Rattle.edge_io.specs.Endings.{Ends}
use Rattle.edge_io.specs.Faults.{Rose}
use Rattle.verdict_text.specs.Words.{ended}
use Rattle.log_verdict.specs.Answers.{Answer}

-- with its answer, or with status 5 after a fault of the desk, or with status 8 for want of memory
abbrev pub IsAnswered : (Answer → Type 0) → ℕ → ℕ → ℕ → ℕ → Option (List ℕ) → Option (List ℕ) → ℕ → Type 0
IsAnswered IsAnswer desk_before desk_now sink_before sink_now before now result =
    ((answer : Answer) × IsAnswer answer × Ends answer.status answer.text sink_before sink_now before now result)
    ⊎ (Rose desk_before desk_now × Ends 5 (ended (codes "read fault")) sink_before sink_now before now result)
    ⊎ ((result ≡ 8) × Keeps before now)

-- a verdict, or what a history says, was told
abbrev pub IsVerdictStatus : ℕ → Type 0
IsVerdictStatus status = (status ≡ 0) ⊎ (status ≡ 1)

-- a rule is broken: of the setup, or of the log or a placement behind it
abbrev pub IsBrokenStatus : ℕ → Type 0
IsBrokenStatus status = (status ≡ 3) ⊎ (status ≡ 4)

-- What was taken of a setup and a log: all before a verdict, and all of the setup before a rule is said to be broken; of
-- the log nothing where the setup is refused.
pub record ReadsNames (old now : List ℕ → Option (List ℕ)) (status : ℕ) (setup log : List ℕ) : Type 0 where
  pub whole : IsVerdictStatus status → IsAtEnd (now setup) × IsAtEnd (now log)
  pub setup_whole : IsBrokenStatus status → IsAtEnd (now setup)
  pub taken : TakesSetupAndLog setup log old now (status ≡ 5)
