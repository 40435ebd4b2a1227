-- What a call of the program tells of its words, of the desk and of the sink, whatever its answer is.
use Rattle.std.specs.Prelude.{◌≡◌, ◌⊎◌, ℕ, List, Option, Some, None}
use Rattle.std.specs.Io.KnownBytes.{IsAtEnd, Keeps}
use Rattle.command_words.specs.Command.{Asked, AsksOf, IsAsked, MayWantMemory, Reads, Verify}
use Rattle.context_intake.specs.Contexts.{IsRefused}
use Rattle.context_intake.specs.declared.refusal.Refusal.{Refusal}
use Rattle.edge_io.specs.Endings.{Ends}
use Rattle.edge_io.specs.Faults.{Rose}
use Rattle.edge_io.specs.Whole.{TakesWhole}
use Rattle.log_verdict.specs.Endings.{IsVerdictStatus, ReadsNames}
use Rattle.log_verdict.specs.Verifying.{IsReadLast, most_placement}
use Rattle.kubepast.specs.Program.{usage_answer}

-- The status tells why there is no answer: 2 that the words are no command, 5 and 6 that a count of faults rose, 8 that
-- nothing was written. Words that are no command end with 2, unless they want memory.
pub record StatusTells (words : List (List ℕ)) (desk_before desk_now sink_before sink_now : ℕ) (before now : Option (List ℕ)) (status : ℕ) : Type 0 where
  pub usage : IsAsked words None → Ends 2 usage_answer.text sink_before sink_now before now status ⊎ (MayWantMemory words × (status ≡ 8))
  pub usage_only : status ≡ 2 → IsAsked words None
  pub read_fault : status ≡ 5 → Rose desk_before desk_now
  pub write_fault : status ≡ 6 → Rose sink_before sink_now
  pub memory : status ≡ 8 → Keeps before now

-- what was taken of a placement: all before a verdict and before a line of it is said to be wrong (with 4, which also says
-- that the log is refused), and nothing where the setup or the log is refused, or isn't read to its end
pub record ReadsPlacement (old now : List ℕ → Option (List ℕ)) (status : ℕ) (setup log placement : List ℕ) : Type 0 where
  pub whole : IsVerdictStatus status → IsAtEnd (now placement)
  pub misspelt : status ≡ 4 → (now placement ≡ old placement) ⊎ IsAtEnd (now placement)
  pub taken : TakesWhole most_placement (old placement) (now placement) (status ≡ 5)
  pub left : (of_setup of_log : List ℕ) (refusal : Refusal) → old setup ≡ Some of_setup → old log ≡ Some of_log → IsRefused of_setup of_log refusal → now placement ≡ old placement
  pub after : IsReadLast (now setup) (now log) (old placement) (now placement)

-- what was taken of each name of the desk: nothing of a name that the words don't give to be read
pub record ReadsDesk (words : List (List ℕ)) (old now : List ℕ → Option (List ℕ)) (untouched : Type 0) (status : ℕ) : Type 0 where
  pub names : (setup log : List ℕ) → AsksOf words setup log → ReadsNames old now status setup log
  pub placement : (setup log placement : List ℕ) → IsAsked words (Some (Verify setup log placement)) → ReadsPlacement old now status setup log placement
  pub others_left : (asked : Asked) (name : List ℕ) → IsAsked words (Some asked) → (Reads asked name → ⊥) → now name ≡ old name
  pub desk_left : ((setup log : List ℕ) → AsksOf words setup log → ⊥) → untouched
