-- How the process ends.
use Rattle.std.specs.Prelude.{◌≡◌, ◌⊎◌, ℕ, List, Option, Some, None, Result, Ok, Err, String, Vec, map, string_bytes}
use Rattle.std.specs.Global.{Global}
use Rattle.std.specs.Io.KnownBytes.{Keeps}
use Rattle.base_types.specs.declared.foundation.memory.OutOfMemory.{OutOfMemory}
use Rattle.edge_io.specs.Endings.{Ends}
use Rattle.log_verdict.specs.Endings.{IsAnswered}
use Rattle.companion_words.specs.Command.{ReadsWords}
use Rattle.companion.specs.Program.{IsAnswer, IsOfTable, usage_answer}
use Rattle.companion.specs.Running.{StatusTells}

-- the words give no name to be read
abbrev pub ReadNothing : List (List ℕ) → Type 0
ReadNothing words = (name : List ℕ) → ReadsWords words name → ⊥

-- how a call of the program on these words ends, of whose desk nothing is known: the text is known too where nothing is
-- read, and there the desk has no fault
pub record EndsCall (words : List (List ℕ)) (desk_before desk_now sink_before sink_now : ℕ) (before now : Option (List ℕ)) (status : ℕ) : Type 0 where
  pub answer : ReadNothing words → (files : List ℕ → List ℕ) → IsAnswered (IsAnswer words files) desk_before desk_now sink_before sink_now before now status
  pub table : IsAnswered (IsOfTable words) desk_before desk_now sink_before sink_now before now status
  pub told : StatusTells words desk_before desk_now sink_before sink_now before now status
  pub unread : ReadNothing words → desk_now ≡ desk_before

-- as such a call; or with 8, for want of memory for the names
abbrev pub EndsWords : List (List ℕ) → (sink_before sink_now : ℕ) → (before now : Option (List ℕ)) → (status : ℕ) → Type 0
EndsWords words sink_before sink_now before now status =
    ((desk_before desk_now : ℕ) × EndsCall words desk_before desk_now sink_before sink_now before now status)
    ⊎ ((status ≡ 8) × Keeps before now)

-- on its words; like words that are no command, where an argument is no text; or with 8, for want of memory for the words
abbrev pub EndsProcess : Result (Option (Vec (String Global) Global)) OutOfMemory → (sink_before sink_now : ℕ) → (before now : Option (List ℕ)) → (status : ℕ) → Type 0
EndsProcess (Ok (Some words)) sink_before sink_now before now status = EndsWords (map string_bytes words.items) sink_before sink_now before now status
EndsProcess (Ok None) sink_before sink_now before now status = Ends 2 usage_answer.text sink_before sink_now before now status
EndsProcess (Err memory) sink_before sink_now before now status = (status ≡ 8) × Keeps before now
