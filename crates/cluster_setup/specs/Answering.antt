-- What a time, a policy and files come to as a setup, of their bytes alone.
use Rattle.std.specs.Prelude.{◌≡◌, ◌≤◌, ⊤, ℕ, Bool, List, ◌∷◌, map, Option, Result, Ok, Err, OnOk, IsErrOf}
use Rattle.edge_io.specs.Faults.{Rose}
use Rattle.edge_io.specs.declared.whole.WholeStop.{WholeStop}
use Rattle.edge_io.specs.declared.whole.WholeStop.TheVariants.{TooLong, ReadFault, OutOfMemory}
use Rattle.verdict_text.specs.Words.{ended}
use Rattle.cluster_setup.specs.Answers.{IsMade, Refuses}
use Rattle.cluster_setup.specs.Gathering.{AreAtEnd, LeavesOthers, SomeLong, TakesFiles, TellsAll}
use Rattle.cluster_setup.specs.Telling.{refusal_words}
use Rattle.cluster_setup.specs.Told.{Tells}
use Rattle.cluster_setup.specs.declared.answering.MadeText.{MadeText}
use Rattle.cluster_setup.specs.declared.answering.MadeText.TheVariants.{Setup, Refused}
use Rattle.cluster_setup.specs.declared.fault.SetupRefusal.{SetupRefusal}

-- the setup, which its readers take as one of these bytes and of nothing else; or why none is made of files with these names
abbrev pub IsMadeText : Bool → (time policy : List ℕ) → (names files : List (List ℕ)) → MadeText → Type 0
IsMadeText authorize time policy names files (Setup line) = IsMade time policy files authorize line × Tells time policy files authorize line
IsMadeText authorize time policy names files (Refused line) =
    (refusal : SetupRefusal) × Refuses time policy files authorize refusal × (line ≡ ended (refusal_words names refusal))

-- the same, or there is a file that is too long
abbrev pub AnswersMade : Bool → (time policy : List ℕ) → (names files : List (List ℕ)) → Result MadeText WholeStop → Type 0
AnswersMade authorize time policy names files (Ok made) = (SomeLong (policy ∷ files) → ⊥) × IsMadeText authorize time policy names files made
AnswersMade authorize time policy names files (Err TooLong) = SomeLong (policy ∷ files)
AnswersMade authorize time policy names files (Err ReadFault) = ⊤
AnswersMade authorize time policy names files (Err OutOfMemory) = ⊤

-- what is answered to a policy and files of these names, and what is taken of them; the faults are those of the desk
pub record MakesSetup (authorize : Bool) (time policy : List ℕ) (names : List (List ℕ)) (old left : List ℕ → Option (List ℕ)) (faults_before faults_now : ℕ) (answer : Result MadeText WholeStop) : Type 0 where
  pub answered : (told : List ℕ → List ℕ) → TellsAll (policy ∷ names) old told → AnswersMade authorize time (told policy) names (map told names) answer
  pub whole : OnOk answer (AreAtEnd (policy ∷ names) left)
  pub fault : IsErrOf answer ReadFault → Rose faults_before faults_now
  pub counted : faults_before ≤ faults_now
  pub taken : TakesFiles (policy ∷ names) old left (IsErrOf answer ReadFault)
  pub others : LeavesOthers (policy ∷ names) old left
