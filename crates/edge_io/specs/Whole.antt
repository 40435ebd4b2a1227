-- What is read of a name to its end, and what is taken of it.
use Rattle.std.specs.Prelude.{◌≡◌, ⊤, ℕ, ◌<◌, ◌≤◌, List, [], ◌++◌, length, Option, Some, Result, Ok, Err, IfOk, OnOk, IsErrOf}
use Rattle.std.specs.Io.KnownBytes.{IsAtEnd}
use Rattle.edge_io.specs.Faults.{Rose}
use Rattle.edge_io.specs.declared.whole.WholeStop.{WholeStop}
use Rattle.edge_io.specs.declared.whole.WholeStop.TheVariants.{TooLong, ReadFault, OutOfMemory}

-- of the bytes that were told, `front` was taken
abbrev pub HasTaken : Option (List ℕ) → Option (List ℕ) → List ℕ → Type 0
HasTaken old now front = (bytes : List ℕ) → old ≡ Some bytes → (behind : List ℕ) × (now ≡ Some behind) × (bytes ≡ front ++ behind)

-- a read offers room for at most so many bytes
abbrev pub most_piece : ℕ
most_piece = 65536

-- all bytes, or there are more than so many of them
abbrev pub AnswersWhole : ℕ → List ℕ → Result (List ℕ) WholeStop → Type 0
AnswersWhole most bytes (Ok all) = all ≡ bytes
AnswersWhole most bytes (Err TooLong) = most < length bytes
AnswersWhole most bytes (Err ReadFault) = ⊤
AnswersWhole most bytes (Err OutOfMemory) = ⊤

-- bytes that aren't too many so far, and at most a piece behind them; no piece where nothing more was to be taken
pub record TakesWhole (most : ℕ) (old now : Option (List ℕ)) (fine : Type 0) : Type 0 where
  pub front : List ℕ
  pub piece : List ℕ
  pub taken : HasTaken old now (front ++ piece)
  pub within : length front ≤ most
  pub short : length piece ≤ most_piece
  pub blameless : fine → piece ≡ []

-- bytes that were read to their end, or up to a failed read
abbrev pub StaysWithin : Result (List ℕ) WholeStop → Type 0
StaysWithin (Ok all) = ⊤
StaysWithin (Err TooLong) = ⊥
StaysWithin (Err ReadFault) = ⊤
StaysWithin (Err OutOfMemory) = ⊥

-- what is answered to a name, of which at most so many bytes are wanted, and what is taken of it; the faults are those
-- of the desk
pub record ReadsWhole (most : ℕ) (old now : Option (List ℕ)) (faults_before faults_now : ℕ) (answer : Result (List ℕ) WholeStop) : Type 0 where
  pub answers : (bytes : List ℕ) → old ≡ Some bytes → AnswersWhole most bytes answer
  pub within : IfOk answer (λ all. length all ≤ most)
  pub whole : OnOk answer (IsAtEnd now)
  pub fault : IsErrOf answer ReadFault → Rose faults_before faults_now
  pub counted : faults_before ≤ faults_now
  pub taken : TakesWhole most old now (StaysWithin answer)
