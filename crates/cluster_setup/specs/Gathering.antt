-- What is read of a policy and of files, each by its name.
use Rattle.std.specs.Prelude.{◌≡◌, ⊤, ◌<◌, ◌≤◌, ◌⊎◌, ℕ, List, [], ◌∷◌, ◌++◌, length, map, Contains, Option, Some, Result, IfOk, OnOk, IsErrOf}
use Rattle.std.specs.Io.KnownBytes.{IsAtEnd}
use Rattle.edge_io.specs.Faults.{Rose}
use Rattle.edge_io.specs.Whole.{TakesWhole}
use Rattle.edge_io.specs.declared.whole.WholeStop.{WholeStop}
use Rattle.edge_io.specs.declared.whole.WholeStop.TheVariants.{TooLong, ReadFault}
use Rattle.cluster_setup.specs.declared.gathering.GivenFiles.{GivenFiles}

-- a policy, and each file, has at most so many bytes
abbrev pub most_file : ℕ
most_file = 268435456

-- one of these has more
abbrev pub SomeLong : List (List ℕ) → Type 0
SomeLong [] = ⊥
SomeLong (bytes ∷ others) = (most_file < length bytes) ⊎ SomeLong others

-- of each of these names the bytes are told
abbrev pub TellsAll : List (List ℕ) → (List ℕ → Option (List ℕ)) → (List ℕ → List ℕ) → Type 0
TellsAll names left files = (name : List ℕ) → Contains names name → left name ≡ Some (files name)

-- what is left of each other name is as it was
abbrev pub LeavesOthers : List (List ℕ) → (old left : List ℕ → Option (List ℕ)) → Type 0
LeavesOthers names old left = (other : List ℕ) → (Contains names other → ⊥) → left other ≡ old other

-- each of these names was read to its end
abbrev pub AreAtEnd : List (List ℕ) → (List ℕ → Option (List ℕ)) → Type 0
AreAtEnd names left = (name : List ℕ) → Contains names name → IsAtEnd (left name)

-- this was read to its end, and isn't too long
pub record IsReadWhole (old left : Option (List ℕ)) : Type 0 where
  pub whole : IsAtEnd left
  pub short : (bytes : List ℕ) → old ≡ Some bytes → length bytes ≤ most_file

-- nothing was taken of these names
abbrev pub AreUntouched : List (List ℕ) → (old left : List ℕ → Option (List ℕ)) → Type 0
AreUntouched names old left = (name : List ℕ) → Contains names name → left name ≡ old name

-- a name is touched only where all before it were read whole
abbrev pub TakesInOrder : List (List ℕ) → (old left : List ℕ → Option (List ℕ)) → Type 0
TakesInOrder [] old left = ⊤
TakesInOrder (name ∷ names) old left = (IsReadWhole (old name) (left name) × TakesInOrder names old left) ⊎ AreUntouched names old left

-- what was taken of these names, each at most a piece past the limit, and less where no name is too long (`fine`)
pub record TakesFiles (names : List (List ℕ)) (old left : List ℕ → Option (List ℕ)) (fine : Type 0) : Type 0 where
  pub taken : (name : List ℕ) → Contains names name → TakesWhole most_file (old name) (left name) fine
  pub in_order : TakesInOrder names old left

-- files of these names were read up to the first that is too long, and put behind others; the faults are those of the desk
pub record AreGathered {A : Type 0} (names before now : List (List ℕ)) (old left : List ℕ → Option (List ℕ)) (faults_before faults_now : ℕ) (found : Result A WholeStop) : Type 0 where
  pub read : OnOk found ((told : List ℕ → List ℕ) → TellsAll names old told → (now ≡ before ++ map told names) × (SomeLong (map told names) → ⊥))
  pub whole : OnOk found (AreAtEnd names left)
  pub long : IsErrOf found TooLong → (told : List ℕ → List ℕ) → TellsAll names old told → SomeLong (map told names)
  pub fault : IsErrOf found ReadFault → Rose faults_before faults_now
  pub counted : faults_before ≤ faults_now
  pub taken : TakesFiles names old left (IsErrOf found ReadFault)
  pub others : LeavesOthers names old left

-- a policy and files of these names were read up to the first that is too long
pub record AreGiven (policy : List ℕ) (names : List (List ℕ)) (old left : List ℕ → Option (List ℕ)) (faults_before faults_now : ℕ) (found : Result GivenFiles WholeStop) : Type 0 where
  pub read : IfOk found (λ given. (told : List ℕ → List ℕ) → TellsAll (policy ∷ names) old told
      → (given.policy ≡ told policy) × (given.files.items ≡ map told names) × (SomeLong (given.policy ∷ given.files.items) → ⊥))
  pub whole : OnOk found (AreAtEnd (policy ∷ names) left)
  pub long : IsErrOf found TooLong → (told : List ℕ → List ℕ) → TellsAll (policy ∷ names) old told → SomeLong (map told (policy ∷ names))
  pub fault : IsErrOf found ReadFault → Rose faults_before faults_now
  pub counted : faults_before ≤ faults_now
  pub taken : TakesFiles (policy ∷ names) old left (IsErrOf found ReadFault)
  pub others : LeavesOthers (policy ∷ names) old left
