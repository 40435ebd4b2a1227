-- How a call that writes a text may end.
use Rattle.std.specs.Prelude.{◌≡◌, ℕ, ◌<◌, ◌⊎◌, List, Option, length, take}
use Rattle.std.specs.Io.KnownBytes.{Appends}
use Rattle.edge_io.specs.Faults.{Rose}

-- a proper prefix of a text was written
abbrev pub AppendsPart : Option (List ℕ) → Option (List ℕ) → List ℕ → Type 0
AppendsPart before now text = (n : ℕ) × (n < length text) × Appends before now (take n text)

-- the text was written whole with its status, or a part of it with status 6 after a fault of the sink
abbrev pub Ends : ℕ → List ℕ → ℕ → ℕ → Option (List ℕ) → Option (List ℕ) → ℕ → Type 0
Ends status text faults_before faults_now before now result =
    ((result ≡ status) × Appends before now text) ⊎ ((result ≡ 6) × Rose faults_before faults_now × AppendsPart before now text)
