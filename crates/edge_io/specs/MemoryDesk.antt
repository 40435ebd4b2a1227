-- Desks in memory: what they hold, and which of their reads fail.
use Rattle.std.specs.Prelude.{◌≡◌, ◌↔◌, ℕ, ◌+◌, ◌-◌, ◌^◌, ◌≤◌, List, Contains, map, min, Result, IfOk, OnOk, IsErr, IsOk}
use Rattle.edge_io.specs.Files.{HeldFile}
use Rattle.edge_io.specs.declared.files.InputFile.{InputFile}

-- a desk in memory: the calls so far, those that fail, and how many of them did
pub record DeskState : Type 0 where
  pub files : List HeldFile
  pub cut : ℕ
  pub failing : List ℕ
  pub calls : ℕ
  pub faults : ℕ

abbrev pub held_of : InputFile → HeldFile
held_of file = record { name = file.name; left = file.bytes }

-- before the first call
abbrev pub new_desk : List InputFile → ℕ → List ℕ → DeskState
new_desk files cut failing = record { files = map held_of files; cut = cut; failing = failing; calls = 0; faults = 0 }

-- a desk in memory whose reads never fail
pub record SteadyState : Type 0 where
  pub files : List HeldFile
  pub cut : ℕ

abbrev pub new_steady : List InputFile → ℕ → SteadyState
new_steady files cut = record { files = map held_of files; cut = cut }

-- what a read does besides to a desk of which some calls fail
pub record ReadsInTurn {E : Type 0} (before now : DeskState) (result : Result ℕ E) : Type 0 where
  -- no more bytes are given than was said at the start
  pub cut : IfOk result (λ n. n ≤ before.cut)
  -- each call counts, up to the last number
  pub calls : now.calls ≡ min (before.calls + 1) (2 ^ 64 - 1)
  -- a call fails exactly where its number was given
  pub fails : IsErr result ↔ Contains before.failing now.calls
  -- a call that doesn't fail leaves the count of faults
  pub spared : OnOk result (now.faults ≡ before.faults)
  -- what was said at the start stays
  pub settings : (now.cut ≡ before.cut) × (now.failing ≡ before.failing)

-- what a read does besides to a desk whose reads never fail
pub record ReadsSteadily {E : Type 0} (before now : SteadyState) (result : Result ℕ E) : Type 0 where
  -- no more bytes are given than was said at the start
  pub cut : IfOk result (λ n. n ≤ before.cut)
  -- no read fails
  pub works : IsOk result
  -- what was said at the start stays
  pub settings : now.cut ≡ before.cut
