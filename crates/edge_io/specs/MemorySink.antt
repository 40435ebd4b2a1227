-- A sink in memory: what was written, and which of its writes fail.
use Rattle.std.specs.Prelude.{◌≡◌, ◌↔◌, ◌⊎◌, ℕ, ◌+◌, ◌-◌, ◌^◌, ◌≤◌, List, [], Contains, length, min, Result, IfOk, OnOk, IsErr}
use Rattle.edge_io.specs.declared.memory.TheConstants.{SINK_ROOM}

-- a sink in memory: what was written, the calls so far, those that fail, and how many of them did
pub record SinkState : Type 0 where
  pub bytes : List ℕ
  pub cut : ℕ
  pub failing : List ℕ
  pub calls : ℕ
  pub faults : ℕ

-- before the first call
abbrev pub new_sink : ℕ → List ℕ → SinkState
new_sink cut failing = record { bytes = []; cut = cut; failing = failing; calls = 0; faults = 0 }

-- what a write does besides to a sink of which some calls fail
pub record WritesInTurn {E : Type 0} (before now : SinkState) (result : Result ℕ E) : Type 0 where
  -- no more bytes are taken than was said at the start
  pub cut : IfOk result (λ n. n ≤ before.cut)
  -- each call counts, up to the last number
  pub calls : now.calls ≡ min (before.calls + 1) (2 ^ 64 - 1)
  -- a call fails exactly where its number was given, or where the room is used up
  pub fails : IsErr result ↔ (Contains before.failing now.calls ⊎ (SINK_ROOM ≤ length before.bytes))
  -- a call that doesn't fail leaves the count of faults
  pub spared : OnOk result (now.faults ≡ before.faults)
  -- what was said at the start stays
  pub settings : (now.cut ≡ before.cut) × (now.failing ≡ before.failing)
