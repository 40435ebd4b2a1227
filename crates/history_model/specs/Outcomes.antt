-- What a log comes to: the least placement that explains it, or the earliest event that none explains.
use Rattle.std.specs.Prelude.{◌≡◌, ◌<◌, ◌≤◌, ◌+◌, ℕ, ◌⊎◌, List, Some, AllPairs, Contains, slice_get}
use Rattle.std.specs.List.{AllZip}
use Rattle.base_types.specs.declared.verdict.claim.Reason.{Reason}
use Rattle.base_types.specs.declared.verdict.claim.Reason.TheVariants.{U14}
use Rattle.base_types.specs.declared.kubernetes.key.ObjectKey.{ObjectKey}
use Rattle.base_types.specs.declared.verdict.placed.PlacedLine.{PlacedLine}
use Rattle.history_model.specs.Codes.{IsLeastCandidate}
use Rattle.history_model.specs.Events.{Event}
use Rattle.history_model.specs.Groups.{Making}
use Rattle.history_model.specs.Histories.{History, Version, Removal, IsEvent}
use Rattle.history_model.specs.Machine.{event_line}
use Rattle.history_model.specs.Makers.{IsShowing}
use Rattle.history_model.specs.Placed.{ArePlacedLines}
use Rattle.history_model.specs.Runs.{Placement, IsRun, IsExplainedUpTo}
use Rattle.history_model.specs.Windows.{low_end, high_end, decision_low, decision_high}

-- the choice has the least place in every range, among the runs
pub record IsLeastOfRuns (h : History) (choice : List ℕ) : Type 0 where
  pub p : Placement
  pub run : IsRun h p
  pub chosen : p.choice ≡ choice
  pub least : (other : Placement) → IsRun h other → AllZip ◌≤◌ choice other.choice

-- the first event with which the events in the order of judgement aren't explained, and its code
pub record IsEarliest (h : History) (number : ℕ) (event : Event) (code : Reason) : Type 0 where
  pub known : IsEvent h number event
  pub before : ℕ
  pub found : slice_get h.order before ≡ Some number
  pub explained : IsExplainedUpTo h before
  pub unexplained : IsExplainedUpTo h (before + 1) → ⊥
  pub least : IsLeastCandidate h before number event code

-- the window of the event, or for a decision the range of its places
abbrev pub shown_low : History → Event → Reason → ℕ
shown_low h event U14 = decision_low h event
shown_low h event code = low_end h event

abbrev pub shown_high : History → Event → Reason → ℕ
shown_high h event U14 = decision_high h event
shown_high h event code = high_end h event

-- a write in a window: a revision, or the range of a removal
pub data Write : Type 0 where
  MadeAt : (revision line : ℕ) → ObjectKey → Write
  RemovedIn : (low high line : ℕ) → ObjectKey → Write

-- the line of a revision is that of its maker, or without one of the first of its group
pub record IsMadeAt (h : History) (low high revision line : ℕ) (key : ObjectKey) : Type 0 where
  pub version : Version
  pub known : Contains h.versions version
  pub above : h.start < version.revision
  pub inside : (low ≤ revision) × (revision ≤ high)
  pub of_revision : revision ≡ version.revision
  pub of_key : key ≡ version.key
  pub m : Making
  pub shown : IsShowing h version.key version.revision version.maker m
  pub of_line : line ≡ m.event.line

pub record IsRemovedIn (h : History) (low high first last line : ℕ) (key : ObjectKey) : Type 0 where
  pub removal : Removal
  pub known : Contains h.removals removal
  pub inside : (low ≤ high) × (first ≤ high) × (low ≤ last)
  pub of_first : first ≡ removal.range.low
  pub of_last : last ≡ removal.range.high
  pub of_key : key ≡ removal.key
  pub of_line : line ≡ event_line (slice_get h.events removal.range.event)

abbrev pub IsWriteIn : History → ℕ → ℕ → Write → Type 0
IsWriteIn h low high (MadeAt revision line key) = IsMadeAt h low high revision line key
IsWriteIn h low high (RemovedIn first last line key) = IsRemovedIn h low high first last line key

abbrev pub write_place : Write → ℕ
write_place (MadeAt revision line key) = revision
write_place (RemovedIn low high line key) = low

abbrev pub write_rank : Write → ℕ
write_rank (MadeAt revision line key) = 0
write_rank (RemovedIn low high line key) = 1

abbrev pub write_line : Write → ℕ
write_line (MadeAt revision line key) = line
write_line (RemovedIn low high line key) = line

-- by revision or low end, revisions first, then by line
abbrev pub IsListedBefore : Write → Write → Type 0
IsListedBefore a b = (write_place a < write_place b)
    ⊎ ((write_place a ≡ write_place b) × (write_rank a < write_rank b))
    ⊎ ((write_place a ≡ write_place b) × (write_rank a ≡ write_rank b) × (write_line a < write_line b))

-- all writes of a window
pub record AreWrites (h : History) (low high : ℕ) (writes : List Write) : Type 0 where
  pub sorted : AllPairs IsListedBefore writes
  pub sound : (write : Write) → Contains writes write → IsWriteIn h low high write
  pub full : (write : Write) → IsWriteIn h low high write → Contains writes write

pub data Outcome : Type 0 where
  Explained : (lines : List PlacedLine) → Outcome
  Unexplained : (number : ℕ) → Reason → (low high : ℕ) → (writes : List Write) → Outcome

pub record IsExplanation (h : History) (lines : List PlacedLine) : Type 0 where
  pub choice : List ℕ
  pub least : IsLeastOfRuns h choice
  pub placed : ArePlacedLines h choice lines

pub record IsFinding (h : History) (number : ℕ) (code : Reason) (low high : ℕ) (writes : List Write) : Type 0 where
  pub event : Event
  pub earliest : IsEarliest h number event code
  pub from : low ≡ shown_low h event code
  pub to : high ≡ shown_high h event code
  pub written : AreWrites h low high writes

abbrev pub IsOutcome : History → Outcome → Type 0
IsOutcome h (Explained lines) = IsExplanation h lines
IsOutcome h (Unexplained number code low high writes) = IsFinding h number code low high writes
