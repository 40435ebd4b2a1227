-- The writes of a window by their positions among the versions and the removals, and the order that they are sorted in.
use Rattle.std.specs.Prelude.{◌≡◌, ◌<◌, ◌≤◌, ℕ, true, false, if◌then◌else◌, List, ◌++◌, Option, Some, length, option_map, slice_get, AllPairs, Contains}
use Rattle.std.specs.List.Sorted.{IsPermutation}
use Rattle.std.specs.declared.cmp.Ordering.{Ordering}
use Rattle.history_model.specs.Groups.{Making, IsFirstMaking, IsMember}
use Rattle.history_model.specs.Machine.{event_line}
use Rattle.history_model.specs.Makers.{IsShowing}
use Rattle.history_model.specs.Outcomes.{Write, MadeAt, RemovedIn}
use Rattle.object_past.specs.Modelled.{maker_of}
use Rattle.object_past.specs.declared.removal.Removal.{Removal}
use Rattle.object_past.specs.declared.version.Version.{Version}
use Rattle.log_context.specs.Histories.{history_of}
use Rattle.log_context.specs.Known.{Known}
use Rattle.window_writes.specs.contracts.writes.WriteTurnOrd.TheImpl as turn_ord
use Rattle.window_writes.specs.declared.writes.WriteTurn.{WriteTurn}

-- by place, those that made a revision before removals, and then by line
abbrev pub write_turn_order : WriteTurn → WriteTurn → Ordering
write_turn_order = (turn_ord.ghosts).cmp

abbrev pub made_write : WriteTurn → Version → Write
made_write turn version = MadeAt turn.place turn.line version.key

abbrev pub removed_write : WriteTurn → Removal → Write
removed_write turn removal = RemovedIn turn.place removal.range.high turn.line removal.key

-- the write that has the turn
abbrev pub write_of_turn : Known → WriteTurn → Option Write
write_of_turn known turn =
    if turn.removes then option_map (removed_write turn) (slice_get known.removals turn.position)
    else option_map (made_write turn) (slice_get known.versions turn.position)

-- the number is that of the write whose answer shows the version
pub record IsShownBy (known : Known) (version : Version) (number : ℕ) : Type 0 where
  pub m : Making
  pub shown : IsShowing (history_of known) version.key version.revision (maker_of version.maker) m
  pub of_number : m.number ≡ number

-- the number is that of the first write of the version's group
pub record IsFirstWriter (known : Known) (version : Version) (number : ℕ) : Type 0 where
  pub m : Making
  pub first : IsFirstMaking (IsMember (history_of known) version.key version.revision) m
  pub of_number : m.number ≡ number

-- the line is that of the write whose answer shows the version
pub record IsShownLine (known : Known) (version : Version) (line : ℕ) : Type 0 where
  pub m : Making
  pub shown : IsShowing (history_of known) version.key version.revision (maker_of version.maker) m
  pub of_line : line ≡ m.event.line

pub record IsMadeTurn (known : Known) (version : Version) (turn : WriteTurn) : Type 0 where
  pub made : turn.removes ≡ false
  pub of_place : turn.place ≡ version.revision
  pub line : IsShownLine known version turn.line

pub record IsRemovedTurn (known : Known) (removal : Removal) (turn : WriteTurn) : Type 0 where
  pub removed : turn.removes ≡ true
  pub of_place : turn.place ≡ removal.range.low
  pub of_line : turn.line ≡ event_line (slice_get (history_of known).events removal.range.event)

-- the version was made above the start, in the window
abbrev pub IsMadeWithin : (start low high : ℕ) → Version → Type 0
IsMadeWithin start low high version = (start < version.revision) × (low ≤ version.revision) × (version.revision ≤ high)

-- the window has a place, and the removal may have one of its places
abbrev pub IsRemovedWithin : (low high : ℕ) → Removal → Type 0
IsRemovedWithin low high removal = (low ≤ high) × (removal.range.low ≤ high) × (low ≤ removal.range.high)

-- the turn of one of the first n items, which counts
pub record IsTurnOf {X : Type 0} (Counts : X → Type 0) (IsTurn : X → WriteTurn → Type 0) (items : List X) (n : ℕ) (turn : WriteTurn) : Type 0 where
  pub item : X
  pub at : slice_get items turn.position ≡ Some item
  pub below : turn.position < n
  pub counts : Counts item
  pub turns : IsTurn item turn

-- one turn for each of the first n items that counts, in their order
pub record AreTurnsOf {X : Type 0} (Counts : X → Type 0) (IsTurn : X → WriteTurn → Type 0) (items : List X) (n : ℕ) (turns : List WriteTurn) : Type 0 where
  pub rising : AllPairs (λ a b. a.position < b.position) turns
  pub sound : (turn : WriteTurn) → Contains turns turn → IsTurnOf Counts IsTurn items n turn
  pub full : (position : ℕ) (item : X) → position < n → slice_get items position ≡ Some item → Counts item → (turn : WriteTurn) × Contains turns turn × (turn.position ≡ position)

-- of the first n versions, those that were made in the window
abbrev pub AreMadeTurns : Known → (low high n : ℕ) → List WriteTurn → Type 0
AreMadeTurns known low high n turns = AreTurnsOf (IsMadeWithin known.setup.start low high) (IsMadeTurn known) known.versions n turns

-- of the first n removals, those that may be in the window
abbrev pub AreRemovedTurns : Known → (low high n : ℕ) → List WriteTurn → Type 0
AreRemovedTurns known low high n turns = AreTurnsOf (IsRemovedWithin low high) (IsRemovedTurn known) known.removals n turns

-- the turns of all writes in the window, each once
pub record AreTurns (known : Known) (low high : ℕ) (turns : List WriteTurn) : Type 0 where
  pub made : List WriteTurn
  pub removed : List WriteTurn
  pub of_made : AreMadeTurns known low high (length known.versions) made
  pub of_removed : AreRemovedTurns known low high (length known.removals) removed
  pub same : IsPermutation (made ++ removed) turns
