-- The batches in which a log is read.
use Rattle.std.specs.Prelude.{◌≡◌, ◌≢◌, ℕ, ◌+◌, ◌<◌, ◌≤◌, List, [], ◌++◌, length, Option, Result, IfOk, OnErr, All, Bool, true, false, map}
use Rattle.std.specs.Io.KnownBytes.{IsAtEnd}
use Rattle.line_reader.specs.declared.line.Line.{Line}
use Rattle.line_reader.specs.Lines.{NumberedLine, longest_line, lines_from}
use Rattle.line_reader.specs.Reading.{Reading, Continues, HoldsRest, IsTooLong, line_value}
use Rattle.base_types.specs.declared.foundation.memory.OutOfMemory.{OutOfMemory}
use Rattle.log_intake.specs.declared.batch.Batch.{Batch}
use Rattle.log_intake.specs.declared.batch.BatchEnd.{BatchEnd}
use Rattle.log_intake.specs.declared.batch.BatchEnd.TheVariants.{GoesOn, Ended, Failed, LineTooLong, InputTooLong}
use Rattle.log_intake.specs.declared.batch.Piece.{Piece}
use Rattle.log_intake.specs.declared.stop.LogStop.{LogStop}
use Rattle.log_intake.specs.declared.stop.LogStop.TheVariants as stop
use Rattle.edge_io.specs.Faults.{Rose}
use Rattle.edge_io.specs.Whole.{HasTaken}

abbrev pub line_values : List Line → List NumberedLine
line_values lines = map line_value lines

-- none of the lines is too long
abbrev pub AreShort : List NumberedLine → Type 0
AreShort lines = All (λ line. length line.bytes ≤ longest_line) lines

-- a reader that was fed more
abbrev pub fed_with : Reading → List ℕ → Reading
fed_with reader fed = record reader { pending = reader.pending ++ fed }

-- only a line that has begun is left, and more may come
pub record HoldsOpen (reader : Reading) : Type 0 where
  pub rest : HoldsRest reader
  pub going : reader.ended ≡ false

-- what is left of the bytes that were fed, and what was taken past them
abbrev pub EndsBatch : BatchEnd → Reading → List ℕ → List ℕ → List NumberedLine → Reading → Option (List ℕ) → ℕ → Type 0
EndsBatch GoesOn reader fed past given reader' now taken = Continues (fed_with reader fed) given reader' × HoldsOpen reader' × (past ≡ [])
EndsBatch Ended reader fed past given reader' now taken = (lines_from reader.number (reader.pending ++ fed) ≡ given) × (past ≡ []) × IsAtEnd now
EndsBatch Failed reader fed past given reader' now taken = Continues (fed_with reader fed) given reader' × HoldsOpen reader' × (past ≡ [])
EndsBatch LineTooLong reader fed past given reader' now taken =
    (middle : Reading) × Continues (fed_with reader fed) given middle × ((number : ℕ) × IsTooLong number middle)
EndsBatch InputTooLong reader fed past given reader' now taken =
    Continues (fed_with reader fed) given reader' × HoldsOpen reader' × (0 < length past) × (taken ≡ 1099511627776)

-- bytes were taken, and those within the limit were fed; these lines came of them
pub record Gathers (end : BatchEnd) (old now : Option (List ℕ)) (reader reader' : Reading) (given : List NumberedLine) (before taken most : ℕ) : Type 0 where
  pub fed : List ℕ
  pub past : List ℕ
  pub told : HasTaken old now (fed ++ past)
  pub counted : taken ≡ before + length fed
  pub within : taken ≤ 1099511627776
  pub piece : length past ≤ 65536
  pub few : length (fed ++ past) ≤ most
  pub short : AreShort given
  pub lines : EndsBatch end reader fed past given reader' now taken

-- at most so many bytes were taken
pub record TakesSome (old now : Option (List ℕ)) (before most : ℕ) : Type 0 where
  pub taken : List ℕ
  pub told : HasTaken old now taken
  pub few : length taken ≤ most
  pub within : before + length taken ≤ 1099511693312

-- what a batch may be gathered with: room for a byte at least and for a piece at most, a log that may go on, and a reader to which more may come
pub record MayGather (buffer : List ℕ) (before : ℕ) (reader : Reading) : Type 0 where
  pub some : 0 < length buffer
  pub piece : length buffer ≤ 65536
  pub within : before ≤ 1099511627776
  pub going : HoldsOpen reader

-- a batch takes at most so many bytes
abbrev pub most_gathered : ℕ
most_gathered = 1376256

-- a batch was gathered, or memory was wanted
pub record GathersBatch (left left' : List ℕ → Option (List ℕ)) (name : List ℕ) (faults faults' : ℕ) (reader reader' : Reading) (before : ℕ) (answer : Result Batch OutOfMemory) : Type 0 where
  pub gathers : IfOk answer (λ batch. Gathers batch.end (left name) (left' name) reader reader' (line_values batch.lines.items) before batch.taken most_gathered)
  pub more : IfOk answer (λ batch. batch.end ≡ GoesOn → before < batch.taken)
  pub fault : IfOk answer (λ batch. batch.end ≡ Failed → Rose faults faults')
  pub memory : OnErr answer (TakesSome (left name) (left' name) before most_gathered)
  pub counted : faults ≤ faults'
  pub others : (other : List ℕ) → other ≢ name → left' other ≡ left other

-- why a log that ends so is no list of events
abbrev pub IsStopAt : BatchEnd → LogStop → Type 0
IsStopAt GoesOn why = ⊥
IsStopAt Ended why = ⊥
IsStopAt Failed why = why ≡ stop.ReadFault
IsStopAt LineTooLong why = why ≡ stop.LineTooLong
IsStopAt InputTooLong why = why ≡ stop.TooLong

-- the lines that were given stand behind the others
pub record GivesLines (reader reader' : Reading) (lines lines' : List NumberedLine) : Type 0 where
  pub given : List NumberedLine
  pub continues : Continues reader given reader'
  pub short : AreShort given
  pub behind : lines' ≡ lines ++ given

-- all lines that waited were given, or those before a line that is too long
abbrev pub GivesRest : Bool → Reading → Reading → List NumberedLine → List NumberedLine → Type 0
GivesRest true reader reader' lines lines' = GivesLines reader reader' lines lines' × HoldsRest reader'
GivesRest false reader reader' lines lines' = (middle : Reading) × GivesLines reader middle lines lines' × ((number : ℕ) × IsTooLong number middle)

-- a piece of a batch
pub record TakesPiece (end : BatchEnd) (old now : Option (List ℕ)) (reader reader' : Reading) (lines lines' : List NumberedLine) (before taken : ℕ) : Type 0 where
  pub given : List NumberedLine
  pub gathers : Gathers end old now reader reader' given before taken 65536
  pub behind : lines' ≡ lines ++ given

-- one read was made and what waits then was given, or memory was wanted
pub record ReadsPiece (left left' : List ℕ → Option (List ℕ)) (name : List ℕ) (faults faults' : ℕ) (reader reader' : Reading) (lines lines' : List NumberedLine) (before : ℕ) (answer : Result Piece OutOfMemory) : Type 0 where
  pub takes : IfOk answer (λ piece. TakesPiece piece.end (left name) (left' name) reader reader' lines lines' before piece.taken)
  pub more : IfOk answer (λ piece. piece.end ≡ GoesOn → before < piece.taken)
  pub fault : IfOk answer (λ piece. piece.end ≡ Failed → Rose faults faults')
  pub memory : OnErr answer (TakesSome (left name) (left' name) before 65536)
  pub counted : faults ≤ faults'
  pub others : (other : List ℕ) → other ≢ name → left' other ≡ left other

-- the line that had begun, if there is one, was the last
pub record GivesLast (reader : Reading) (lines lines' : List NumberedLine) : Type 0 where
  pub given : List NumberedLine
  pub all : lines_from reader.number reader.pending ≡ given
  pub short : AreShort given
  pub behind : lines' ≡ lines ++ given
