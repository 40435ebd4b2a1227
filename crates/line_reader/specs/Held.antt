-- What a line reader keeps between its calls.
use Rattle.std.specs.Prelude.{◌≡◌, ◌+◌, ◌≤◌, ◌<◌, [], length, drop, take, vec_len, vec_capacity, true, false}
use Rattle.line_reader.specs.declared.reader.LineReader.TheInside.{Inside}
use Rattle.line_reader.specs.Lines.{rest_of}
use Rattle.line_reader.specs.Reading.{Reading}
use Rattle.line_reader.specs.Search.{HasNoNewline}

abbrev pub reading_of : Inside → Reading
reading_of a = record { number = a.number; pending = drop a.start a.bytes.items; ended = a.ended }

pub record IsHeld (a : Inside) : Type 0 where
  pub within : a.start + a.scanned ≤ length a.bytes.items
  pub scanned : HasNoNewline (take a.scanned (drop a.start a.bytes.items))
  -- `end` takes no memory
  pub room : a.ended ≡ false → vec_len a.bytes < vec_capacity a.bytes
  pub all : a.ended ≡ true → rest_of (drop a.start a.bytes.items) ≡ []
