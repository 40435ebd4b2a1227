-- The lines that tell of the writes in a window.
use Rattle.std.specs.Prelude.{◌≡◌, ℕ, List, map}
use Rattle.base_types.specs.Keys.{key_spelling}
use Rattle.base_types.specs.declared.verdict.placed.WriteLine.{WriteLine}
use Rattle.base_types.specs.declared.verdict.placed.WriteLine.TheVariants as written
use Rattle.history_model.specs.Outcomes.{AreWrites, Write, MadeAt, RemovedIn}
use Rattle.log_context.specs.Histories.{history_of}
use Rattle.log_context.specs.Known.{Known}

-- the write with its key in its one spelling
abbrev pub write_line : Write → WriteLine
write_line (MadeAt revision line key) = written.Made revision line (key_spelling key)
write_line (RemovedIn low high line key) = written.Removed low high line (key_spelling key)

-- the lines of all writes in a window
pub record AreWriteLines (known : Known) (low high : ℕ) (lines : List WriteLine) : Type 0 where
  pub writes : List Write
  pub are : AreWrites (history_of known) low high writes
  pub spelled : lines ≡ map write_line writes
