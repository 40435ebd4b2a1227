-- The window of an answer that names its revision exactly.
use Rattle.std.specs.Prelude.{ℕ, ◌&&◌, nat_le, if◌then◌else◌}
use Rattle.write_groups.specs.declared.window.Window.{Window}

-- one place, where it is reached; else an empty window
abbrev pub exact_window : (start revision high : ℕ) → Window
exact_window start revision high = if nat_le start revision && nat_le revision high then record { low = revision; high = revision } else record { low = 1; high = 0 }
