-- What windows are made of: the start, and the spans of the writes behind it.
use Rattle.std.specs.Prelude.{ℕ, List}
use Rattle.time_windows.specs.declared.span.Span.{Span}

-- where recorded writes begin, and the spans of those behind it
pub record History : Type 0 where
  pub start : ℕ
  pub spans : List Span
