use Rattle.std.proofs.Common.{◌≡◌, ◌++◌, take, string_bytes}
use Rattle.log_moments.specs.Texts.{lines_text}
use Rattle.log_moments.proofs.text.append_lines.Given as goal

abbrev pub invariant-loop-line : goal.invariant-loop-line
invariant-loop-line l = string_bytes l.text ≡ string_bytes l.initial.text ++ lines_text (take l.line-index l.lines)
