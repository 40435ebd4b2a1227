use Rattle.std.proofs.Common.{◌≡◌, ◌++◌, take, string_bytes}
use Rattle.log_sift.specs.Telling.{left_lines_text}
use Rattle.log_sift.proofs.telling.append_left_lines.Given as goal

abbrev pub invariant-loop-left : goal.invariant-loop-left
invariant-loop-left l = string_bytes l.text ≡ string_bytes l.initial.text ++ left_lines_text (take l.left-index l.lines)
