use Rattle.std.proofs.Common.{◌≡◌, ◌++◌, ℕ, List}
use Rattle.std.specs.Fmt.{HasWritten, IsPlainFormatter}
use Rattle.std.specs.Str.Iter.{chars_rest}
use Rattle.markup.specs.Escaping.{escaped}
use Rattle.markup.proofs.escaping.EscapedTextDisplay.fmt.Given as goal

abbrev pub invariant-loop-c : goal.invariant-loop-c
invariant-loop-c g l =
    IsPlainFormatter l.initial.f → (written : List ℕ) × (written ++ escaped (chars_rest l.c-iterator) ≡ escaped l.self.0.now) × HasWritten g.W.Write.write_str_gives l.initial.f written l.f
