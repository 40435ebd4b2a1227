use Rattle.std.proofs.Common.{◌≡◌, ◌≢◌, ◌++◌, [], take, string_bytes, true, false}
use Rattle.std.specs.List.{join_with_byte}
use Rattle.case_maker.specs.Bodies.{present_texts}
use Rattle.case_maker.proofs.bodies.append_present.Given as goal

abbrev pub invariant-loop-name : goal.invariant-loop-name
invariant-loop-name l = record {
  written : string_bytes l.log ≡ string_bytes l.initial.log ++ join_with_byte 44 (present_texts (take l.name l.objects));
  empty : l.follows ≡ false → present_texts (take l.name l.objects) ≡ [];
  some : l.follows ≡ true → present_texts (take l.name l.objects) ≢ [];
}
