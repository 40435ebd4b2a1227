use Rattle.std.proofs.Common.{◌≡◌, drop}
use Rattle.base_types.specs.Meaning.{fields_of}
use Rattle.path_shape.specs.Forms.{thin_fields}
use Rattle.path_shape.proofs.part.+silence.Given as goal

abbrev pub invariant-are_silent-loop-member : goal.invariant-are_silent-loop-member
invariant-are_silent-loop-member l = thin_fields (fields_of l.member-items) ≡ thin_fields (fields_of (drop l.member-index l.member-items))
