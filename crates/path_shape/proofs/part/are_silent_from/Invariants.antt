use Rattle.std.proofs.Common.{◌≡◌, drop}
use Rattle.base_types.specs.Meaning.{fields_of}
use Rattle.path_shape.specs.Forms.{thin_fields}
use Rattle.path_shape.proofs.part.are_silent_from.Given as goal

abbrev pub invariant-loop-i : goal.invariant-loop-i
invariant-loop-i l = thin_fields (fields_of (drop l.index l.list-inside.all.items)) ≡ thin_fields (fields_of (drop l.i l.list-inside.all.items))
