use Rattle.std.proofs.Common.{◌≡◌, drop}
use Rattle.std.specs.Prelude.{is_some}
use Rattle.std.specs.List.{list_all}
use Rattle.base_types.specs.Parts.{member_of}
use Rattle.setup_file.proofs.reading.has_each.Given as goal

abbrev pub invariant-loop-name : goal.invariant-loop-name
invariant-loop-name l = list_all (λ name. is_some (member_of name.now l.value)) l.names ≡ list_all (λ name. is_some (member_of name.now l.value)) (drop l.name-index l.names)
