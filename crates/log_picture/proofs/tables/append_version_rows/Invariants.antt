use Rattle.std.proofs.Common.{◌≡◌, ◌++◌, map, take, string_bytes}
use Rattle.std.specs.List.{flat_map}
use Rattle.log_picture.specs.Revised.{version_row}
use Rattle.log_picture.proofs.tables.append_version_rows.Given as goal

abbrev pub invariant-loop-version : goal.invariant-loop-version
invariant-loop-version l = string_bytes l.text ≡ string_bytes l.initial.text ++ flat_map (version_row l.log) (map (λ one. one.now) (take l.version-index l.versions))
