use Rattle.std.proofs.Common.{◌≡◌, ◌++◌, filter, take, string_bytes}
use Rattle.std.specs.List.{flat_map}
use Rattle.base_types.specs.Keys.{same_key}
use Rattle.history_query.specs.Versions.{version_lines}
use Rattle.history_query.proofs.listing.append_versions.Given as goal

abbrev pub invariant-loop-version : goal.invariant-loop-version
invariant-loop-version l = string_bytes l.text ≡ string_bytes l.initial.text ++ flat_map (version_lines l.context) (filter (λ v. same_key v.key l.key) (take l.version-index l.version-items))
