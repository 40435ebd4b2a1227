use Rattle.std.proofs.Common.{[], ap, ◌∙◌, string_bytes}
use Rattle.std.specs.Prelude.{map, unwrap_or}
use Rattle.std.specs.List.{slice_get}
use Rattle.cluster_setup.proofs.Named.{name_found, name_missed}
use Rattle.cluster_setup.proofs.telling.name_at.Goals as goal

pub returns-in-Some : goal.returns-in-Some
returns-in-Some c =
    let names = c.args.names.now in
    let lookup = c.in-Some.ensures.lookup in
    c.deref.ensures ∙ name_found string_bytes names c.saturating_sub.result c.in-Some.name.now lookup.3.0 lookup.1
    ∙ ap (λ i. unwrap_or (slice_get (map string_bytes names) i) []) c.saturating_sub.ensures

pub returns-in-None : goal.returns-in-None
returns-in-None c =
    let names = c.args.names.now in
    name_missed string_bytes names c.saturating_sub.result c.in-None.ensures.lookup.3
    ∙ ap (λ i. unwrap_or (slice_get (map string_bytes names) i) []) c.saturating_sub.ensures
