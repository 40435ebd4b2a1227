use Rattle.std.proofs.Common.{option_map, ap, sym, ◌∙◌}
use Rattle.object_past.specs.Modelled.{version_of}
use Rattle.object_past.proofs.Looking.{latest_at, latest_before, modelled}
use Rattle.object_past.proofs.past.Past.latest.Goals as goal

pub returns-in_err-entry-clause-latest : goal.returns-in_err-entry-clause-latest
returns-in_err-entry-clause-latest c =
    let entries = rw (← c.self.view_is) at c.entries_of.ensures in
    rw (c.from_residual.ensures, ← c.self.view_is) (sym (latest_before c.self.inside.versions c.args.key.now c.entries_of.result.now c.args.place c.self.invariant.rising entries c.in_err-entry.ensures.none))

pub returns-clause-latest : goal.returns-clause-latest
returns-clause-latest c =
    let entries = rw (← c.self.view_is) at c.entries_of.ensures in
    let found = latest_at c.self.inside.versions c.args.key.now c.entries_of.result.now c.args.place c.in_ok-entry.entry c.self.invariant.rising entries
    c.in_ok-entry.ensures.some c.in_ok-entry.ensures.upto c.in_ok-entry.ensures.last in
    let at = rw c.as_slice-versions.ensures at c.version_at.ensures in
    rw (← c.self.view_is) (modelled c.version_at.result ∙ ap (option_map version_of) (at ∙ found.1) ∙ sym found.2)
