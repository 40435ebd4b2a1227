use Rattle.std.proofs.Common.{refl, sym, ◌∙◌}
use Rattle.setup_file.specs.Resources.{entry_of, entries_in}
use Rattle.setup_file.proofs.Gathered.{gathered}
use Rattle.setup_file.proofs.resources.read_entries.Goals as goal

pub loop-value-preserved : goal.loop-value-preserved
loop-value-preserved c =
    rw c.in_ok-push.ensures.items
    (gathered entry_of entries_in (λ x xs. refl) _ c.args.values.now c.loop-value.value-index c.value-item.result c.loop-value.entries.items c.in-Some.entry c.loop-value-test.true c.value-item.is
    (sym c.in_ok-entry.ensures.entry ∙ c.in-Some.is) c.loop-value.invariant)
