use Rattle.std.proofs.Common.{refl, sym, ◌∙◌}
use Rattle.setup_file.specs.Snapshots.{snapshot_entry_of, snapshot_in}
use Rattle.setup_file.proofs.Gathered.{gathered}
use Rattle.setup_file.proofs.snapshot.read_entries.Goals as goal

pub loop-value-preserved : goal.loop-value-preserved
loop-value-preserved c =
    rw c.in_ok-push.ensures.ok
    (gathered (snapshot_entry_of c.args.resources.now) (snapshot_in c.args.resources.now) (λ x xs. refl) _ c.args.values.now c.loop-value.value-index c.value-item.result c.loop-value.objects c.in-Some.object c.loop-value-test.true c.value-item.is
    (sym c.in_ok-object.ensures ∙ c.in-Some.is) c.loop-value.invariant)
