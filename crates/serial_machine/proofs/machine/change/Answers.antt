use Rattle.std.proofs.Common.{◌≡◌, Some, IsSome, subst, sym}
use Rattle.std.specs.BTreeMap.{Updates, get}
use Rattle.clouds.specs.Kept.{key_order}
use Rattle.history_model.specs.Machine as model
use Rattle.object_past.specs.Modelled.{recorded, version_of}
use Rattle.serial_machine.specs.Held.{objects_in}
use Rattle.serial_machine.specs.Stepping.{IsOfHistory, step_of}
use Rattle.serial_machine.proofs.Changing.{put_changes, put_rooms, removal_changes, removal_rooms}
use Rattle.serial_machine.proofs.machine.change.Goals as goal

pub returns-in-Put-clause-rooms : goal.returns-in-Put-clause-rooms
returns-in-Put-clause-rooms c = λ h known r rooms.
    let held = subst (λ n. IsSome (get key_order c.args.objects.now c.in-Put.version.now.key) → Updates key_order c.args.objects.now c.hold.new.objects c.in-Put.version.now.key (Some (Some n))) c.get.ensures.value c.hold.ensures in
    put_rooms h c.args.objects.now c.hold.new.objects (version_of c.in-Put.version.now) r (subst (λ s. IsOfHistory h (step_of s)) c.in-Put.is known) held rooms

pub returns-in-Put-clause-objects : goal.returns-in-Put-clause-objects
returns-in-Put-clause-objects c = λ h key known r rooms.
    let held = subst (λ n. IsSome (get key_order c.args.objects.now c.in-Put.version.now.key) → Updates key_order c.args.objects.now c.hold.new.objects c.in-Put.version.now.key (Some (Some n))) c.get.ensures.value c.hold.ensures in
    subst (λ s. objects_in h c.hold.new.objects key ≡ model.after (objects_in h c.args.objects.now) (step_of s) key) (sym c.in-Put.is)
    (put_changes h c.args.objects.now c.hold.new.objects (version_of c.in-Put.version.now) r (subst (λ s. IsOfHistory h (step_of s)) c.in-Put.is known) held rooms key)

pub returns-in-Remove-clause-rooms : goal.returns-in-Remove-clause-rooms
returns-in-Remove-clause-rooms c = λ h known r rooms. removal_rooms h c.args.objects.now c.hold-in-Remove.new.objects (record { removal = recorded c.in-Remove.removal.now; place = c.in-Remove.place }) r
    (subst (λ s. IsOfHistory h (step_of s)) c.in-Remove.is known) c.hold-in-Remove.ensures rooms

pub returns-in-Remove-clause-objects : goal.returns-in-Remove-clause-objects
returns-in-Remove-clause-objects c = λ h key known r rooms.
    subst (λ s. objects_in h c.hold-in-Remove.new.objects key ≡ model.after (objects_in h c.args.objects.now) (step_of s) key) (sym c.in-Remove.is)
    (removal_changes h c.args.objects.now c.hold-in-Remove.new.objects (record { removal = recorded c.in-Remove.removal.now; place = c.in-Remove.place }) r
    (subst (λ s. IsOfHistory h (step_of s)) c.in-Remove.is known) c.hold-in-Remove.ensures rooms key)
