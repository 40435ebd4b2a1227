use Rattle.std.proofs.Common.{◌≡◌}
use Rattle.base_types.proofs.KeyLemmas.{key_from_parts}
use Rattle.rbac_timeline.proofs.Rising.{AreRising-insert, HasOneMore-insert, HasOneMore-same, found_key}
use Rattle.rbac_timeline.proofs.index.Keys.add.Goals as goal

pub returns-in-Ok : goal.returns-in-Ok
returns-in-Ok c =
    let bound = rw c.deref.ensures.value at c.in-Ok.ensures.bound in
    let tied = rw c.deref.ensures.value at c.in-Ok.ensures.ok in
    rw (← c.self.view_is) (HasOneMore-same _ _ (found_key c.self.inside.keys.items c.args.key.now c.in-Ok.field-0 bound tied))

pub invariant_of-self : goal.invariant_of-self
invariant_of-self c =
    let bound = rw c.deref.ensures.value at c.in-Err.ensures.bound in
    let searched = rw c.deref.ensures.value at c.in-Err.ensures.position in
    let parts = c.in_ok-copy-in-Err.ensures.cases in
    let copy : c.in_ok-copy-in-Err.copy ≡ c.args.key.now = key_from_parts _ _ parts.0 parts.1.0 parts.1.1.0 parts.1.1.1 in
    rw (c.in_ok-insert-in-Err.ensures.items, copy) (AreRising-insert c.self.inside.keys.items c.args.key.now c.in-Err.place bound c.self.invariant searched)

pub returns : goal.returns
returns c =
    let parts = c.in_ok-copy-in-Err.ensures.cases in
    let copy : c.in_ok-copy-in-Err.copy ≡ c.args.key.now = key_from_parts _ _ parts.0 parts.1.0 parts.1.1.0 parts.1.1.1 in
    rw (c.in_ok-insert-in-Err.ensures.items, ← c.self.view_is, copy) (HasOneMore-insert c.self.inside.keys.items c.in-Err.place c.args.key.now)
