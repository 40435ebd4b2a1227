use Rattle.std.proofs.Common.{◌≡◌}
use Rattle.base_types.proofs.KeyLemmas.{key_from_parts}
use Rattle.clouds.proofs.Adding.{same_key_from}
use Rattle.clouds.specs.Kept.{key_order}
use Rattle.rbac_timeline.proofs.Remembering.{remembered}
use Rattle.rbac_timeline.proofs.pairs.remember.Goals as goal

pub returns-in-Ok : goal.returns-in-Ok
returns-in-Ok c =
    let parts = c.in-Ok.ensures.cases in
    let copy : c.in-Ok.copy ≡ c.args.role.now = key_from_parts _ _ parts.0 parts.1.0 parts.1.1.0 parts.1.1.1 in
    rw (← copy) (remembered key_order same_key_from c.args.firsts.now c.insert-old.new.self c.in-Ok.copy c.args.place c.insert-old.result c.insert-old.ensures.updates c.insert-old.ensures.err)
