use Rattle.std.proofs.Common.{◌≡◌, refl, sym}
use Rattle.std.proofs.lemmas.Bool.{both_ways}
use Rattle.base_types.proofs.KeyLemmas.{key_from_parts}
use Rattle.rbac_timeline.specs.Unsure.{GivesUnsure}
use Rattle.rbac_timeline.proofs.Gathering.{AreGathered-more, AreGathered-skip}
use Rattle.rbac_timeline.proofs.unsure.keys_of_versions.Goals as goal
use Rattle.rbac_timeline.proofs.unsure.keys_of_versions.Goals.{then-may_be_unsure+in_ok-clone+in_ok-push, else-may_be_unsure}

pub loop-version-preserved : goal.loop-version-preserved
loop-version-preserved c = elim c.if-may_be_unsure.branch [
  | then-may_be_unsure+in_ok-clone+in_ok-push w ↦
      let parts = w.in_ok-clone.ensures.cases in
      let copy : w.in_ok-clone.field-0 ≡ c.version-item.result.key = key_from_parts _ _ parts.0 parts.1.0 parts.1.1.0 parts.1.1.1 in
      rw (w.keys-is, w.in_ok-push.ensures.items, copy)
      (AreGathered-more (GivesUnsure c.args.clouds.now) c.args.versions.now _ c.version-item.result _ c.version-item.result.key c.loop-version-test.true c.version-item.is c.loop-version.invariant
      (c.may_be_unsure.ensures.0 w.if-may_be_unsure.true, refl) (λ z gives. sym gives.1))
  | else-may_be_unsure w ↦
      rw w.keys-is
      (AreGathered-skip (GivesUnsure c.args.clouds.now) c.args.versions.now _ c.version-item.result _ c.loop-version-test.true c.version-item.is c.loop-version.invariant
      (λ z gives. both_ways _ w.if-may_be_unsure.false (c.may_be_unsure.ensures.1 gives.0)))
]
