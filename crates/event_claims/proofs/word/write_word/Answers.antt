use Rattle.std.proofs.Common.{◌∙◌, sym, arith, Some, None}
use Rattle.object_past.specs.Modelled.{version_of}
use Rattle.write_groups.specs.Modelled.{item_of}
use Rattle.event_claims.proofs.Wording.{making, old_write, new_write, stray_is, found_is, made_is}
use Rattle.event_claims.proofs.word.write_word.Goals as goal

pub returns-then-revision-get : goal.returns-then-revision-get
returns-then-revision-get c = λ h event created s p. old_write c.args.past.now h p c.args.start s c.args.number event (item_of c.args.item.now) created c.get-revision.result c.get-revision.ensures.value (omega (arith, c.if-revision-get.true, c.get.ensures.value))

pub returns-in_default : goal.returns-in_default
returns-in_default c = λ h event created s p. new_write c.args.past.now h p c.args.start s c.args.number event (item_of c.args.item.now) created c.get-revision.result c.get-revision.ensures.value (omega (arith, c.if-revision-get.false, c.get.ensures.value)) None c.in_default.ensures

pub returns-then-not-same_key : goal.returns-then-not-same_key
returns-then-not-same_key c = λ h event created s p.
    new_write c.args.past.now h p c.args.start s c.args.number event (item_of c.args.item.now) created c.get-revision.result c.get-revision.ensures.value (omega (arith, c.if-revision-get.false, c.get.ensures.value)) (Some c.in-Some.version.now) c.in-Some.ensures
    ∙ stray_is (making c.args.number event (item_of c.args.item.now) created) (version_of c.in-Some.version.now) c.same_key.result c.same_key.ensures c.if-not-same_key.true

pub returns-then-not-is_maker : goal.returns-then-not-is_maker
returns-then-not-is_maker c = λ h event created s p.
    new_write c.args.past.now h p c.args.start s c.args.number event (item_of c.args.item.now) created c.get-revision.result c.get-revision.ensures.value (omega (arith, c.if-revision-get.false, c.get.ensures.value)) (Some c.in-Some.version.now) c.in-Some.ensures
    ∙ found_is (making c.args.number event (item_of c.args.item.now) created) (version_of c.in-Some.version.now) c.same_key.result c.is_maker.result c.same_key.ensures c.if-not-same_key.false c.is_maker.ensures c.if-not-is_maker.true

pub returns : goal.returns
returns c = λ h event created s p. (
  making c.args.number event (item_of c.args.item.now) created,
  new_write c.args.past.now h p c.args.start s c.args.number event (item_of c.args.item.now) created c.get-revision.result c.get-revision.ensures.value (omega (arith, c.if-revision-get.false, c.get.ensures.value)) (Some c.in-Some.version.now) c.in-Some.ensures
      ∙ made_is (making c.args.number event (item_of c.args.item.now) created) (version_of c.in-Some.version.now) c.same_key.result c.is_maker.result c.same_key.ensures c.if-not-same_key.false c.is_maker.ensures c.if-not-is_maker.false,
  sym c.get-revision.ensures.value,
)
