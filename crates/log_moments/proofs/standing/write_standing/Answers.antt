use Rattle.std.proofs.Common.{◌∙◌, arith, Some, None}
use Rattle.event_claims.proofs.Wording.{making, old_write, new_write, stray_is, found_is, made_is}
use Rattle.history_model.specs.Events.{Made}
use Rattle.object_past.specs.Modelled.{version_of}
use Rattle.write_groups.specs.Modelled.{item_of}
use Rattle.log_moments.proofs.Placing.{shows_at, stray_has_none, writes_at}
use Rattle.log_moments.proofs.standing.write_standing.Goals as goal

pub returns-then-revision-get : goal.returns-then-revision-get
returns-then-revision-get c = λ h event created s p.
    let item = item_of c.args.item.now in
    shows_at h event item created _
    (old_write c.args.past.now h p c.args.start s c.args.number event item created c.get-revision.result c.get-revision.ensures.value (omega (arith, c.if-revision-get.true, c.get.ensures.value)))

pub returns-in_default : goal.returns-in_default
returns-in_default c = λ h event created s p.
    let item = item_of c.args.item.now in
    shows_at h event item created _
    (new_write c.args.past.now h p c.args.start s c.args.number event item created c.get-revision.result c.get-revision.ensures.value (omega (arith, c.if-revision-get.false, c.get.ensures.value)) None c.in_default.ensures)

pub returns-then-not-same_key : goal.returns-then-not-same_key
returns-then-not-same_key c = λ h event created s p.
    let item = item_of c.args.item.now in
    stray_has_none h event (Made item created) _
    (new_write c.args.past.now h p c.args.start s c.args.number event item created c.get-revision.result c.get-revision.ensures.value (omega (arith, c.if-revision-get.false, c.get.ensures.value)) (Some c.in-Some.version.now) c.in-Some.ensures
    ∙ stray_is (making c.args.number event item created) (version_of c.in-Some.version.now) c.same_key.result c.same_key.ensures c.if-not-same_key.true)

pub returns-then-not-is_maker : goal.returns-then-not-is_maker
returns-then-not-is_maker c = λ h event created s p.
    let item = item_of c.args.item.now in
    shows_at h event item created _
    (new_write c.args.past.now h p c.args.start s c.args.number event item created c.get-revision.result c.get-revision.ensures.value (omega (arith, c.if-revision-get.false, c.get.ensures.value)) (Some c.in-Some.version.now) c.in-Some.ensures
    ∙ found_is (making c.args.number event item created) (version_of c.in-Some.version.now) c.same_key.result c.is_maker.result c.same_key.ensures c.if-not-same_key.false c.is_maker.ensures c.if-not-is_maker.true)

pub returns : goal.returns
returns c = λ h event created s p.
    let item = item_of c.args.item.now in
    writes_at h event (Made item created) _ (making c.args.number event item created) c.get-revision.result
    (new_write c.args.past.now h p c.args.start s c.args.number event item created c.get-revision.result c.get-revision.ensures.value (omega (arith, c.if-revision-get.false, c.get.ensures.value)) (Some c.in-Some.version.now) c.in-Some.ensures
    ∙ made_is (making c.args.number event item created) (version_of c.in-Some.version.now) c.same_key.result c.is_maker.result c.same_key.ensures c.if-not-same_key.false c.is_maker.ensures c.if-not-is_maker.false)
    c.get-revision.ensures.value
