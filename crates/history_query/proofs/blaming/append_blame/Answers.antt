use Rattle.std.proofs.Common.{Bor, Option, Some, string_bytes, subst}
use Rattle.std.proofs.lemmas.Result.{IfOk-weaker}
use Rattle.history_query.proofs.BlameFacts.{blame_told}
use Rattle.history_query.specs.Sights.{IsSight}
use Rattle.history_query.specs.declared.sight.ObjectSight.TheVariants.{Told}
use Rattle.object_past.specs.declared.version.Version.{Version}
use Rattle.history_query.proofs.blaming.append_blame.Goals as goal

pub returns-in-Told-Some-default : goal.returns-in-Told-Some-default
returns-in-Told-Some-default c =
    let absent = c.in-Told-Some-default.absent in
    let is = subst (λ (p : Option (Bor Version)). IsSight c.args.context.now c.args.key.now c.args.place (Told p absent)) c.in-Told-Some-default.present-is c.in-Told-Some-default.ensures in
    IfOk-weaker c.append_origin.result _ _
    (λ done blamed. blame_told c.args.context.now c.args.key.now c.args.pointer.now c.args.place (Told (Some c.in-Told-Some-default.version) absent) (string_bytes c.args.text.now)
    (string_bytes c.append_origin.new.text) is blamed)
    c.append_origin.ensures
