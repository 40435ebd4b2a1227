use Rattle.std.proofs.Common.{List, refl, subst}
use Rattle.object_past.specs.declared.version.Version.{Version}
use Rattle.log_context.specs.Histories.{history_of}
use Rattle.log_context.specs.Uses.{AreUses}
use Rattle.log_context.proofs.Using.{used_in}
use Rattle.log_context.proofs.uses.FirstUses.of.Goals as goal

pub returns : goal.returns
returns c = λ m.
    let are = subst (λ (vs : List Version). AreUses vs c.in_ok-revisions.revisions) c.versions.ensures.versions c.in_ok-revisions.ensures in
    used_in (history_of c.args.context.now) c.args.context.now.versions refl m _ (are m.item.uid m.item.revision)
