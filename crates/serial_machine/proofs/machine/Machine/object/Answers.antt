use Rattle.std.proofs.Common.{◌==◌, find, refl, ap, ◌∙◌}
use Rattle.std.specs.Prelude.{option_and_then}
use Rattle.history_model.specs.Histories.{Version}
use Rattle.object_past.specs.declared.version.Version as past
use Rattle.log_context.specs.Histories.{history_of}
use Rattle.serial_machine.proofs.Telling.{version_found}
use Rattle.serial_machine.proofs.machine.Machine.object.Goals as goal

pub returns-in_default : goal.returns-in_default
returns-in_default c = ap (option_and_then (λ revision. find (λ (v : Version). v.revision == revision) (history_of c.args.context.now).versions)) c.in_default.ensures

pub returns : goal.returns
returns c = version_found (history_of c.args.context.now) c.args.context.now.versions c.in-Some.revision c.at.result refl
    (c.at.ensures ∙ ap (find (λ (v : past.Version). v.revision == c.in-Some.revision)) c.past.ensures.versions)
    ∙ ap (option_and_then (λ revision. find (λ (v : Version). v.revision == revision) (history_of c.args.context.now).versions)) c.in-Some.ensures
