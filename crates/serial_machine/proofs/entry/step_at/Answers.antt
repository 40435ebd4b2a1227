use Rattle.std.proofs.Common.{◌==◌, find, refl, ap, ◌∙◌}
use Rattle.object_past.specs.declared.removal.Removal.{Removal}
use Rattle.object_past.specs.declared.version.Version.{Version}
use Rattle.log_context.specs.Histories.{history_of}
use Rattle.serial_machine.proofs.Entering.{made_step, unmade_step, removal_step, no_removal}
use Rattle.serial_machine.proofs.entry.step_at.Goals as goal

pub returns-in-Some-clause-some : goal.returns-in-Some-clause-some
returns-in-Some-clause-some c = λ event known.
    let said = rw c.in-Makes.is at c.word_at.ensures event known in
    made_step (history_of c.args.context.now) c.args.context.now.versions c.args.number event c.args.place c.in-Makes.revision said.0 c.in-Some.version.now refl said.1 said.2
    (c.in-Some.ensures ∙ ap (find (λ (v : Version). v.revision == c.in-Makes.revision)) c.past-past.ensures.versions)

pub returns-in-None-clause-none : goal.returns-in-None-clause-none
returns-in-None-clause-none c = λ event step known as'.
    let said = rw c.in-Makes.is at c.word_at.ensures event known in
    unmade_step (history_of c.args.context.now) c.args.context.now.versions c.args.number event c.args.place c.in-Makes.revision said.0 step refl said.1 said.2
    (c.in-None.ensures ∙ ap (find (λ (v : Version). v.revision == c.in-Makes.revision)) c.past-past.ensures.versions) as'

pub returns-in-Some-removal_by-clause-some : goal.returns-in-Some-removal_by-clause-some
returns-in-Some-removal_by-clause-some c = λ event known.
    let said = rw c.in-Removes.is at c.word_at.ensures event known in
    removal_step (history_of c.args.context.now) c.args.context.now.removals c.args.number event c.args.place said.0 c.log-log.ensures.readable refl said.1 c.in-Some-removal_by.removal.now
    (c.in-Some-removal_by.ensures ∙ ap (find (λ (r : Removal). r.range.event == c.args.number)) c.past-past.ensures.removals)

pub returns-in-None-removal_by-clause-none : goal.returns-in-None-removal_by-clause-none
returns-in-None-removal_by-clause-none c = λ event step known as'.
    let said = rw c.in-Removes.is at c.word_at.ensures event known in
    no_removal (history_of c.args.context.now) c.args.context.now.removals c.args.number event c.args.place said.0 c.log-log.ensures.readable refl said.1
    (c.in-None-removal_by.ensures ∙ ap (find (λ (r : Removal). r.range.event == c.args.number)) c.past-past.ensures.removals)
