use Rattle.std.proofs.Common.{refl, ap, ◌∙◌}
use Rattle.std.specs.Prelude.{option_map}
use Rattle.base_types.proofs.KeyLemmas.{key_from_parts}
use Rattle.history_model.specs.Histories.{Version}
use Rattle.history_model.specs.States.{latest}
use Rattle.setup_file.specs.declared.setup.Setup.{Setup}
use Rattle.log_context.specs.Histories.{history_of}
use Rattle.serial_machine.proofs.Starting.{begun_none, begun_more, begun_all}
use Rattle.serial_machine.proofs.Telling.{lent_revision}
use Rattle.serial_machine.proofs.machine.Machine.start.Goals as goal

pub loop-key-init : goal.loop-key-init
loop-key-init c = begun_none (history_of c.args.context.now) c.new-objects.result c.new-objects.ensures.empty

pub loop-key-preserved : goal.loop-key-preserved
loop-key-preserved c =
    let parts = c.in_ok-clone.ensures.cases in
    begun_more (history_of c.args.context.now) c.keys-keys.result.now c.loop-key.key-index c.key-item.result c.in_ok-clone.field-0 c.revision_of-revision.result c.loop-key.objects c.insert.new.self
    c.loop-key-test.true c.key-item.is (key_from_parts _ _ parts.0 parts.1.0 parts.1.1.0 parts.1.1.1)
    (c.revision_of-revision.ensures ∙ lent_revision c.latest.result ∙ ap (option_map (λ (v : Version). v.revision)) c.latest.ensures.latest
    ∙ ap (λ place. option_map (λ (v : Version). v.revision) (latest (history_of c.args.context.now).versions c.key-item.result place)) (c.get-start.ensures.value ∙ ap (λ (s : Setup). s.start) c.setup.ensures.setup))
    c.in_ok-_none.ensures.updates c.loop-key.invariant

pub returns : goal.returns
returns c = begun_all (history_of c.args.context.now) c.keys-keys.result.now c.loop-key.key-index _ c.args.context.now.versions c.log-log.ensures.readable refl c.loop-key-test.false
    (rw c.past.ensures.versions at c.keys-keys.ensures.exact) c.loop-key.invariant c.in_ok-uses.ensures (c.get-start.ensures.value ∙ ap (λ (s : Setup). s.start) c.setup.ensures.setup)
