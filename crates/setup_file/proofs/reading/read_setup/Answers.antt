use Rattle.std.proofs.Common.{inl, sym, ap, ◌∙◌}
use Rattle.std.proofs.lemmas.Result.{IfOk-weaker}
use Rattle.setup_file.specs.Reading.{setup_of}
use Rattle.setup_file.proofs.SoundSetup.{setup_is_sound}
use Rattle.setup_file.proofs.reading.read_setup.Goals as goal

pub returns-clause-setup : goal.returns-clause-setup
returns-clause-setup c =
    let same = sym (ap setup_of c.root.ensures) in
    IfOk-weaker c.setup_of.result _ _ (λ setup e. inl (c.in_ok-packed.packed, c.in_ok-packed.ensures.tree, same ∙ e)) c.setup_of.ensures.setup

pub returns-clause-sound : goal.returns-clause-sound
returns-clause-sound c =
    let same = sym (ap setup_of c.root.ensures) in
    λ short. IfOk-weaker c.setup_of.result _ _ (λ setup e. setup_is_sound c.args.bytes.now c.in_ok-packed.packed setup c.in_ok-packed.ensures.tree short c.in_ok-packed.ensures.range (same ∙ e)) c.setup_of.ensures.setup
