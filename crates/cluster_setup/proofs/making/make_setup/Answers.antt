use Rattle.std.proofs.Common.{◌≡◌, None, Ok, inl, sym, subst, refl, ◌∙◌}
use Rattle.std.proofs.lemmas.Result.{IfOk-weaker}
use Rattle.timestamps.specs.Timestamps.{moment_of}
use Rattle.setup_file.specs.Reading.{ReadsAs}
use Rattle.cluster_setup.proofs.Same.{reads_as}
use Rattle.cluster_setup.proofs.ToldFacts.{setup_told}
use Rattle.cluster_setup.proofs.making.make_setup.Goals as goal

pub returns-in-Some-clause-told : goal.returns-in-Some-clause-told
returns-in-Some-clause-told c =
    IfOk-weaker c.governed.result _ _
    (λ text made.
    let text_made = made.made.made in
    let shown = text_made.made in
    record {
      given = made.given;
      governed = made.governed;
      trees = made.made.trees;
      read = made.made.read;
      setup = shown.accepted.setup;
      accepted = subst (λ bytes. ReadsAs bytes (Ok shown.accepted.setup)) (sym shown.is) (reads_as _ shown.accepted);
      told = setup_told text_made.revision c.args.time.now made.given made.made.trees c.args.authorize shown.accepted.setup text_made.start shown.accepted.is;
    })
    c.governed.ensures.made

pub returns-in-None-clause-cause : goal.returns-in-None-clause-cause
returns-in-None-clause-cause c =
    let none : moment_of c.args.time.now ≡ None = sym c.read_moment.ensures.moment ∙ c.in-None.is in
    inl (refl, none)
