use Rattle.std.proofs.Common.{subst, sym}
use Rattle.std.specs.Prelude.{All}
use Rattle.std.proofs.lemmas.List.Elements.{All-append}
use Rattle.setup_file.specs.Sound.{IsLaterList}
use Rattle.context_intake.proofs.chained.with_chains.Goals as goal

pub returns-clause-sound : goal.returns-clause-sound
returns-clause-sound c =
    let given = c.requires.setup in
    let setup = c.args.setup in
    let IsLater = IsLaterList setup.start setup.resources in
    record {
      slack = given.slack;
      lag = given.lag;
      start_time = given.start_time;
      until = given.until;
      resources = given.resources;
      snapshot = given.snapshot;
      trees = given.trees;
      few = given.few;
      checkpoints = subst (All IsLater) (sym c.in_ok-put_behind.ensures)
          (All-append IsLater setup.checkpoints c.in_ok-found.found given.checkpoints (c.in_ok-found.ensures.sound c.requires.events.sound));
    }
