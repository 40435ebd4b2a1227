use Rattle.std.proofs.Common.{refl, ap}
use Rattle.setup_file.specs.declared.setup.Setup.{Setup}
use Rattle.context_claims.proofs.Viewing.{viewed}
use Rattle.context_claims.proofs.judge.view_of.Goals as goal

pub returns-clause-view : goal.returns-clause-view
returns-clause-view c = viewed c.args.judge.now.context.now _ (record {
  start = ap (λ (s : Setup). s.start) c.setup-setup.ensures.setup;
  lag = ap (λ (s : Setup). s.lag) c.setup-setup.ensures.setup;
  log = c.log.ensures.log;
  from = c.windows.ensures.start;
  spans = c.windows.ensures.spans;
  clouds = c.clouds.ensures;
  versions = c.past.ensures.versions;
  removals = c.past.ensures.removals;
  lists = refl;
  decisions = refl;
  readable = c.log.ensures.readable;
  moments = c.log.ensures.moments;
})
