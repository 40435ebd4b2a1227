use Rattle.std.proofs.Common.{sym}
use Rattle.log_context.proofs.build.parts_of.Goals as goal

pub returns-clause-same : goal.returns-clause-same
returns-clause-same c = λ i. record {
  order = c.args.found.order;
  windows = c.args.found.windows;
  clouds = c.args.found.clouds;
  groups = c.args.found.groups;
  versions = sym c.in-Ok.ensures.versions i;
  judged = c.args.found.judged;
  removals = sym c.in-Ok.ensures.removals i;
}
