use Rattle.std.proofs.Common.{rules, Some}
use Rattle.edge_io.proofs.SourceFacts.{others_left}
use Rattle.edge_io.proofs.system.read_named.Goals as goal

pub returns-in-Some-clause-others : goal.returns-in-Some-clause-others
returns-in-Some-clause-others g c =
    let left = c.read_source.new.source in
    let writes = c.get_mut.follows.holds left in
    others_left g.R.File.Read.remaining g.R.Reader.Read.remaining c.args.sources.now (c.get_mut.follows.lender left) c.args.name.now (Some left) (writes.3 (search rules))
