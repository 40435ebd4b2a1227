use Rattle.std.proofs.Common.{sym}
use Rattle.node_pool.proofs.Looks.{member-found, member-absent}
use Rattle.node_pool.proofs.pointing.member.Goals as goal

pub returns-in-Ok-clause-found : goal.returns-in-Ok-clause-found
returns-in-Ok-clause-found c =
    let s = c.args.store.now in
    let e = c.in-Ok.ensures in
    member-found s.names s.trees c.args.name.now c.args.numbers.now.items c.in-Ok.at c.index.result.now c.requires.sorted c.requires.within e.within e.found c.index.ensures

pub returns-in-Err-clause-found : goal.returns-in-Err-clause-found
returns-in-Err-clause-found c =
    let s = c.args.store.now in
    let e = c.in-Err.ensures in
    sym (member-absent s.names s.trees c.args.name.now c.args.numbers.now.items c.in-Err.field-0 c.requires.sorted e.within e.found)
