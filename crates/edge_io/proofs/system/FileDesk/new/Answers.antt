use Rattle.std.proofs.Common.{subst}
use Rattle.std.proofs.lemmas.List.{take_all}
use Rattle.edge_io.specs.Sources.{HoldsNames}
use Rattle.edge_io.proofs.HeldNames.{no_names, next_name}
use Rattle.edge_io.proofs.system.FileDesk.new.Goals as goal

pub loop-name-init : goal.loop-name-init
loop-name-init g c = no_names c.new-sources.result c.new-sources.ensures.empty

pub loop-name-preserved : goal.loop-name-preserved
loop-name-preserved g c =
    next_name c.args.names.now c.loop-name.name-index c.name-item.result c.in_ok-clone.field-0 c.loop-name.sources c.insert.new.self c.loop-name-test.true c.name-item.is c.in_ok-clone.ensures.cases c.loop-name.invariant
    c.in_ok-insert.ensures.updates

pub returns-clause-names : goal.returns-clause-names
returns-clause-names g c = subst (λ names. HoldsNames names c.loop-name.sources) (take_all c.loop-name.name-index c.args.names.now c.loop-name-test.false) c.loop-name.invariant
