use Rattle.base_types.proofs.Printing.{read_backs}
use Rattle.base_types.proofs.json.values.to_value.Goals as goal

pub returns-clause-reads_back : goal.returns-clause-reads_back
returns-clause-reads_back c = read_backs c.value_of.result c.args.tree.now c.value_of.ensures
