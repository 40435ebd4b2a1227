use Rattle.borrowed_json.proofs.Depths.{read_nests}
use Rattle.borrowed_json.proofs.value.JsonValue.read.Goals as goal

pub returns-in-Ok-clause-nests : goal.returns-in-Ok-clause-nests
returns-in-Ok-clause-nests c = read_nests c.in-Ok.text.now c.read_str.result c.read_str.ensures.ok
