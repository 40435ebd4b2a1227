use Rattle.borrowed_json.specs.View.{view}
use Rattle.batch_decode.proofs.ListLemmas.{listed_value}
use Rattle.batch_decode.proofs.line.decode_value.Goals as goal

pub returns-in-Some-clause-decodes : goal.returns-in-Some-clause-decodes
returns-in-Some-clause-decodes c = listed_value c.in-Some.list.now.items (view c.args.value.now) c.decode_items.result c.in-Some.ensures c.decode_items.ensures.decodes
