use Rattle.label_select.specs.declared.bytes.Class.TheVariants.{Value}
use Rattle.label_select.proofs.Steps.{front-ascii}
use Rattle.label_select.proofs.reading.read_value.Goals as goal

pub word-requires : goal.word-requires
word-requires c = rw c.front.ensures (front-ascii Value c.behind-begun.result.now)
