use Rattle.label_select.specs.declared.bytes.Class.TheVariants.{Key}
use Rattle.label_select.proofs.Steps.{front-ascii}
use Rattle.label_select.proofs.reading.read_key.Goals as goal

pub word-requires : goal.word-requires
word-requires c = rw c.front-key.ensures (front-ascii Key c.args.bytes.now)
