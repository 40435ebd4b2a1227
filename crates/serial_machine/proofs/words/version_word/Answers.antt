use Rattle.std.proofs.Common.{sym}
use Rattle.object_past.specs.Modelled.{version_of}
use Rattle.write_groups.specs.Modelled.{item_of}
use Rattle.serial_machine.proofs.Wording.{found, made, strays}
use Rattle.serial_machine.proofs.words.version_word.Goals as goal
use Rattle.serial_machine.specs.Words.{making}

pub returns-then-not-same_key : goal.returns-then-not-same_key
returns-then-not-same_key c = λ event created. strays (making c.args.number event (item_of c.args.item.now) created) (version_of c.args.version.now) c.same_key.result c.same_key.ensures c.if-not-same_key.true

pub returns-then-not-is_made_by : goal.returns-then-not-is_made_by
returns-then-not-is_made_by c = λ event created. found (making c.args.number event (item_of c.args.item.now) created) (version_of c.args.version.now) c.same_key.result c.same_key.ensures
    c.is_made_by.result c.is_made_by.ensures c.if-not-same_key.false c.if-not-is_made_by.true

pub returns : goal.returns
returns c = λ event created. (
  making c.args.number event (item_of c.args.item.now) created,
  made (making c.args.number event (item_of c.args.item.now) created) (version_of c.args.version.now) c.same_key.result c.same_key.ensures
      c.is_made_by.result c.is_made_by.ensures c.if-not-same_key.false c.if-not-is_made_by.false,
  sym c.get.ensures.value,
)
