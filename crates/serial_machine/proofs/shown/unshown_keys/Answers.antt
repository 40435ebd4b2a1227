use Rattle.serial_machine.proofs.Showing.{unshown}
use Rattle.serial_machine.proofs.shown.unshown_keys.Goals as goal

pub returns : goal.returns
returns c = unshown c.args.past.now c.args.listing.now c.scope-scope.result.now c.args.shown.now c.requires c.scope-scope.ensures.exact (λ keys. keys.items) c.keys_without.result c.keys_without.ensures.exact
