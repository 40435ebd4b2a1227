use Rattle.std.proofs.lemmas.Result.{IfOk-weaker}
use Rattle.local_bounds.proofs.Lacking.{lacked_is}
use Rattle.local_bounds.proofs.Tests.{ok_both}
use Rattle.local_bounds.proofs.listing.lacked_keys.Goals as goal

pub returns : goal.returns
returns c = IfOk-weaker c.keys_without.result _ _ (λ keys both h p. lacked_is c.args.past.now h p c.args.listing.now c.scope-scope.result.now c.if-not-listing.false c.scope-scope.ensures.exact
    c.args.shown.now c.requires _ both.0 both.1) (ok_both _ _ c.keys_without.result c.keys_without.ensures.order c.keys_without.ensures.exact)
