use Rattle.local_bounds.specs.Sights.{IsSeenWithin}
use Rattle.local_bounds.proofs.Holding.{holds_key}
use Rattle.local_bounds.proofs.place.is_seen_upto.Goals as goal

pub returns : goal.returns
returns c = λ h p chosen.
    let holds = holds_key h c.args.key.now (λ choice. IsSeenWithin h choice c.args.key.now c.args.sight c.args.low c.args.high) c.seen_within.result c.args.choice.now chosen (c.seen_within.ensures h p) in
    ((λ t. holds.0 (c.holds.ensures.0 t)), λ s. c.holds.ensures.1 (holds.1 s))
