use Rattle.clouds.proofs.Fronts.{AddsWide-made}
use Rattle.clouds.proofs.Numbering.{IsNumbered-kept}
use Rattle.clouds.proofs.wide.Wide.add.Goals as goal

pub returns : goal.returns
returns c =
    let kept = c.in_ok-front.ensures.kept in
    let scope = c.in_ok-scope.ensures in
    let front = rw c.front_of_cover-text.ensures at c.in_ok-front.ensures.number in
    let length = rw c.front_of_cover-text.ensures at c.in_ok-add_length.ensures in
    AddsWide-made c.args.self.now _ c.args.span.now c.in_ok-scope.scope c.in_ok-front.front (λ text number was. kept text number (scope.kept text number was))
    (kept _ _ scope.group) (kept _ _ scope.resource) (IsNumbered-kept c.give_scope.new.numbers c.give_number.new.numbers _ _ kept scope.namespace) front length c.in_ok-add_span.ensures
