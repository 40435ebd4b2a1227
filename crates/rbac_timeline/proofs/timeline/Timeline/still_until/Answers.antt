use Rattle.std.proofs.Common.{ℕ, arith}
use Rattle.rbac_timeline.specs.Lasting.{IsStill, NoneBegins, NoneClouded, NoneRemoved}
use Rattle.rbac_timeline.proofs.Throughout.{IsLast-both}
use Rattle.rbac_timeline.proofs.timeline.Timeline.still_until.Goals as goal

pub returns : goal.returns
returns c =
    let known = c.args.self.now in
    let key = c.args.key.now in
    let place = c.args.place in
    let begins = NoneBegins known.versions key place in
    let removed = NoneRemoved known key place in
    IsLast-both (λ (n : ℕ). begins n × removed n) (NoneClouded known key place) (IsStill known key place) place c.args.high _ _ c.min-2.result (omega (arith, c.min-2.ensures))
    (λ n both clear. record { none_begins = both.0; none_removed = both.1; none_clouded = clear }) (λ n still. ((still.none_begins, still.none_removed), still.none_clouded))
    (IsLast-both begins removed (λ (n : ℕ). begins n × removed n) place c.args.high _ _ c.min.result (omega (arith, c.min.ensures)) (λ n a b. (a, b)) (λ n both. both) c.unbegun_until-unbegun.ensures c.unremoved_until-unremoved.ensures)
    c.clear_until-clear.ensures
