use Rattle.std.proofs.Common.{inl, sym, ◌∙◌}
use Rattle.std.proofs.lemmas.Bool.{both_ways}
use Rattle.history_model.specs.States.{state}
use Rattle.write_groups.specs.Modelled.{item_of}
use Rattle.local_bounds.proofs.Asks.{asks_same}
use Rattle.local_bounds.proofs.Demands.{shows_is, not_shown}
use Rattle.local_bounds.proofs.demand.shown_asking.Goals as goal

pub returns-then-clouded : goal.returns-then-clouded
returns-then-clouded g c = λ h k s choice chosen. inl ((k.clouds c.args.item.now.key c.args.place).0 (c.clouded.ensures.0 c.if-clouded.true))

pub returns-then-not-listable : goal.returns-then-not-listable
returns-then-not-listable g c = λ h k s choice chosen. not_shown h c.args.number c.args.place (item_of c.args.item.now) (state h choice c.args.place c.args.item.now.key)
    (λ d. both_ways _ c.if-clouded.false (c.clouded.ensures.1 ((k.clouds c.args.item.now.key c.args.place).1 d)))
    (sym (c.in_ok-listable.ensures ∙ s c.args.number c.args.item.now.node.0) ∙ c.if-not-listable.true)

pub returns : goal.returns
returns g c = λ h k s. asks_same h c.args.item.now.key _ _ c.seen_at.result
    (λ choice chosen. shows_is h c.args.number c.args.place (item_of c.args.item.now) (state h choice c.args.place c.args.item.now.key)
    (λ d. both_ways _ c.if-clouded.false (c.clouded.ensures.1 ((k.clouds c.args.item.now.key c.args.place).1 d)))
    (sym (c.in_ok-listable.ensures ∙ s c.args.number c.args.item.now.node.0) ∙ c.if-not-listable.false))
    (c.seen_at.ensures h k.of_past)
