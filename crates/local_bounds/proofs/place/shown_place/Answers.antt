use Rattle.std.proofs.Common.{◌≡◌, max, arith}
use Rattle.std.proofs.lemmas.Bool.{both_ways}
use Rattle.history_model.specs.Right.{IsShown}
use Rattle.history_model.specs.States.{state}
use Rattle.write_groups.specs.Modelled.{item_of}
use Rattle.local_bounds.proofs.Holding.{holds_key}
use Rattle.local_bounds.proofs.Shown.{shown_behind, not_shown_first, is_shown_first}
use Rattle.local_bounds.proofs.place.shown_place.Goals as goal

pub returns-then-window-place : goal.returns-then-window-place
returns-then-window-place c =
    let at : c.max-place.result ≡ max c.args.window.low c.args.item.now.revision = omega (arith, c.max-place.ensures, c.get.ensures.value) in
    λ h p chosen. shown_behind h c.args.choice.now p.readable chosen c.args.key.now (item_of c.args.item.now) c.args.window.low c.max-place.result at c.args.window.high c.if-window-place.true

pub returns-then-not-holds : goal.returns-then-not-holds
returns-then-not-holds c =
    let at : c.max-place.result ≡ max c.args.window.low c.args.item.now.revision = omega (arith, c.max-place.ensures, c.get.ensures.value) in
    λ h p chosen. not_shown_first h c.args.choice.now p.readable chosen c.args.key.now (item_of c.args.item.now) c.args.window.low c.max-place.result at c.args.window.high
    (λ s. both_ways _ c.if-not-holds.true (c.holds.ensures.1
    ((holds_key h c.args.key.now (λ choice. IsShown (item_of c.args.item.now) (state h choice c.max-place.result c.args.key.now)) c.seen_at.result c.args.choice.now chosen (c.seen_at.ensures h p)).1 s)))

pub returns : goal.returns
returns c =
    let at : c.max-place.result ≡ max c.args.window.low c.args.item.now.revision = omega (arith, c.max-place.ensures, c.get.ensures.value) in
    λ h p chosen. is_shown_first h c.args.choice.now p.readable chosen c.args.key.now (item_of c.args.item.now) c.args.window.low c.max-place.result at c.args.window.high c.if-window-place.false
    ((holds_key h c.args.key.now (λ choice. IsShown (item_of c.args.item.now) (state h choice c.max-place.result c.args.key.now)) c.seen_at.result c.args.choice.now chosen (c.seen_at.ensures h p)).0
    (c.holds.ensures.0 c.if-not-holds.false))
