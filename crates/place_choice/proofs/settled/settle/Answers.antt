use Rattle.std.proofs.Common.{◌≡◌, ◌<◌, length, get_or, arith, All, refl}
use Rattle.base_types.specs.declared.verdict.claim.Bound.{Bound}
use Rattle.base_types.proofs.Lending.{written}
use Rattle.place_choice.proofs.Explaining.{below_all}
use Rattle.place_choice.proofs.Leaving.{IsNext, BreaksFirst-here, IsLeastChoice-at_end, LeavesExactly-more, none_from_breaks}
use Rattle.place_choice.proofs.settled.settle.Goals as goal

pub bounds-claims-event : goal.bounds-claims-event
bounds-claims-event c = below_all _ _ c.requires.order _ 0 (omega arith)

pub narrow-fits-requires : goal.narrow-fits-requires
narrow-fits-requires c =
    let claim = c.index-claims-event.result in
    let known : get_or c.args.order.now c.loop-event.event-index 0 < length c.args.claims.now = below_all _ _ c.requires.order _ 0 (omega arith) in
    let named : All (λ (bound : Bound). bound.range < length c.args.ranges.now) claim.bounds = rw (← c.index-claims-event.is) at (c.requires.bounds _ claim known) in
    rw (c.as_slice.ensures, c.deref_mut.ensures.value, c.loop-event.invariant.long) named

-- the first event that has a code is the first that breaks
pub returns-in-Some : goal.returns-in-Some
returns-in-Some c =
    let known : get_or c.args.order.now c.loop-event.event-index 0 < length c.args.claims.now = below_all _ _ c.requires.order _ 0 (omega arith) in
    let next : IsNext c.args.ranges.now c.loop-event.left.items c.args.claims.now c.args.order.now c.loop-event.event-index c.index-claims-event.result =
    record { within = omega arith; known = known; is = c.index-claims-event.is; leaves = c.loop-event.invariant } in
    let told = rw (c.as_slice.ensures, c.deref_mut.ensures.value) at c.narrow-fits.ensures in
    let breaks = BreaksFirst-here _ _ c.narrow-fits.new.ranges _ _ _ _ c.narrow-fits.result _ next (record { narrowed = told.narrowed; places = λ fits. told.places fits next.leaves.places; emptied = told.emptied }) c.in-Some.ensures.least in
    record { settled = breaks; fits = (λ none. absurd none, λ some. none_from_breaks _ _ _ _ _ some.0 breaks some.1) }

pub loop-event-preserved : goal.loop-event-preserved
loop-event-preserved c =
    let left = c.loop-event.left in
    let known : get_or c.args.order.now c.loop-event.event-index 0 < length c.args.claims.now = below_all _ _ c.requires.order _ 0 (omega arith) in
    let next : IsNext c.args.ranges.now left.items c.args.claims.now c.args.order.now c.loop-event.event-index c.index-claims-event.result =
    record { within = omega arith; known = known; is = c.index-claims-event.is; leaves = c.loop-event.invariant } in
    let told = rw (c.as_slice.ensures, c.deref_mut.ensures.value) at c.narrow-fits.ensures in
    let sound = c.in_default.ensures.none.0 refl in
    let long : length c.narrow-fits.new.ranges ≡ length left.items = omega (arith, c.deref_mut.ensures.len, left.ok.0, c.narrow-fits.auto.ranges) in
    rw (written left.len c.narrow-fits.new.ranges left.items (omega (arith, left.ok.0)) (omega (arith, left.ok.0)))
    (LeavesExactly-more _ _ _ _ _ _ _ next long (told.places sound.1 next.leaves.places) sound.0 (told.narrowed sound.1))

-- no event is left
pub returns : goal.returns
returns c =
    let least = IsLeastChoice-at_end _ _ _ _ c.loop-event.event-index c.requires.order (omega arith) c.loop-event.invariant in
    record {
      settled = rw (c.in_ok-least_places.ensures, c.deref.ensures.value) least;
      fits = (λ _. (_, least.explains), λ _. tt);
    }
