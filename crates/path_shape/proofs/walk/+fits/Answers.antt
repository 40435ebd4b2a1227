use Rattle.std.proofs.Common.{◌≡◌, true, ℕ, ◌<◌, ◌≤◌, ◌^◌, List, inr, length, refl, sym, ap, subst, ◌∙◌, arith}
use Rattle.std.proofs.lemmas.Bool.{false≢true}
use Rattle.path_shape.specs.Passing.{past, past_of}
use Rattle.path_shape.specs.Walk.{is_any, narrow, IsDone}
use Rattle.path_shape.proofs.ClassLemmas.{none_left}
use Rattle.path_shape.proofs.Measures.{weight, top-weight, narrow-top}
use Rattle.path_shape.proofs.PassLemmas.{past-child, past-same}
use Rattle.path_shape.proofs.PathLemmas.{fits_all, fits_open_part, fits_child, fits_none_past, to_under, from_under}
use Rattle.path_shape.proofs.WalkLemmas.{items_step, items_end, members_step}
use Rattle.path_shape.proofs.walk.+fits.Goals as goal

pub fits-returns-then-not-is_any : goal.fits-returns-then-not-is_any
fits-returns-then-not-is_any t c =
    let none = fits_none_past c.args.class (past_of c.args.live) c.args.spot (none_left (past_of c.args.live) (sym c.is_any.ensures ∙ c.if-not-is_any.true)) in
    (λ is. none.0 (c.fits_closed.ensures.0 is), λ h. c.fits_closed.ensures.1 (none.1 h))

pub fits-fits_each-requires : goal.fits-fits_each-requires
fits-fits_each-requires t c =
    let any : is_any (past_of c.args.live) ≡ true = sym c.is_any.ensures ∙ c.if-not-is_any.false in
    let same = top-weight (past_of c.args.live) any in
    (omega arith, tt)

pub fits-returns-then-not-fits_open : goal.fits-returns-then-not-fits_open
fits-returns-then-not-fits_open t c =
    let any : is_any (past_of c.args.live) ≡ true = sym c.is_any.ensures ∙ c.if-not-is_any.false in
    (λ is. absurd (false≢true is), λ h. c.if-not-fits_open.ensures.1 (fits_open_part c.args.class (past_of c.args.live) c.args.spot any h))

pub fits-returns-then-not-fits_each : goal.fits-returns-then-not-fits_each
fits-returns-then-not-fits_each t c =
    let any : is_any (past_of c.args.live) ≡ true = sym c.is_any.ensures ∙ c.if-not-is_any.false in
    (λ is. absurd (false≢true is), λ h. c.if-not-fits_each.ensures.complete (fits_child c.args.class (past_of c.args.live) c.args.spot any h))

pub fits-returns-then-not-fits_each-2 : goal.fits-returns-then-not-fits_each-2
fits-returns-then-not-fits_each-2 t c =
    let any : is_any (past_of c.args.live) ≡ true = sym c.is_any.ensures ∙ c.if-not-is_any.false in
    (λ is. absurd (false≢true is), λ h. c.if-not-fits_each-2.ensures.complete (fits_child c.args.class (past_of c.args.live) c.args.spot any h))

pub fits-returns : goal.fits-returns
fits-returns t c =
    let any : is_any (past_of c.args.live) ≡ true = sym c.is_any.ensures ∙ c.if-not-is_any.false in (
      λ is. fits_all c.args.class (past_of c.args.live) c.args.spot any (c.if-not-fits_open.ensures.0 refl)
          (c.if-not-fits_each.ensures.sound refl) (c.if-not-fits_each-2.ensures.sound refl) (c.fits_each-3.ensures.sound is),
      λ h. c.fits_each-3.ensures.complete (fits_child c.args.class (past_of c.args.live) c.args.spot any h),
    )

pub fits_items-loop-index-preserved : goal.fits_items-loop-index-preserved
fits_items-loop-index-preserved t c =
    let small : c.loop-index.index < 2 ^ 64 = omega arith in
    items_step (λ name. IsDone c.args.done c.args.done_too c.args.class (past_of c.args.live) c.args.spot name) c.loop-index.index c.format-token.result.now c.format-token.ensures.text small
    (c.if-not-fits_unless_done.ensures.sound refl) c.loop-index.invariant

pub fits_items-returns-then-not-fits_unless_done-clause-complete : goal.fits_items-returns-then-not-fits_unless_done-clause-complete
fits_items-returns-then-not-fits_unless_done-clause-complete t c h = c.if-not-fits_unless_done.ensures.complete (h c.format-token.result.now)

pub fits_items-returns-clause-sound : goal.fits_items-returns-clause-sound
fits_items-returns-clause-sound t c is =
    let past : length c.args.list.now ≤ c.loop-index.index = let same = ap length c.list.view_is in grind arith in
    items_end (λ name. IsDone c.args.done c.args.done_too c.args.class (past_of c.args.live) c.args.spot name) c.args.list.now
    (λ name n at lt. c.loop-index.invariant name n at (omega arith))

pub fits_members-loop-member-preserved : goal.fits_members-loop-member-preserved
fits_members-loop-member-preserved t c =
    let P = λ (name : List ℕ). IsDone c.args.done c.args.done_too c.args.class (past_of c.args.live) c.args.spot name in
    let here = c.if-not-fits_unless_done.ensures.sound refl in
    let named : c.as_str-token.result.now ≡ c.member-item.result.0 = c.as_str-token.ensures.value ∙ ap (λ m. m.0) c.member.view_is in
    members_step P c.deref-member-items.result.now c.loop-member.member-index c.member-item.result c.loop-member-test.true c.member-item.is (subst P named here) c.loop-member.invariant

pub fits_members-returns-then-not-fits_unless_done-clause-complete : goal.fits_members-returns-then-not-fits_unless_done-clause-complete
fits_members-returns-then-not-fits_unless_done-clause-complete t c h = c.if-not-fits_unless_done.ensures.complete (h c.as_str-token.result.now)

pub fits_unless_done-fits-requires : goal.fits_unless_done-fits-requires
fits_unless_done-fits-requires t c =
    let live = c.args.live in
    let fewer : past live.unasked c.going_past.result.now c.below-way.result ≡ past live.unasked live.entries.now c.below-way.result =
    past-same live.unasked c.going_past.result.now live.entries.now c.below-way.result (c.going_past.ensures live.unasked) in
    let narrowed : past live.unasked c.going_past.result.now c.below-way.result ≡ narrow c.args.token.now (past_of live) =
    fewer ∙ ap (past live.unasked live.entries.now) c.below-way.ensures ∙ sym (past-child c.args.token.now live.unasked live.entries.now live.way.now) in
    let left = narrow-top c.args.token.now (past_of live) in
    let same = ap weight narrowed in
    (omega arith, tt)

pub fits_unless_done-returns-clause-sound : goal.fits_unless_done-returns-clause-sound
fits_unless_done-returns-clause-sound t c is =
    let live = c.args.live in
    let e = c.child.ensures in
    let fewer : past live.unasked c.going_past.result.now c.below-way.result ≡ past live.unasked live.entries.now c.below-way.result =
    past-same live.unasked c.going_past.result.now live.entries.now c.below-way.result (c.going_past.ensures live.unasked) in
    let narrowed : past live.unasked c.going_past.result.now c.below-way.result ≡ narrow c.args.token.now (past_of live) =
    fewer ∙ ap (past live.unasked live.entries.now) c.below-way.ensures ∙ sym (past-child c.args.token.now live.unasked live.entries.now live.way.now) in
    inr (inr (to_under c.args.class c.class_under.result (past_of live) (past live.unasked c.going_past.result.now c.below-way.result) c.args.spot c.child.result c.args.token.now
    c.class_under.ensures narrowed e.had e.old e.asked e.answered (c.fits.ensures.0 is)))

pub fits_unless_done-returns-clause-complete : goal.fits_unless_done-returns-clause-complete
fits_unless_done-returns-clause-complete t c h =
    let live = c.args.live in
    let e = c.child.ensures in
    let fewer : past live.unasked c.going_past.result.now c.below-way.result ≡ past live.unasked live.entries.now c.below-way.result =
    past-same live.unasked c.going_past.result.now live.entries.now c.below-way.result (c.going_past.ensures live.unasked) in
    let narrowed : past live.unasked c.going_past.result.now c.below-way.result ≡ narrow c.args.token.now (past_of live) =
    fewer ∙ ap (past live.unasked live.entries.now) c.below-way.ensures ∙ sym (past-child c.args.token.now live.unasked live.entries.now live.way.now) in
    c.fits.ensures.1 (from_under c.args.class c.class_under.result (past_of live) (past live.unasked c.going_past.result.now c.below-way.result) c.args.spot c.child.result c.args.token.now
    c.class_under.ensures narrowed e.had e.old e.asked e.answered h)
