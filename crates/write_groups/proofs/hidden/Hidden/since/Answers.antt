use Rattle.std.proofs.Common.{◌≡◌, ◌-◌, ◌<◌, ◌≤◌, List, length, get_or, Some, None, subst, refl, arith}
use Rattle.std.proofs.lemmas.Option.{slice_get_past, slice_get_read}
use Rattle.base_types.specs.declared.kubernetes.revision.Moment.{Moment}
use Rattle.write_groups.proofs.Covering.{none_since, never_past, some_since}
use Rattle.write_groups.specs.declared.hidden.Hiding.{Hiding}
use Rattle.write_groups.specs.Hiding.{IsFirstSince}
use Rattle.write_groups.proofs.hidden.Hidden.since.Goals as goal

pub returns-in_err-place : goal.returns-in_err-place
returns-in_err-place c =
    let inside = c.self.inside in
    let long : length inside.begins.items ≤ 18446744073709551615 = let ok = inside.begins.ok in omega arith in
    rw c.from_residual.ensures (subst (λ (l : List Hiding). IsFirstSince l c.args.key.now None) c.self.view_is
    (none_since inside.covers inside.begins.items c.self.invariant c.args.key.now 18446744073709551615 long c.in_err-place.ensures.none))

pub returns-in_err-begin : goal.returns-in_err-begin
returns-in_err-begin c =
    let inside = c.self.inside in
    let past : length inside.begins.items ≤ c.in_ok-place.place - 1 = subst (λ (l : List Moment). length l ≤ c.in_ok-place.place - 1) c.deref.ensures.value c.in_err-begin.ensures.lookup.3 in
    absurd (never_past inside.covers inside.begins.items c.self.invariant c.args.key.now 18446744073709551615 c.in_ok-place.place c.in_ok-place.ensures.some
    (slice_get_past inside.begins.items (c.in_ok-place.place - 1) past))

pub returns : goal.returns
returns c =
    let inside = c.self.inside in
    let found = c.in_ok-begin.ensures.lookup in
    let within : c.in_ok-place.place - 1 < length inside.begins.items = subst (λ (l : List Moment). c.in_ok-place.place - 1 < length l) c.deref.ensures.value found.3.0 in
    let is : c.in_ok-begin.begin.now ≡ get_or inside.begins.items (c.in_ok-place.place - 1) c.in_ok-begin.begin.now =
    subst (λ (l : List Moment). c.in_ok-begin.begin.now ≡ get_or l (c.in_ok-place.place - 1) c.in_ok-begin.begin.now) c.deref.ensures.value found.1 in
    subst (λ (l : List Hiding). IsFirstSince l c.args.key.now (Some c.in_ok-begin.begin.now)) c.self.view_is
    (some_since inside.covers inside.begins.items c.self.invariant c.args.key.now 18446744073709551615 c.in_ok-place.place c.in_ok-begin.begin.now c.in_ok-place.ensures.some
    (slice_get_read inside.begins.items (length inside.begins.items) (c.in_ok-place.place - 1) c.in_ok-begin.begin.now refl within is))
