use Rattle.std.proofs.Common.{◌∙◌, ap, map, subst, sym, true≢false}
use Rattle.std.specs.Prelude.{option_map}
use Rattle.history_model.specs.Clouds.{IsCloudedWithin}
use Rattle.history_model.specs.Windows.{low_end, high_end}
use Rattle.object_past.specs.Modelled.{version_of}
use Rattle.write_groups.specs.Modelled.{event_of, item_of, reading_of}
use Rattle.log_moments.proofs.Counting.{clouded_ends, in_turn, shows, unknown_has_none}
use Rattle.log_moments.specs.Nexts.{AreNexts}
use Rattle.log_moments.specs.Things.{ShowsVersion, greatest_for}
use Rattle.log_moments.specs.Views.{AreNumbers}
use Rattle.log_moments.specs.declared.numbers.NumberRange.{NumberRange}
use Rattle.log_moments.proofs.numbers.shown_numbers.Goals as goal

pub returns-then-is_clouded_within : goal.returns-then-is_clouded_within
returns-then-is_clouded_within c = λ h v numbers shown.
    let e = event_of c.args.event.now in
    let item = item_of c.args.item.now in
    shown.clear ((clouded_ends h e item _ _ (c.window_of-window.ensures.low h v.times) (c.window_of-window.ensures.high h v.times)).0
    ((c.is_clouded_within.ensures h v.clouds).0 c.if-is_clouded_within.true))

pub returns-in_err-position : goal.returns-in_err-position
returns-in_err-position c = λ h v.
    subst (AreNumbers (ShowsVersion h (event_of c.args.event.now) (item_of c.args.item.now))) (sym c.from_residual.ensures)
    (unknown_has_none h c.versions-versions.result.now (event_of c.args.event.now) (item_of c.args.item.now)
    (v.past.versions ∙ ap (map version_of) (sym c.versions-versions.ensures.versions)) c.in_err-position.ensures.none)

pub returns : goal.returns
returns c = λ h v.
    let e = event_of c.args.event.now in
    let item = item_of c.args.item.now in
    let versions = c.versions-versions.result.now in
    let are = v.past.versions ∙ ap (map version_of) (sym c.versions-versions.ensures.versions) in
    let nexts = subst (λ l. AreNexts l c.args.view.now.nexts.now) (sym c.versions-versions.ensures.versions) v.nexts in
    let found = c.in_ok-position.ensures.some in
    let after = option_map (λ w. w.now) c.next_of-next.result in
    let numbers : NumberRange = record { least = c.gap_number.result; greatest = c.greatest_for.result } in
    let greatest = c.greatest_for.ensures ∙ ap (greatest_for (reading_of c.args.event.now.reading)) c.number_before.ensures in
    let clear = λ (clouded : IsCloudedWithin h item.key (low_end h e) (high_end h e)).
    true≢false (sym ((c.is_clouded_within.ensures h v.clouds).1
    ((clouded_ends h e item _ _ (c.window_of-window.ensures.low h v.times) (c.window_of-window.ensures.high h v.times)).1 clouded)) ∙ c.if-is_clouded_within.false) in (
      shows h versions c.args.view.now.nexts.now e item are nexts c.in_ok-position.position found.0 found.1 found.2 found.3 after c.next_of-next.ensures numbers clear c.gap_number.ensures.gap greatest,
      in_turn h versions c.args.view.now.nexts.now e item are nexts c.in_ok-position.position found.0 found.1 found.2 found.3 after c.next_of-next.ensures numbers c.gap_number.ensures.gap c.gap_number.ensures.before_end greatest,
    )
