-- The clouds of a log's unrecorded writes are those of its history.
use Rattle.std.proofs.Common.{◌≡◌, ℕ, ◌<◌, ◌≤◌, List, [], Option, Some, None, map, slice_get, Contains, refl, sym, ap, ◌∙◌, subst, arith}
use Rattle.std.specs.Prelude.{option_map, Any}
use Rattle.std.proofs.lemmas.Option.{same_Some, slice_get-map}
use Rattle.base_types.specs.declared.kubernetes.key.Cover.{Cover}
use Rattle.base_types.specs.declared.kubernetes.key.ObjectKey.{ObjectKey}
use Rattle.base_types.specs.Covers.{Covers}
use Rattle.clouds.specs.Clouds as cloud
use Rattle.clouds.specs.Writes.{Writes}
use Rattle.clouds.specs.declared.span.KeyRevision.{KeyRevision}
use Rattle.clouds.specs.declared.span.OpaqueSpan.{OpaqueSpan}
use Rattle.history_model.proofs.Members.{at_in, in_at}
use Rattle.history_model.specs.Clouds as model
use Rattle.history_model.specs.Events as event
use Rattle.history_model.specs.Groups.{Hides}
use Rattle.history_model.specs.Histories.{History, Version, IsEvent}
use Rattle.history_model.specs.Windows.{low_end, high_end}
use Rattle.write_groups.proofs.Lists.{made_from, made_has}
use Rattle.write_groups.specs.Modelled.{HasEvents, answer_of, event_of}
use Rattle.write_groups.specs.declared.event.LogEvent.{LogEvent}
use Rattle.write_groups.specs.declared.event.Shown.{Shown}
use Rattle.write_groups.specs.declared.event.Shown.TheVariants.{Made, Removed, Opaque, Saw, SawNone, SawSome, SawOther, Listed, Free, Aside}
use Rattle.past_building.proofs.Mapped.{any_in, in_any}
use Rattle.past_building.specs.Hidden.{HasSlots, unrecorded_at, unrecorded_if, unrecorded_in}
use Rattle.past_building.specs.Modelled.{AreCloudsOf}

-- an unrecorded write with the ends of its window
abbrev pub span_with : History → LogEvent → Cover → OpaqueSpan
span_with h event cover = record { cover = cover; low = low_end h (event_of event); high = high_end h (event_of event) }

abbrev pub IsUnrecorded : History → List LogEvent → (OpaqueSpan → Type 0) → Type 0
IsUnrecorded h events P = (number : ℕ) × (event : LogEvent) × (cover : Cover) × (slice_get events number ≡ Some event) × (event.answer ≡ Opaque cover) × P (span_with h event cover)

of_cover : (h : History) (event : LogEvent) (shown : Shown) (span : OpaqueSpan) → unrecorded_if h event shown ≡ Some span
    → (cover : Cover) × (shown ≡ Opaque cover) × (span_with h event cover ≡ span)
of_cover h event (Made item created) span is = absurd (cc is)
of_cover h event (Removed key uid) span is = absurd (cc is)
of_cover h event (Opaque cover) span is = (cover, refl, same_Some (span_with h event cover) span is)
of_cover h event (Saw item) span is = absurd (cc is)
of_cover h event (SawNone key) span is = absurd (cc is)
of_cover h event (SawSome key) span is = absurd (cc is)
of_cover h event (SawOther key) span is = absurd (cc is)
of_cover h event (Listed listing) span is = absurd (cc is)
of_cover h event Free span is = absurd (cc is)
of_cover h event Aside span is = absurd (cc is)

some_unrecorded : (h : History) (events : List LogEvent) (P : OpaqueSpan → Type 0) → Any P (unrecorded_in h events) → IsUnrecorded h events P
some_unrecorded h events P any =
    let found = any_in P (unrecorded_in h events) any in
    let from = made_from (unrecorded_at h) events found.0 found.1 in
    let place = in_at events from.0 from.1 in
    let cover = of_cover h from.0 from.0.answer found.0 from.2 in
    (place.0, from.0, cover.0, place.1, cover.1, subst P (sym cover.2) found.2)

unrecorded_some : (h : History) (events : List LogEvent) (P : OpaqueSpan → Type 0) (number : ℕ) (event : LogEvent) (cover : Cover)
    → slice_get events number ≡ Some event → event.answer ≡ Opaque cover → P (span_with h event cover) → Any P (unrecorded_in h events)
unrecorded_some h events P number event cover at is holds =
    in_any P (unrecorded_in h events) (span_with h event cover)
    (made_has (unrecorded_at h) events event (span_with h event cover) (at_in events number event at) (ap (unrecorded_if h event) is)) holds

-- an event of the history is one of the log
logged : (h : History) (events : List LogEvent) (number : ℕ) (found : event.Event) → HasEvents events h → IsEvent h number found
    → (e : LogEvent) × (slice_get events number ≡ Some e) × (event_of e ≡ found)
logged h events number found all is = go (slice_get events number) refl (subst (λ es. slice_get es number ≡ Some found) all is)
  where
    go : (o : Option LogEvent) → slice_get events number ≡ o → slice_get (map event_of events) number ≡ Some found
        → (e : LogEvent) × (slice_get events number ≡ Some e) × (event_of e ≡ found)
    go None at here = absurd (cc (sym (slice_get-map event_of events number ∙ ap (option_map event_of) at) ∙ here))
    go (Some e) at here = (e, at, same_Some (event_of e) found (sym (slice_get-map event_of events number ∙ ap (option_map event_of) at) ∙ here))

in_history : (h : History) (events : List LogEvent) (number : ℕ) (e : LogEvent) → HasEvents events h → slice_get events number ≡ Some e → IsEvent h number (event_of e)
in_history h events number e all at = subst (λ es. slice_get es number ≡ Some (event_of e)) (sym all) (slice_get-map event_of events number ∙ ap (option_map event_of) at)

-- what the answer of an unrecorded write is in the model
opaque_in : (shown : Shown) (cover : Cover) → answer_of shown ≡ event.Opaque cover → shown ≡ Opaque cover
opaque_in (Made item created) cover is = absurd (cc is)
opaque_in (Removed key uid) cover is = absurd (cc is)
opaque_in (Opaque given) cover is = ap Opaque (cover_in given cover is)
  where
    covered : event.Answer → Cover → Cover
    covered (event.Made item created) other = other
    covered (event.Removed key uid) other = other
    covered (event.Opaque found) other = found
    covered (event.Saw item) other = other
    covered (event.SawNone key) other = other
    covered (event.SawSome key) other = other
    covered (event.SawOther key) other = other
    covered (event.Listed listing) other = other
    covered event.Free other = other
    covered event.Aside other = other

    cover_in : (given cover : Cover) → event.Opaque given ≡ event.Opaque cover → given ≡ cover
    cover_in given cover is = ap (λ answer. covered answer given) is
opaque_in (Saw item) cover is = absurd (cc is)
opaque_in (SawNone key) cover is = absurd (cc is)
opaque_in (SawSome key) cover is = absurd (cc is)
opaque_in (SawOther key) cover is = absurd (cc is)
opaque_in (Listed listing) cover is = absurd (cc is)
opaque_in Free cover is = absurd (cc is)
opaque_in Aside cover is = absurd (cc is)

-- a revision of a key is that of a version of it
seen : (h : History) (slots : List KeyRevision) (key : ObjectKey) (place high : ℕ) → HasSlots slots h
    → ((v : Version) → Contains h.versions v → v.key ≡ key → high < v.revision → place < v.revision)
    → (r : KeyRevision) → Contains slots r → r.key ≡ key → high < r.revision → place < r.revision
seen h slots key place high has all r among of_key above =
    let found = (has r.key r.revision).0 among in
    let below : place < found.0.revision = all found.0 found.1 (found.2 ∙ of_key) (subst (λ n. high < n) (sym found.3) above) in
    subst (λ n. place < n) found.3 below

shown : (h : History) (slots : List KeyRevision) (key : ObjectKey) (place high : ℕ) → HasSlots slots h
    → ((r : KeyRevision) → Contains slots r → r.key ≡ key → high < r.revision → place < r.revision)
    → (v : Version) → Contains h.versions v → v.key ≡ key → high < v.revision → place < v.revision
shown h slots key place high has all v among of_key above =
    all (record { key = v.key; revision = v.revision }) ((has v.key v.revision).1 (v, among, refl, refl)) of_key above

pub are_clouds : (h : History) (events : List LogEvent) (slots : List KeyRevision) (writes : Writes) → HasEvents events h → HasSlots slots h
    → writes.spans ≡ unrecorded_in h events → writes.revisions ≡ slots → AreCloudsOf writes h
are_clouds h events slots writes all has spans revisions = record {
  clouded = λ key place. (
    (λ any. let found = some_unrecorded h events (cloud.IsHiddenBy writes.revisions key place) (subst (Any (cloud.IsHiddenBy writes.revisions key place)) spans any) in
        let hidden = found.5 in (
          found.0,
          event_of found.1,
          in_history h events found.0 found.1 all found.3,
          record {
            hides = (found.2, ap answer_of found.4, hidden.hides);
            begun = hidden.begun;
            unseen = shown h slots key place (high_end h (event_of found.1)) has (subst (λ rs. (r : KeyRevision) → Contains rs r → r.key ≡ key → high_end h (event_of found.1) < r.revision → place < r.revision) revisions hidden.unseen);
          },
        )),
    (λ hiding. let e = logged h events hiding.0 hiding.1 all hiding.2 in
        let hidden : model.IsHiddenBy h key place (event_of e.0) = subst (model.IsHiddenBy h key place) (sym e.2) hiding.3 in
        let cover = hidden.hides.0 in
        subst (Any (cloud.IsHiddenBy writes.revisions key place)) (sym spans)
        (unrecorded_some h events (cloud.IsHiddenBy writes.revisions key place) hiding.0 e.0 cover e.1 (opaque_in e.0.answer cover hidden.hides.1)
        (record {
          hides = hidden.hides.2;
          begun = hidden.begun;
          unseen = subst (λ rs. (r : KeyRevision) → Contains rs r → r.key ≡ key → high_end h (event_of e.0) < r.revision → place < r.revision) (sym revisions) (seen h slots key place (high_end h (event_of e.0)) has hidden.unseen);
        }))),
  );
  unrecorded = λ key revision. (
    (λ any. let found = some_unrecorded h events (λ span. Covers span.cover key × (span.low < revision) × (revision ≤ span.high)) (subst (Any (λ span. Covers span.cover key × (span.low < revision) × (revision ≤ span.high))) spans any) in
        (found.0, event_of found.1, in_history h events found.0 found.1 all found.3, (found.2, ap answer_of found.4, found.5.0), found.5.1, found.5.2)),
    (λ hiding. let e = logged h events hiding.0 hiding.1 all hiding.2 in
        let hides : Hides key (event_of e.0) = subst (Hides key) (sym e.2) hiding.3 in
        let low : low_end h (event_of e.0) < revision = subst (λ x. low_end h x < revision) (sym e.2) hiding.4 in
        let high : revision ≤ high_end h (event_of e.0) = subst (λ x. revision ≤ high_end h x) (sym e.2) hiding.5 in
        subst (Any (λ span. Covers span.cover key × (span.low < revision) × (revision ≤ span.high))) (sym spans)
        (unrecorded_some h events (λ span. Covers span.cover key × (span.low < revision) × (revision ≤ span.high)) hiding.0 e.0 hides.0 e.1
        (opaque_in e.0.answer hides.0 hides.1) (hides.2, low, high))),
  );
}

-- where no write is unrecorded nothing is hidden, whatever the versions are
pub are_no_clouds : (h : History) (events : List LogEvent) (writes : Writes) → HasEvents events h
    → writes.spans ≡ unrecorded_in h events → unrecorded_in h events ≡ [] → AreCloudsOf writes h
are_no_clouds h events writes all spans none = record {
  clouded = λ key place. (
    (λ any. absurd (unfound (cloud.IsHiddenBy writes.revisions key place) any)),
    (λ hiding. absurd (unhidden key hiding.0 hiding.1 hiding.2 hiding.3.hides)),
  );
  unrecorded = λ key revision. (
    (λ any. absurd (unfound (λ span. Covers span.cover key × (span.low < revision) × (revision ≤ span.high)) any)),
    (λ hiding. absurd (unhidden key hiding.0 hiding.1 hiding.2 hiding.3)),
  );
}
  where
    unfound : (P : OpaqueSpan → Type 0) → Any P writes.spans → ⊥
    unfound P any =
        let found = any_in P [] (subst (Any P) (spans ∙ none) any) in
        let within : found.1.0 < 0 = found.1.1 in
        absurd (omega (arith, within))

    unhidden : (key : ObjectKey) (number : ℕ) (found : event.Event) → IsEvent h number found → Hides key found → ⊥
    unhidden key number found is found_hides =
        let e = logged h events number found all is in
        let hides : Hides key (event_of e.0) = subst (Hides key) (sym e.2) found_hides in
        let some = unrecorded_some h events (λ span. span ≡ span) number e.0 hides.0 e.1 (opaque_in e.0.answer hides.0 hides.1) refl in
        unfound (λ span. span ≡ span) (subst (Any (λ span. span ≡ span)) (sym spans) some)
