use Rattle.std.proofs.Common.{◌≡◌, ℕ, ◌<◌, ◌≤◌, ◌⊎◌, true, [], ◌∷◌, List, None, Contains, inl, inr, refl, sym, subst, arith}
use Rattle.std.specs.List.{AllZip}
use Rattle.std.proofs.lemmas.Int.{ints}
use Rattle.base_types.specs.Choices.{IsChoice}
use Rattle.base_types.specs.declared.verdict.claim.Reason.TheVariants.{U4}
use Rattle.base_types.specs.declared.verdict.placed.PlacedAnswer.TheVariants as placed
use Rattle.history_model.proofs.Members.{not_in_none, here, all_from}
use Rattle.history_model.proofs.Worked.Kit.{each_of, EachAt, each_making, rising_is, order_is, not_before, Follows, IsGroup, span_is, made_sole, no_fault, no_removals, no_checkpoints, explanation, EachLine, lines_are}
use Rattle.history_model.specs.Events.{Event, Made}
use Rattle.history_model.specs.Examples.{a, A, object, request, written, version, line, create_and_get, create_and_get_outcome}
use Rattle.history_model.specs.Groups.{Making, IsMaking, IsSpan}
use Rattle.history_model.specs.Histories.{Version, Span, ByEvent}
use Rattle.history_model.specs.Local.{IsRightUnder}
use Rattle.history_model.specs.Makers.{IsSnapshotVersion, IsMadeVersion}
use Rattle.history_model.specs.Making.{HasNoFault, creates}
use Rattle.history_model.specs.Outcomes.{IsOutcome}
use Rattle.history_model.specs.Placed.{IsPlacedLine}
use Rattle.history_model.specs.Readable.{IsReadable}

abbrev e0 : Event
e0 = request 1 1 2 (Made (object a 11 A 1) true)

abbrev m0 : Making
m0 = record { number = 0; event = e0; item = object a 11 A 1; created = true }

is0 : IsMaking create_and_get m0
is0 = record { known = refl; made = refl }

group0 : IsGroup create_and_get m0
group0 = each_making create_and_get (λ o. o.item.revision ≡ 11 → Follows m0 o) ((λ e. (refl, omega (arith, ints), omega (arith, ints), not_before e0 e0 refl refl (omega (arith, ints)) (λ q. omega arith))), (tt, tt))

fine0 : HasNoFault create_and_get m0 None
fine0 = no_fault create_and_get m0 None (omega arith) (omega arith) (λ t s. cc s) (λ t (w, c, l, e). each_of (λ (v : Version). v.revision < 11 → ⊥) create_and_get.versions ((λ l. omega (arith, l)), tt) w c l)
    (λ t o. cc t) (refl, refl) refl

pub readable : IsReadable create_and_get
readable = record {
  lines = rising_is (λ (e : Event). e.line) create_and_get.events refl;
  numbered = all_from (λ (e : Event). 0 < e.line) create_and_get.events (each_of (λ (e : Event). 0 < e.line) create_and_get.events (omega arith, (omega arith, tt)));
  checkpoints = no_checkpoints create_and_get (refl, (refl, tt));
  order = order_is create_and_get refl refl refl;
  spans = record {
    rising = rising_is (λ (s : Span). s.revision) create_and_get.spans refl;
    sound = each_of (IsSpan create_and_get) create_and_get.spans (span_is create_and_get m0 is0 group0 (written 11 1 2) (omega arith) refl refl refl (inl (m0, record { making = is0; of_key = refl; at_revision = refl }, inl refl)), tt);
    full = each_making create_and_get (λ m. 10 < m.item.revision → (span : Span) × Contains create_and_get.spans span × (span.revision ≡ m.item.revision)) ((λ l. (written 11 1 2, here (written 11 1 2) [], refl)), (tt, tt));
  };
  versions = record {
    rising = rising_is (λ (v : Version). v.revision) create_and_get.versions refl;
    sound = each_of (λ v. IsSnapshotVersion create_and_get v ⊎ IsMadeVersion create_and_get v) create_and_get.versions
        (inr (made_sole create_and_get m0 is0 group0 (version (object a 11 A 1) (ByEvent 0)) (omega arith) refl refl refl refl refl None refl fine0 U4 (creates refl refl)), tt);
    full_snapshot = λ item c. absurd (not_in_none c);
    full_log = each_making create_and_get (λ m. 10 < m.item.revision → (v : Version) × Contains create_and_get.versions v × (v.revision ≡ m.item.revision))
        ((λ l. (version (object a 11 A 1) (ByEvent 0), here (version (object a 11 A 1) (ByEvent 0)) [], refl)), (tt, tt));
  };
  removals = no_removals create_and_get refl ((λ k u e. cc e), ((λ k u e. cc e), tt));
}

rights : EachAt (λ n e. IsRightUnder create_and_get [] n e) create_and_get.events
rights = (
  record { fixed = record { level = refl; stage = refl; by_word = λ before e. subst (λ z. HasNoFault create_and_get m0 z) (sym e) fine0; decision = λ d e. absurd (cc e) }; answer = λ w. absurd (cc w) },
  (record { fixed = record { level = refl; stage = refl; by_word = tt; decision = λ d e. absurd (cc e) }; answer = λ w. (11, (omega arith, omega arith), inr (refl, refl, refl)) }, tt),
)

nothing : (other : List ℕ) → IsChoice [] other → AllZip ◌≤◌ [] other
nothing [] c = tt
nothing (x ∷ xs) c = absurd c

placed_lines : EachLine (λ n e l. IsPlacedLine create_and_get [] n e l) create_and_get.events (line 1 (placed.Made 11) ∷ line 2 (placed.At 11) ∷ [])
placed_lines = (
  record { of_event = refl; answer = refl; decision = refl },
  (record { of_event = refl; answer = (11, record { inside = (omega arith, omega arith); right = inr (refl, refl, refl); least = λ other w r. omega (arith, w.0) }, refl); decision = refl }, tt),
)

pub outcome : IsOutcome create_and_get create_and_get_outcome
outcome = explanation create_and_get [] (line 1 (placed.Made 11) ∷ line 2 (placed.At 11) ∷ []) readable tt rights nothing (lines_are create_and_get [] (line 1 (placed.Made 11) ∷ line 2 (placed.At 11) ∷ []) placed_lines)
