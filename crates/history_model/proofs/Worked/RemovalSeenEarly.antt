use Rattle.std.proofs.Common.{◌≡◌, ℕ, ◌<◌, ◌≤◌, ◌⊎◌, true, [], ◌∷◌, List, None, IsNone, Contains, inl, inr, refl, sym, subst, arith, true≢false, lit≤}
use Rattle.std.specs.List.{AllZip}
use Rattle.std.proofs.lemmas.Int.{ints}
use Rattle.base_types.specs.Choices.{IsChoice}
use Rattle.base_types.specs.declared.verdict.claim.Reason.TheVariants.{U4}
use Rattle.base_types.specs.declared.kubernetes.key.ObjectKey.{ObjectKey}
use Rattle.base_types.specs.declared.verdict.placed.PlacedAnswer.TheVariants as placed
use Rattle.history_model.proofs.Members.{all_from}
use Rattle.history_model.proofs.Worked.Kit.{each_of, EachAt, each_making, rising_is, order_is, not_before, Follows, IsGroup, span_is, made_sole, no_fault, no_checkpoints, explanation, EachLine, lines_are, never_clouded, one_removal_is}
use Rattle.history_model.specs.Clouds.{IsClouded}
use Rattle.history_model.specs.Events.{Event, Made, Saw, SawNone, Removed}
use Rattle.history_model.specs.Examples.{a, A, object, request, written, version, line}
use Rattle.history_model.specs.Groups.{Making, IsMaking, IsSpan}
use Rattle.history_model.specs.Histories.{Version, Span, ByEvent, ranges}
use Rattle.history_model.specs.Local.{IsRightUnder}
use Rattle.history_model.specs.Makers.{IsSnapshotVersion, IsMadeVersion, item_of}
use Rattle.history_model.specs.Making.{HasNoFault, creates}
use Rattle.history_model.specs.Outcomes.{IsOutcome}
use Rattle.history_model.specs.Placed.{IsPlacedLine, IsLeastPlace}
use Rattle.history_model.specs.Readable.{IsReadable}
use Rattle.history_model.specs.States.{state}
use Rattle.history_model.specs.Windows.{InWindow}
use Rattle.history_model.specs.Examples.{removal_of_a, removal_seen_early, removal_seen_early_outcome}

abbrev e0 : Event
e0 = request 1 1 2 (Made (object a 14 A 1) true)

abbrev v14 : Version
v14 = version (object a 14 A 1) (ByEvent 0)

abbrev e1 : Event
e1 = request 2 3 8 (Removed a A)

abbrev e2 : Event
e2 = request 3 4 6 (Saw (object a 14 A 1))

abbrev e3 : Event
e3 = request 4 5 7 (SawNone a)

abbrev m0_removal_seen_early : Making
m0_removal_seen_early = record { number = 0; event = e0; item = object a 14 A 1; created = true }

is0_removal_seen_early : IsMaking removal_seen_early m0_removal_seen_early
is0_removal_seen_early = record { known = refl; made = refl }

group0_removal_seen_early : IsGroup removal_seen_early m0_removal_seen_early
group0_removal_seen_early = each_making removal_seen_early (λ o. o.item.revision ≡ 14 → Follows m0_removal_seen_early o) ((λ q. (refl, omega (arith, ints), omega (arith, ints), not_before e0 e0 refl refl (omega (arith, ints)) (λ z. omega arith))), (tt, (tt, (tt, tt))))

fine0_removal_seen_early : HasNoFault removal_seen_early m0_removal_seen_early None
fine0_removal_seen_early = no_fault removal_seen_early m0_removal_seen_early None (omega arith) (omega arith) (λ t s. cc s)
    (λ t (w, c, l, e). each_of (λ (v : Version). v.revision < 14 → v.uid ≡ A → ⊥) removal_seen_early.versions ((λ l q. omega (arith, l)), tt) w c l e) (λ t o. cc t) (refl, refl) refl

clear_removal_seen_early : (key : ObjectKey) (place : ℕ) → IsClouded removal_seen_early key place → ⊥
clear_removal_seen_early = never_clouded removal_seen_early ((λ k y. cc (y.1)), ((λ k y. cc (y.1)), ((λ k y. cc (y.1)), ((λ k y. cc (y.1)), tt))))

pub readable_removal_seen_early : IsReadable removal_seen_early
readable_removal_seen_early = record {
  lines = rising_is (λ (e : Event). e.line) removal_seen_early.events refl;
  numbered = all_from (λ (e : Event). 0 < e.line) removal_seen_early.events (each_of (λ (e : Event). 0 < e.line) removal_seen_early.events (omega arith, (omega arith, (omega arith, (omega arith, tt)))));
  checkpoints = no_checkpoints removal_seen_early (refl, (refl, (refl, (refl, tt))));
  order = order_is removal_seen_early refl refl refl;
  spans = record {
    rising = rising_is (λ (s : Span). s.revision) removal_seen_early.spans refl;
    sound = each_of (IsSpan removal_seen_early) removal_seen_early.spans (span_is removal_seen_early m0_removal_seen_early is0_removal_seen_early group0_removal_seen_early (written 14 1 2) (omega arith) refl refl refl (inl (m0_removal_seen_early, record { making = is0_removal_seen_early; of_key = refl; at_revision = refl }, inl refl)), tt);
    full = each_making removal_seen_early (λ m. 10 < m.item.revision → (span : Span) × Contains removal_seen_early.spans span × (span.revision ≡ m.item.revision)) ((λ l. (written 14 1 2, (0, omega arith, refl), refl)), (tt, (tt, (tt, tt))));
  };
  versions = record {
    rising = rising_is (λ (v : Version). v.revision) removal_seen_early.versions refl;
    sound = each_of (λ v. IsSnapshotVersion removal_seen_early v ⊎ IsMadeVersion removal_seen_early v) removal_seen_early.versions (inr (made_sole removal_seen_early m0_removal_seen_early is0_removal_seen_early group0_removal_seen_early (v14) (omega arith) refl refl refl refl refl None refl fine0_removal_seen_early U4 (creates refl refl)), tt);
    full_snapshot = each_of (λ i. (v : Version) × Contains removal_seen_early.versions v × (item_of v ≡ i)) removal_seen_early.snapshot tt;
    full_log = each_making removal_seen_early (λ m. 10 < m.item.revision → (v : Version) × Contains removal_seen_early.versions v × (v.revision ≡ m.item.revision)) ((λ l. (v14, (0, omega arith, refl), refl)), (tt, (tt, (tt, tt))));
  };
  removals = one_removal_is removal_seen_early removal_of_a v14 e1 refl (0, omega arith, refl) ((λ e. refl), tt) refl refl ((λ k u e. cc e), ((λ k u e. (refl, cc e, cc e)), ((λ k u e. cc e), ((λ k u e. cc e), tt)))) refl refl refl refl refl (lit≤ tt);
}

right0_removal_seen_early : (choice : List ℕ) → IsRightUnder removal_seen_early choice 0 e0
right0_removal_seen_early choice = record {
  fixed = record { level = refl; stage = refl; by_word = λ before e. subst (λ z. HasNoFault removal_seen_early m0_removal_seen_early z) (sym e) fine0_removal_seen_early; decision = λ d e. absurd (cc e) };
  answer = λ w. absurd (cc w);
}

abbrev choice : List ℕ
choice = 15 ∷ []

seen : IsLeastPlace removal_seen_early choice 2 e2 14
seen = record { inside = (omega arith, omega arith); right = inr (refl, refl, refl); least = λ other w x. omega (arith, w.0) }

gone : IsLeastPlace removal_seen_early choice 3 e3 15
gone = record { inside = (omega arith, omega arith); right = inr refl; least = λ other w x. least other w x (grind arith) }
  where
    least : (other : ℕ) → InWindow removal_seen_early e3 other → IsClouded removal_seen_early a other ⊎ IsNone (state removal_seen_early choice other a) → (14 ≡ other) ⊎ (other < 14) ⊎ (15 ≤ other) → 15 ≤ other
    least other w (inl c) d = absurd (clear_removal_seen_early a other c)
    least other w (inr x) (inl e) = absurd (true≢false (subst (λ z. IsNone (state removal_seen_early choice z a)) (sym e) x))
    least other w (inr x) (inr (inl l)) = absurd (omega (arith, l, w.0))
    least other w (inr x) (inr (inr l)) = l

rights : EachAt (λ n e. IsRightUnder removal_seen_early choice n e) removal_seen_early.events
rights = (
  right0_removal_seen_early choice,
  (
    record { fixed = record { level = refl; stage = refl; by_word = record { uid = tt; revision = tt }; decision = λ d e. absurd (cc e) }; answer = λ w. absurd (cc w) },
    (
      record { fixed = record { level = refl; stage = refl; by_word = tt; decision = λ d e. absurd (cc e) }; answer = λ w. (14, seen.inside, seen.right) },
      (record { fixed = record { level = refl; stage = refl; by_word = tt; decision = λ d e. absurd (cc e) }; answer = λ w. (15, gone.inside, gone.right) }, tt),
    ),
  ),
)

placed_lines : EachLine (λ n e l. IsPlacedLine removal_seen_early choice n e l) removal_seen_early.events
    (line 1 (placed.Made 14) ∷ line 2 (placed.Removed 15) ∷ line 3 (placed.At 14) ∷ line 4 (placed.At 15) ∷ [])
placed_lines = (
  record { of_event = refl; answer = refl; decision = refl },
  (
    record { of_event = refl; answer = (15, (0, omega arith, refl), refl); decision = refl },
    (record { of_event = refl; answer = (14, seen, refl); decision = refl }, (record { of_event = refl; answer = (15, gone, refl); decision = refl }, tt)),
  ),
)

least_choice : (other : List ℕ) → IsChoice (ranges removal_seen_early) other → AllZip ◌≤◌ choice other
least_choice [] c = absurd c
least_choice (x ∷ []) c = (c.0.0, tt)
least_choice (x ∷ y ∷ ys) c = absurd c.1

pub outcome : IsOutcome removal_seen_early removal_seen_early_outcome
outcome = explanation removal_seen_early choice (line 1 (placed.Made 14) ∷ line 2 (placed.Removed 15) ∷ line 3 (placed.At 14) ∷ line 4 (placed.At 15) ∷ [])
    readable_removal_seen_early ((omega arith, omega arith), tt) rights least_choice
    (lines_are removal_seen_early choice (line 1 (placed.Made 14) ∷ line 2 (placed.Removed 15) ∷ line 3 (placed.At 14) ∷ line 4 (placed.At 15) ∷ []) placed_lines)
