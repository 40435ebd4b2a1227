use Rattle.std.proofs.Common.{◌≡◌, ℕ, ◌<◌, ◌≤◌, ◌⊎◌, false, [], ◌∷◌, List, Option, Some, Contains, inl, inr, refl, sym, ap, subst, arith, true≢false}
use Rattle.std.specs.List.{AllZip}
use Rattle.std.proofs.lemmas.Int.{ints}
use Rattle.base_types.specs.Choices.{IsChoice}
use Rattle.base_types.specs.Reasons.{code_number}
use Rattle.base_types.specs.declared.verdict.claim.Reason.{Reason}
use Rattle.base_types.specs.declared.verdict.claim.Reason.TheVariants.{U7}
use Rattle.base_types.specs.declared.kubernetes.key.ObjectKey.{ObjectKey}
use Rattle.base_types.specs.declared.verdict.placed.PlacedAnswer.TheVariants as placed
use Rattle.history_model.proofs.Members.{not_in_none, here, there, all_from}
use Rattle.history_model.proofs.Worked.Kit.{each_of, EachAt, each_event, each_making, rising_is, order_is, not_before, Follows, IsGroup, span_is, made_sole, made_able, no_fault, no_removals, no_checkpoints, explanation, EachLine, lines_are, earliest, shown_above, never_clouded, right_for, made_in, made_line, listed_at, could_find}
use Rattle.history_model.specs.Clouds.{IsClouded}
use Rattle.history_model.specs.Codes.{level, stage, stray, making, removal, found, answer, decision, IsCandidate}
use Rattle.history_model.specs.Events.{Event, Item, Made}
use Rattle.history_model.specs.Examples.{a, A, object, asked, request, written, version, line}
use Rattle.history_model.specs.Groups.{Making, IsMaking, IsSpan, Hides}
use Rattle.history_model.specs.Histories.{Version, Span, Snapshot, ByEvent, IsEvent}
use Rattle.history_model.specs.Local.{IsRightUnder, AnswerHolds}
use Rattle.history_model.specs.Makers.{IsSnapshotVersion, IsMadeVersion, item_of}
use Rattle.history_model.specs.Making.{HasNoFault, HasFoundFault, creates, excludes, changes, IsEntryBefore, CouldHaveFound}
use Rattle.history_model.specs.Outcomes.{IsOutcome, Write, MadeAt, RemovedIn, IsWriteIn}
use Rattle.history_model.specs.Placed.{IsPlacedLine, IsLeastPlace}
use Rattle.history_model.specs.Readable.{IsReadable}
use Rattle.history_model.specs.Right.{IsShown}
use Rattle.history_model.specs.States.{state}
use Rattle.history_model.specs.Windows.{last_place, InWindow}
use Rattle.history_model.specs.Examples.{unchanged_update, unchanged_update_outcome, second_update, second_update_outcome, at_nine}

abbrev item : Item
item = object a 14 A 2

abbrev old : Version
old = version (object a 9 A 1) Snapshot

abbrev new : Version
new = version item (ByEvent 0)

abbrev e0_unchanged_update : Event
e0_unchanged_update = request 1 1 2 (Made item false)

abbrev e1_unchanged_update : Event
e1_unchanged_update = request 2 1 3 (Made item false)

abbrev m0_unchanged_update : Making
m0_unchanged_update = record { number = 0; event = e0_unchanged_update; item = item; created = false }

abbrev m1_unchanged_update : Making
m1_unchanged_update = record { number = 1; event = e1_unchanged_update; item = item; created = false }

is_unchanged_update : IsMaking unchanged_update m0_unchanged_update
is_unchanged_update = record { known = refl; made = refl }

group_unchanged_update : IsGroup unchanged_update m0_unchanged_update
group_unchanged_update = each_making unchanged_update (λ o. o.item.revision ≡ 14 → Follows m0_unchanged_update o) (
  (λ e. (refl, omega (arith, ints), omega (arith, ints), not_before e0_unchanged_update e0_unchanged_update refl refl (omega (arith, ints)) (λ q. omega arith))),
  ((λ e. (refl, omega (arith, ints), omega (arith, ints), not_before e1_unchanged_update e0_unchanged_update refl refl (omega (arith, ints)) (λ q. omega arith))), tt),
)

fine_unchanged_update : HasNoFault unchanged_update m0_unchanged_update (Some old)
fine_unchanged_update = no_fault unchanged_update m0_unchanged_update (Some old) (omega arith) (omega arith) (λ t s. true≢false (sym t)) (λ t s. true≢false (sym t)) (λ f o. o refl) (tt, tt) refl

entry_unchanged_update : IsEntryBefore unchanged_update m0_unchanged_update (Some old)
entry_unchanged_update = inr ((λ x. true≢false (sym x.created)), refl)

same_entry_unchanged_update : (before : Option Version) → IsEntryBefore unchanged_update m0_unchanged_update before → Some old ≡ before
same_entry_unchanged_update before (inl x) = absurd (true≢false (sym x.0.created))
same_entry_unchanged_update before (inr x) = sym x.1

clear_unchanged_update : (key : ObjectKey) (place : ℕ) → IsClouded unchanged_update key place → ⊥
clear_unchanged_update = never_clouded unchanged_update ((λ k y. cc (y.1)), ((λ k y. cc (y.1)), tt))

pub readable_unchanged_update : IsReadable unchanged_update
readable_unchanged_update = record {
  lines = rising_is (λ (e : Event). e.line) unchanged_update.events refl;
  numbered = all_from (λ (e : Event). 0 < e.line) unchanged_update.events (each_of (λ (e : Event). 0 < e.line) unchanged_update.events (omega arith, (omega arith, tt)));
  checkpoints = no_checkpoints unchanged_update (refl, (refl, tt));
  order = order_is unchanged_update refl refl refl;
  spans = record {
    rising = rising_is (λ (s : Span). s.revision) unchanged_update.spans refl;
    sound = each_of (IsSpan unchanged_update) unchanged_update.spans (
      span_is unchanged_update m0_unchanged_update is_unchanged_update group_unchanged_update (written 14 1 2) (omega arith) refl refl refl
          (inr (each_event (λ k e. Hides a e → ⊥) unchanged_update.events ((λ y. cc (y.1)), ((λ y. cc (y.1)), tt)))),
      tt,
    );
    full = each_making unchanged_update (λ m. 10 < m.item.revision → (span : Span) × Contains unchanged_update.spans span × (span.revision ≡ m.item.revision))
        ((λ l. (written 14 1 2, here (written 14 1 2) [], refl)), ((λ l. (written 14 1 2, here (written 14 1 2) [], refl)), tt));
  };
  versions = record {
    rising = rising_is (λ (v : Version). v.revision) unchanged_update.versions refl;
    sound = each_of (λ v. IsSnapshotVersion unchanged_update v ⊎ IsMadeVersion unchanged_update v) unchanged_update.versions
        (inl (record { below = omega arith; maker = refl; listed = here (object a 9 A 1) [] }), (inr (made_able unchanged_update m0_unchanged_update is_unchanged_update group_unchanged_update new (omega arith) refl refl refl refl refl (Some old) entry_unchanged_update fine_unchanged_update (each_making unchanged_update (λ o. (code : Reason) → HasFoundFault unchanged_update o code → ⊥) (could_find unchanged_update m0_unchanged_update refl (tt, tt) refl, (could_find unchanged_update m1_unchanged_update refl (tt, tt) refl, tt)))), tt));
    full_snapshot = each_of (λ i. (v : Version) × Contains unchanged_update.versions v × (item_of v ≡ i)) unchanged_update.snapshot ((old, here old (new ∷ []), refl), tt);
    full_log = each_making unchanged_update (λ m. 10 < m.item.revision → (v : Version) × Contains unchanged_update.versions v × (v.revision ≡ m.item.revision))
        ((λ l. (new, there old new (new ∷ []) (here new []), refl)), ((λ l. (new, there old new (new ∷ []) (here new []), refl)), tt));
  };
  removals = no_removals unchanged_update refl ((λ k u e. cc e), ((λ k u e. cc e), tt));
}

first_unchanged_update : (choice : List ℕ) → IsRightUnder unchanged_update choice 0 e0_unchanged_update
first_unchanged_update choice = record {
  fixed = record { level = refl; stage = refl; by_word = λ before e. subst (λ z. HasNoFault unchanged_update m0_unchanged_update z) (same_entry_unchanged_update before e) fine_unchanged_update; decision = λ d e. absurd (cc e) };
  answer = λ w. absurd (cc w);
}

abbrev e0_second_update : Event
e0_second_update = asked 1 1 2 at_nine (Made item false)

abbrev e1_second_update : Event
e1_second_update = asked 2 1 3 at_nine (Made item false)

abbrev m0_second_update : Making
m0_second_update = record { number = 0; event = e0_second_update; item = item; created = false }

abbrev m1_second_update : Making
m1_second_update = record { number = 1; event = e1_second_update; item = item; created = false }

is_second_update : IsMaking second_update m0_second_update
is_second_update = record { known = refl; made = refl }

group_second_update : IsGroup second_update m0_second_update
group_second_update = each_making second_update (λ o. o.item.revision ≡ 14 → Follows m0_second_update o) (
  (λ e. (refl, omega (arith, ints), omega (arith, ints), not_before e0_second_update e0_second_update refl refl (omega (arith, ints)) (λ q. omega arith))),
  ((λ e. (refl, omega (arith, ints), omega (arith, ints), not_before e1_second_update e0_second_update refl refl (omega (arith, ints)) (λ q. omega arith))), tt),
)

fine_second_update : HasNoFault second_update m0_second_update (Some old)
fine_second_update = no_fault second_update m0_second_update (Some old) (omega arith) (omega arith) (λ t s. true≢false (sym t)) (λ t s. true≢false (sym t)) (λ f o. o refl) (refl, tt) refl

entry_second_update : IsEntryBefore second_update m0_second_update (Some old)
entry_second_update = inr ((λ x. true≢false (sym x.created)), refl)

same_entry_second_update : (before : Option Version) → IsEntryBefore second_update m0_second_update before → Some old ≡ before
same_entry_second_update before (inl x) = absurd (true≢false (sym x.0.created))
same_entry_second_update before (inr x) = sym x.1

clear_second_update : (key : ObjectKey) (place : ℕ) → IsClouded second_update key place → ⊥
clear_second_update = never_clouded second_update ((λ k y. cc (y.1)), ((λ k y. cc (y.1)), tt))

pub readable_second_update : IsReadable second_update
readable_second_update = record {
  lines = rising_is (λ (e : Event). e.line) second_update.events refl;
  numbered = all_from (λ (e : Event). 0 < e.line) second_update.events (each_of (λ (e : Event). 0 < e.line) second_update.events (omega arith, (omega arith, tt)));
  checkpoints = no_checkpoints second_update (refl, (refl, tt));
  order = order_is second_update refl refl refl;
  spans = record {
    rising = rising_is (λ (s : Span). s.revision) second_update.spans refl;
    sound = each_of (IsSpan second_update) second_update.spans (
      span_is second_update m0_second_update is_second_update group_second_update (written 14 1 2) (omega arith) refl refl refl
          (inr (each_event (λ k e. Hides a e → ⊥) second_update.events ((λ y. cc (y.1)), ((λ y. cc (y.1)), tt)))),
      tt,
    );
    full = each_making second_update (λ m. 10 < m.item.revision → (span : Span) × Contains second_update.spans span × (span.revision ≡ m.item.revision))
        ((λ l. (written 14 1 2, here (written 14 1 2) [], refl)), ((λ l. (written 14 1 2, here (written 14 1 2) [], refl)), tt));
  };
  versions = record {
    rising = rising_is (λ (v : Version). v.revision) second_update.versions refl;
    sound = each_of (λ v. IsSnapshotVersion second_update v ⊎ IsMadeVersion second_update v) second_update.versions
        (inl (record { below = omega arith; maker = refl; listed = here (object a 9 A 1) [] }), (inr (made_sole second_update m0_second_update is_second_update group_second_update new (omega arith) refl refl refl refl refl (Some old) entry_second_update fine_second_update U7 (excludes refl (λ x. omega (arith, x.0)))), tt));
    full_snapshot = each_of (λ i. (v : Version) × Contains second_update.versions v × (item_of v ≡ i)) second_update.snapshot ((old, here old (new ∷ []), refl), tt);
    full_log = each_making second_update (λ m. 10 < m.item.revision → (v : Version) × Contains second_update.versions v × (v.revision ≡ m.item.revision))
        ((λ l. (new, there old new (new ∷ []) (here new []), refl)), ((λ l. (new, there old new (new ∷ []) (here new []), refl)), tt));
  };
  removals = no_removals second_update refl ((λ k u e. cc e), ((λ k u e. cc e), tt));
}

first_second_update : (choice : List ℕ) → IsRightUnder second_update choice 0 e0_second_update
first_second_update choice = record {
  fixed = record { level = refl; stage = refl; by_word = λ before e. subst (λ z. HasNoFault second_update m0_second_update z) (same_entry_second_update before e) fine_second_update; decision = λ d e. absurd (cc e) };
  answer = λ w. absurd (cc w);
}

found_place : IsLeastPlace unchanged_update [] 1 e1_unchanged_update 14
found_place = record {
  inside = (omega arith, omega arith);
  right = inr ((refl, refl, refl), could_find unchanged_update m1_unchanged_update refl (tt, tt) refl);
  least = λ other w x. at other x;
}
  where
    at : (other : ℕ) → IsClouded unchanged_update a other ⊎ (IsShown item (state unchanged_update [] other a) × CouldHaveFound unchanged_update m1_unchanged_update) → 14 ≤ other
    at other (inl c) = absurd (clear_unchanged_update a other c)
    at other (inr x) = shown_above unchanged_update [] other item a x.0

rights : EachAt (λ n e. IsRightUnder unchanged_update [] n e) unchanged_update.events
rights = (
  first_unchanged_update [],
  (record { fixed = record { level = refl; stage = refl; by_word = tt; decision = λ d e. absurd (cc e) }; answer = λ w. (14, found_place.inside, found_place.right) }, tt),
)

nothing : (other : List ℕ) → IsChoice [] other → AllZip ◌≤◌ [] other
nothing [] c = tt
nothing (x ∷ xs) c = absurd c

placed_lines : EachLine (λ n e l. IsPlacedLine unchanged_update [] n e l) unchanged_update.events (line 1 (placed.Made 14) ∷ line 2 (placed.At 14) ∷ [])
placed_lines = (record { of_event = refl; answer = refl; decision = refl }, (record { of_event = refl; answer = (14, found_place, refl); decision = refl }, tt))

pub unchanged : IsOutcome unchanged_update unchanged_update_outcome
unchanged = explanation unchanged_update [] (line 1 (placed.Made 14) ∷ line 2 (placed.At 14) ∷ []) readable_unchanged_update tt rights nothing
    (lines_are unchanged_update [] (line 1 (placed.Made 14) ∷ line 2 (placed.At 14) ∷ []) placed_lines)

-- the second could not have found what it was answered with
not_found : (choice : List ℕ) → AnswerHolds second_update choice 1 e1_second_update → ⊥
not_found choice f = go (f refl)
  where
    go : (place : ℕ) × InWindow second_update e1_second_update place
        × (IsClouded second_update a place ⊎ (IsShown item (state second_update choice place a) × CouldHaveFound second_update m1_second_update)) → ⊥
    go (place, i, inl c) = clear_second_update a place c
    go (place, i, inr x) = x.1 U7 (excludes refl (λ y. omega (arith, y.0)))

seven : (other : Reason) → IsCandidate second_update 1 1 e1_second_update other → 7 ≤ code_number other
seven other (inl (level c e)) = absurd (true≢false (sym e))
seven other (inl (stage c e)) = absurd (true≢false (sym e))
seven other (inl (stray c e)) = absurd (cc e)
seven other (inl (making m before e x f)) = absurd (cc e)
seven other (inl (removal r c e x)) = absurd (cc e)
seven other (inl (found i created e x k (creates c t))) = absurd (cc (x, t))
seven other (inl (found i created e x k (excludes c n))) = omega (arith, ap code_number c)
seven other (inl (found i created e x k (changes c n))) = omega (arith, ap code_number c)
seven other (inl (answer c e x)) = omega (arith, ap code_number c)
seven other (inl (decision d c e x)) = absurd (cc e)
seven other (inr (c, x)) = omega (arith, ap code_number c)

pub second : IsOutcome second_update second_update_outcome
second = record {
  event = e1_second_update;
  earliest = earliest second_update [] 1 1 e1_second_update U7 readable_second_update refl refl tt
      (λ n e j k. each_of (λ n. (event : Event) → IsEvent second_update n event → IsRightUnder second_update [] n event) (0 ∷ []) (right_for second_update [] 0 e0_second_update refl (first_second_update []), tt) n j e k)
      (λ other c f x. not_found other x.answer)
      (record {
        candidate = inl (found item false refl refl (λ (place, l, m, c). clear_second_update a place c) (excludes refl (λ x. omega (arith, x.0))));
        least = seven;
      });
  from = refl;
  to = refl;
  written = record {
    sorted = λ i j d l m. absurd (omega (arith, l, m));
    sound = each_of (IsWriteIn second_update 10 last_place) (MadeAt 14 1 a ∷ [])
        (made_in second_update 10 last_place new m0_second_update (there old new (new ∷ []) (here new [])) (omega arith) (omega arith) (omega arith) (record { making = is_second_update; of_key = refl; at_revision = refl }, refl), tt);
    full = all;
  };
}
  where
    all : (w : Write) → IsWriteIn second_update 10 last_place w → Contains (MadeAt 14 1 a ∷ []) w
    all (RemovedIn low high line key) w = absurd (not_in_none w.known)
    all (MadeAt revision line key) w = listed_at (MadeAt 14 1 a) (MadeAt revision line key) []
        (made_line second_update 10 last_place revision line key new 0 e0_second_update refl refl w
        (each_of (λ v. 10 < v.revision → v ≡ new) second_update.versions ((λ l. absurd (omega (arith, l))), ((λ l. refl), tt)) w.version w.known w.above))
