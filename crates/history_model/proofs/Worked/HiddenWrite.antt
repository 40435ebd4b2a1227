use Rattle.std.proofs.Common.{◌≡◌, ℕ, ◌<◌, ◌≤◌, ◌⊎◌, false, [], ◌∷◌, List, Option, Some, None, Contains, inl, inr, refl, sym, subst, arith, true≢false}
use Rattle.std.specs.List.{AllZip}
use Rattle.std.proofs.lemmas.Int.{ints}
use Rattle.base_types.specs.Choices.{IsChoice}
use Rattle.base_types.specs.Covers.{Covers}
use Rattle.base_types.specs.declared.verdict.claim.Reason.TheVariants.{U7, U10}
use Rattle.base_types.specs.declared.verdict.placed.PlacedAnswer.TheVariants as placed
use Rattle.history_model.proofs.Members.{not_in_none, all_from}
use Rattle.history_model.proofs.Worked.Kit.{each_of, each_event, each_making, rising_is, order_is, not_before, Follows, IsGroup, span_is, made_sole, no_fault_clouded, no_removals, no_checkpoints, explanation, EachLine, lines_are, earliest, reader_least, shown_above, right_for, made_in, made_line, listed_at, state_in, judged_right}
use Rattle.history_model.specs.Clouds.{IsClouded, IsHiddenBy}
use Rattle.history_model.specs.Codes.{answer}
use Rattle.history_model.specs.Events.{Conditions, Event, Made, Saw, Opaque}
use Rattle.history_model.specs.Examples.{p, P, object, asked, request, written, version, line}
use Rattle.history_model.specs.Groups.{Making, IsMaking, IsSpan}
use Rattle.history_model.specs.Histories.{Version, Span, Snapshot, ByEvent}
use Rattle.history_model.specs.Local.{IsRightUnder, AnswerHolds}
use Rattle.history_model.specs.Makers.{IsSnapshotVersion, IsMadeVersion, item_of}
use Rattle.history_model.specs.Making.{HasNoFault, excludes, IsEntryBefore}
use Rattle.history_model.specs.Outcomes.{IsOutcome, Write, MadeAt, RemovedIn, IsWriteIn}
use Rattle.history_model.specs.Placed.{IsPlacedLine, IsLeastPlace}
use Rattle.history_model.specs.Readable.{IsReadable}
use Rattle.history_model.specs.Right.{IsShown}
use Rattle.history_model.specs.States.{state}
use Rattle.history_model.specs.Windows.{last_place, InWindow}
use Rattle.history_model.specs.Examples.{pod_cover, hidden_write, hidden_write_outcome, hidden_no_more, hidden_no_more_outcome}

abbrev asks : Conditions
asks = record { revision = Some 12; uid = Some P }

abbrev e0 : Event
e0 = request 1 1 2 (Opaque pod_cover)

abbrev e1 : Event
e1 = request 2 3 4 (Saw (object p 12 P 2))

abbrev e2 : Event
e2 = asked 3 5 6 asks (Made (object p 15 P 3) false)

abbrev e3 : Event
e3 = request 4 7 8 (Saw (object p 15 P 3))

abbrev e4 : Event
e4 = request 5 9 10 (Saw (object p 13 P 2))

abbrev v9 : Version
v9 = version (object p 9 P 1) Snapshot

abbrev v15 : Version
v15 = version (object p 15 P 3) (ByEvent 2)

covered : Covers pod_cover p
covered = record { group = refl; resource = refl; namespace = refl; name = refl }

abbrev m2_hidden_write : Making
m2_hidden_write = record { number = 2; event = e2; item = object p 15 P 3; created = false }

is2_hidden_write : IsMaking hidden_write m2_hidden_write
is2_hidden_write = record { known = refl; made = refl }

group2_hidden_write : IsGroup hidden_write m2_hidden_write
group2_hidden_write = each_making hidden_write (λ o. o.item.revision ≡ 15 → Follows m2_hidden_write o) (tt, (tt, ((λ q. (refl, omega (arith, ints), omega (arith, ints), not_before e2 e2 refl refl (omega (arith, ints)) (λ z. omega arith))), (tt, tt))))

cloud_hidden_write : (place : ℕ) → 10 < place → place < 15 → IsClouded hidden_write p place
cloud_hidden_write place l u = (
  0,
  e0,
  refl,
  record {
    hides = (pod_cover, refl, covered);
    begun = l;
    unseen = λ v c k b. each_of (λ v. 14 < v.revision → place < v.revision) hidden_write.versions ((λ b. absurd (omega (arith, b))), ((λ b. u), tt)) v c b;
  },
)

-- and nowhere else
cloud_in_hidden_write : (place : ℕ) → IsClouded hidden_write p place → (10 < place) × (place < 15)
cloud_in_hidden_write place (number, event, k, x) = each_event (λ m e. IsHiddenBy hidden_write p place e → (10 < place) × (place < 15)) hidden_write.events
    ((λ y. (y.begun, y.unseen v15 (1, omega arith, refl) refl (omega arith))), ((λ y. cc (y.hides.1)), ((λ y. cc (y.hides.1)), ((λ y. cc (y.hides.1)), tt)))) number event k x

fine2_hidden_write : HasNoFault hidden_write m2_hidden_write (Some v9)
fine2_hidden_write = no_fault_clouded hidden_write m2_hidden_write (Some v9) (omega arith) (omega arith) refl (cloud_hidden_write 14 (omega arith) (omega arith))

entry_hidden_write : IsEntryBefore hidden_write m2_hidden_write (Some v9)
entry_hidden_write = inr ((λ x. true≢false (sym x.created)), refl)

same_entry_hidden_write : (before : Option Version) → IsEntryBefore hidden_write m2_hidden_write before → Some v9 ≡ before
same_entry_hidden_write before (inl x) = absurd (true≢false (sym x.0.created))
same_entry_hidden_write before (inr x) = sym x.1

pub readable_hidden_write : IsReadable hidden_write
readable_hidden_write = record {
  lines = rising_is (λ (e : Event). e.line) hidden_write.events refl;
  numbered = all_from (λ (e : Event). 0 < e.line) hidden_write.events (each_of (λ (e : Event). 0 < e.line) hidden_write.events (omega arith, (omega arith, (omega arith, (omega arith, tt)))));
  checkpoints = no_checkpoints hidden_write (refl, (refl, (refl, (refl, tt))));
  order = order_is hidden_write refl refl refl;
  spans = record {
    rising = rising_is (λ (s : Span). s.revision) hidden_write.spans refl;
    sound = each_of (IsSpan hidden_write) hidden_write.spans (span_is hidden_write m2_hidden_write is2_hidden_write group2_hidden_write (written 15 5 6) (omega arith) refl refl refl (inl (m2_hidden_write, record { making = is2_hidden_write; of_key = refl; at_revision = refl }, inr (λ q. omega (arith, q)))), tt);
    full = each_making hidden_write (λ m. 10 < m.item.revision → (span : Span) × Contains hidden_write.spans span × (span.revision ≡ m.item.revision)) (tt, (tt, ((λ l. (written 15 5 6, (0, omega arith, refl), refl)), (tt, tt))));
  };
  versions = record {
    rising = rising_is (λ (v : Version). v.revision) hidden_write.versions refl;
    sound = each_of (λ v. IsSnapshotVersion hidden_write v ⊎ IsMadeVersion hidden_write v) hidden_write.versions (inl (record { below = omega arith; maker = refl; listed = (0, omega arith, refl) }), (inr (made_sole hidden_write m2_hidden_write is2_hidden_write group2_hidden_write v15 (omega arith) refl refl refl refl refl (Some v9) entry_hidden_write fine2_hidden_write U7 (excludes refl (λ x. omega (arith, x.0)))), tt));
    full_snapshot = each_of (λ i. (v : Version) × Contains hidden_write.versions v × (item_of v ≡ i)) hidden_write.snapshot ((v9, (0, omega arith, refl), refl), tt);
    full_log = each_making hidden_write (λ m. 10 < m.item.revision → (v : Version) × Contains hidden_write.versions v × (v.revision ≡ m.item.revision)) (tt, (tt, ((λ l. (v15, (1, omega arith, refl), refl)), (tt, tt))));
  };
  removals = no_removals hidden_write refl ((λ k u e. cc e), ((λ k u e. cc e), ((λ k u e. cc e), ((λ k u e. cc e), tt))));
}

right0_hidden_write : (choice : List ℕ) → IsRightUnder hidden_write choice 0 e0
right0_hidden_write choice = record { fixed = record { level = refl; stage = refl; by_word = tt; decision = λ d e. absurd (cc e) }; answer = λ w. absurd (cc w) }

right1_hidden_write : (choice : List ℕ) → IsRightUnder hidden_write choice 1 e1
right1_hidden_write choice = record { fixed = record { level = refl; stage = refl; by_word = tt; decision = λ d e. absurd (cc e) }; answer = λ w. (11, (omega arith, omega arith), inl (cloud_hidden_write 11 (omega arith) (omega arith))) }

right2_hidden_write : (choice : List ℕ) → IsRightUnder hidden_write choice 2 e2
right2_hidden_write choice = record {
  fixed = record { level = refl; stage = refl; by_word = λ before e. subst (λ z. HasNoFault hidden_write m2_hidden_write z) (same_entry_hidden_write before e) fine2_hidden_write; decision = λ d e. absurd (cc e) };
  answer = λ w. absurd (cc w);
}

right3_hidden_write : IsRightUnder hidden_write [] 3 e3
right3_hidden_write = record { fixed = record { level = refl; stage = refl; by_word = tt; decision = λ d e. absurd (cc e) }; answer = λ w. (15, (omega arith, omega arith), inr (refl, refl, refl)) }

abbrev m2_hidden_no_more : Making
m2_hidden_no_more = record { number = 2; event = e2; item = object p 15 P 3; created = false }

is2_hidden_no_more : IsMaking hidden_no_more m2_hidden_no_more
is2_hidden_no_more = record { known = refl; made = refl }

group2_hidden_no_more : IsGroup hidden_no_more m2_hidden_no_more
group2_hidden_no_more = each_making hidden_no_more (λ o. o.item.revision ≡ 15 → Follows m2_hidden_no_more o) (tt, (tt, ((λ q. (refl, omega (arith, ints), omega (arith, ints), not_before e2 e2 refl refl (omega (arith, ints)) (λ z. omega arith))), (tt, (tt, tt)))))

cloud_hidden_no_more : (place : ℕ) → 10 < place → place < 15 → IsClouded hidden_no_more p place
cloud_hidden_no_more place l u = (
  0,
  e0,
  refl,
  record {
    hides = (pod_cover, refl, covered);
    begun = l;
    unseen = λ v c k b. each_of (λ v. 14 < v.revision → place < v.revision) hidden_no_more.versions ((λ b. absurd (omega (arith, b))), ((λ b. u), tt)) v c b;
  },
)

-- and nowhere else
cloud_in_hidden_no_more : (place : ℕ) → IsClouded hidden_no_more p place → (10 < place) × (place < 15)
cloud_in_hidden_no_more place (number, event, k, x) = each_event (λ m e. IsHiddenBy hidden_no_more p place e → (10 < place) × (place < 15)) hidden_no_more.events
    ((λ y. (y.begun, y.unseen v15 (1, omega arith, refl) refl (omega arith))), ((λ y. cc (y.hides.1)), ((λ y. cc (y.hides.1)), ((λ y. cc (y.hides.1)), ((λ y. cc (y.hides.1)), tt))))) number event k x

fine2_hidden_no_more : HasNoFault hidden_no_more m2_hidden_no_more (Some v9)
fine2_hidden_no_more = no_fault_clouded hidden_no_more m2_hidden_no_more (Some v9) (omega arith) (omega arith) refl (cloud_hidden_no_more 14 (omega arith) (omega arith))

entry_hidden_no_more : IsEntryBefore hidden_no_more m2_hidden_no_more (Some v9)
entry_hidden_no_more = inr ((λ x. true≢false (sym x.created)), refl)

same_entry_hidden_no_more : (before : Option Version) → IsEntryBefore hidden_no_more m2_hidden_no_more before → Some v9 ≡ before
same_entry_hidden_no_more before (inl x) = absurd (true≢false (sym x.0.created))
same_entry_hidden_no_more before (inr x) = sym x.1

pub readable_hidden_no_more : IsReadable hidden_no_more
readable_hidden_no_more = record {
  lines = rising_is (λ (e : Event). e.line) hidden_no_more.events refl;
  numbered = all_from (λ (e : Event). 0 < e.line) hidden_no_more.events (each_of (λ (e : Event). 0 < e.line) hidden_no_more.events (omega arith, (omega arith, (omega arith, (omega arith, (omega arith, tt))))));
  checkpoints = no_checkpoints hidden_no_more (refl, (refl, (refl, (refl, (refl, tt)))));
  order = order_is hidden_no_more refl refl refl;
  spans = record {
    rising = rising_is (λ (s : Span). s.revision) hidden_no_more.spans refl;
    sound = each_of (IsSpan hidden_no_more) hidden_no_more.spans (span_is hidden_no_more m2_hidden_no_more is2_hidden_no_more group2_hidden_no_more (written 15 5 6) (omega arith) refl refl refl (inl (m2_hidden_no_more, record { making = is2_hidden_no_more; of_key = refl; at_revision = refl }, inr (λ q. omega (arith, q)))), tt);
    full = each_making hidden_no_more (λ m. 10 < m.item.revision → (span : Span) × Contains hidden_no_more.spans span × (span.revision ≡ m.item.revision)) (tt, (tt, ((λ l. (written 15 5 6, (0, omega arith, refl), refl)), (tt, (tt, tt)))));
  };
  versions = record {
    rising = rising_is (λ (v : Version). v.revision) hidden_no_more.versions refl;
    sound = each_of (λ v. IsSnapshotVersion hidden_no_more v ⊎ IsMadeVersion hidden_no_more v) hidden_no_more.versions (inl (record { below = omega arith; maker = refl; listed = (0, omega arith, refl) }), (inr (made_sole hidden_no_more m2_hidden_no_more is2_hidden_no_more group2_hidden_no_more v15 (omega arith) refl refl refl refl refl (Some v9) entry_hidden_no_more fine2_hidden_no_more U7 (excludes refl (λ x. omega (arith, x.0)))), tt));
    full_snapshot = each_of (λ i. (v : Version) × Contains hidden_no_more.versions v × (item_of v ≡ i)) hidden_no_more.snapshot ((v9, (0, omega arith, refl), refl), tt);
    full_log = each_making hidden_no_more (λ m. 10 < m.item.revision → (v : Version) × Contains hidden_no_more.versions v × (v.revision ≡ m.item.revision)) (tt, (tt, ((λ l. (v15, (1, omega arith, refl), refl)), (tt, (tt, tt)))));
  };
  removals = no_removals hidden_no_more refl ((λ k u e. cc e), ((λ k u e. cc e), ((λ k u e. cc e), ((λ k u e. cc e), ((λ k u e. cc e), tt)))));
}

right0_hidden_no_more : (choice : List ℕ) → IsRightUnder hidden_no_more choice 0 e0
right0_hidden_no_more choice = record { fixed = record { level = refl; stage = refl; by_word = tt; decision = λ d e. absurd (cc e) }; answer = λ w. absurd (cc w) }

right1_hidden_no_more : (choice : List ℕ) → IsRightUnder hidden_no_more choice 1 e1
right1_hidden_no_more choice = record { fixed = record { level = refl; stage = refl; by_word = tt; decision = λ d e. absurd (cc e) }; answer = λ w. (11, (omega arith, omega arith), inl (cloud_hidden_no_more 11 (omega arith) (omega arith))) }

right2_hidden_no_more : (choice : List ℕ) → IsRightUnder hidden_no_more choice 2 e2
right2_hidden_no_more choice = record {
  fixed = record { level = refl; stage = refl; by_word = λ before e. subst (λ z. HasNoFault hidden_no_more m2_hidden_no_more z) (same_entry_hidden_no_more before e) fine2_hidden_no_more; decision = λ d e. absurd (cc e) };
  answer = λ w. absurd (cc w);
}

right3_hidden_no_more : IsRightUnder hidden_no_more [] 3 e3
right3_hidden_no_more = record { fixed = record { level = refl; stage = refl; by_word = tt; decision = λ d e. absurd (cc e) }; answer = λ w. (15, (omega arith, omega arith), inr (refl, refl, refl)) }

nothing : (other : List ℕ) → IsChoice [] other → AllZip ◌≤◌ [] other
nothing [] c = tt
nothing (x ∷ xs) c = absurd c

hidden_place : IsLeastPlace hidden_write [] 1 e1 11
hidden_place = record { inside = (omega arith, omega arith); right = inl (cloud_hidden_write 11 (omega arith) (omega arith)); least = λ other w x. least other x }
  where
    least : (other : ℕ) → IsClouded hidden_write p other ⊎ IsShown (object p 12 P 2) (state hidden_write [] other p) → 11 ≤ other
    least other (inl c) = (cloud_in_hidden_write other c).0
    least other (inr x) = omega (arith, shown_above hidden_write [] other (object p 12 P 2) p x)

shown_place : IsLeastPlace hidden_write [] 3 e3 15
shown_place = record { inside = (omega arith, omega arith); right = inr (refl, refl, refl); least = λ other w x. omega (arith, w.0) }

placed_lines : EachLine (λ n e l. IsPlacedLine hidden_write [] n e l) hidden_write.events (line 1 placed.Nowhere ∷ line 2 (placed.At 11) ∷ line 3 (placed.Made 15) ∷ line 4 (placed.At 15) ∷ [])
placed_lines = (
  record { of_event = refl; answer = refl; decision = refl },
  (
    record { of_event = refl; answer = (11, hidden_place, refl); decision = refl },
    (record { of_event = refl; answer = refl; decision = refl }, (record { of_event = refl; answer = (15, shown_place, refl); decision = refl }, tt)),
  ),
)

pub hidden : IsOutcome hidden_write hidden_write_outcome
hidden = explanation hidden_write [] (line 1 placed.Nowhere ∷ line 2 (placed.At 11) ∷ line 3 (placed.Made 15) ∷ line 4 (placed.At 15) ∷ []) readable_hidden_write tt
    (right0_hidden_write [], (right1_hidden_write [], (right2_hidden_write [], (right3_hidden_write, tt)))) nothing
    (lines_are hidden_write [] (line 1 placed.Nowhere ∷ line 2 (placed.At 11) ∷ line 3 (placed.Made 15) ∷ line 4 (placed.At 15) ∷ []) placed_lines)

-- behind revision 15 no cloud hides a version that isn't there
not_thirteen : (choice : List ℕ) → AnswerHolds hidden_no_more choice 4 e4 → ⊥
not_thirteen choice f = go (f refl)
  where
    go : (place : ℕ) × InWindow hidden_no_more e4 place × (IsClouded hidden_no_more p place ⊎ IsShown (object p 13 P 2) (state hidden_no_more choice place p)) → ⊥
    go (place, i, inl c) = omega (arith, (cloud_in_hidden_no_more place c).1, i.0)
    go (place, i, inr x) = at (state_in hidden_no_more choice place p)
      where
        at : (state hidden_no_more choice place p ≡ None) ⊎ ((v : Version) × (state hidden_no_more choice place p ≡ Some v) × Contains hidden_no_more.versions v × (v.key ≡ p) × (v.revision ≤ place)) → ⊥
        at (inl e) = subst (λ z. IsShown (object p 13 P 2) z) e x
        at (inr (v, e, c, k, l)) = each_of (λ v. v.revision ≡ 13 → ⊥) hidden_no_more.versions ((λ q. omega (arith, q)), ((λ q. omega (arith, q)), tt)) v c (subst (λ z. IsShown (object p 13 P 2) z) e x).0

pub no_more : IsOutcome hidden_no_more hidden_no_more_outcome
no_more = record {
  event = e4;
  earliest = earliest hidden_no_more [] 4 4 e4 U10 readable_hidden_no_more refl refl tt
      (judged_right hidden_no_more 4 [] (
        right_for hidden_no_more [] 0 e0 refl (right0_hidden_no_more []),
        (
          right_for hidden_no_more [] 1 e1 refl (right1_hidden_no_more []),
          (right_for hidden_no_more [] 2 e2 refl (right2_hidden_no_more []), (right_for hidden_no_more [] 3 e3 refl right3_hidden_no_more, tt)),
        ),
      ))
      (λ other c f x. not_thirteen other x.answer)
      (reader_least hidden_no_more 4 4 e4 refl refl refl refl (λ i c e. cc e) (inl (answer refl refl (λ choice c f. not_thirteen choice f))));
  from = refl;
  to = refl;
  written = record {
    sorted = λ i j d l m. absurd (omega (arith, l, m));
    sound = each_of (IsWriteIn hidden_no_more 15 last_place) (MadeAt 15 3 p ∷ [])
        (made_in hidden_no_more 15 last_place v15 m2_hidden_no_more (1, omega arith, refl) (omega arith) (omega arith) (omega arith) (record { making = is2_hidden_no_more; of_key = refl; at_revision = refl }, refl), tt);
    full = all;
  };
}
  where
    all : (w : Write) → IsWriteIn hidden_no_more 15 last_place w → Contains (MadeAt 15 3 p ∷ []) w
    all (RemovedIn low high line key) w = absurd (not_in_none w.known)
    all (MadeAt revision line key) w = listed_at (MadeAt 15 3 p) (MadeAt revision line key) []
        (made_line hidden_no_more 15 last_place revision line key v15 2 e2 refl refl w
        (each_of (λ v. 10 < v.revision → v ≡ v15) hidden_no_more.versions ((λ l. absurd (omega (arith, l))), ((λ l. refl), tt)) w.version w.known w.above))
