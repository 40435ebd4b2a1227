use Rattle.std.proofs.Common.{◌≡◌, ℕ, ◌<◌, ◌≤◌, ◌⊎◌, true, [], ◌∷◌, List, Some, None, Contains, inl, inr, refl, sym, subst, arith, true≢false}
use Rattle.std.specs.List.{AllZip}
use Rattle.std.proofs.lemmas.Int.{ints}
use Rattle.base_types.specs.Choices.{IsChoice}
use Rattle.base_types.specs.declared.verdict.claim.Reason.TheVariants.{U4, U12}
use Rattle.base_types.specs.declared.kubernetes.key.ObjectKey.{ObjectKey}
use Rattle.base_types.specs.declared.verdict.placed.PlacedAnswer.TheVariants as placed
use Rattle.history_model.proofs.Members.{not_in_none, all_from}
use Rattle.history_model.proofs.Worked.Kit.{each_of, EachAt, each_making, rising_is, order_is, not_before, Follows, IsGroup, span_is, made_sole, no_fault, no_removals, no_checkpoints, explanation, EachLine, lines_are, earliest, reader_least, never_clouded, right_for, made_in, made_line, listed_at, state_in, judged_right}
use Rattle.history_model.specs.Clouds.{IsClouded}
use Rattle.history_model.specs.Codes.{answer}
use Rattle.history_model.specs.Events.{Event, Made, SawOther, Free}
use Rattle.history_model.specs.Examples.{a, A, object, asked, request, written, version, line}
use Rattle.history_model.specs.Groups.{Making, IsMaking, IsSpan}
use Rattle.history_model.specs.Histories.{Version, Span, ByEvent}
use Rattle.history_model.specs.Local.{IsRightUnder, AnswerHolds}
use Rattle.history_model.specs.Makers.{IsSnapshotVersion, IsMadeVersion, item_of}
use Rattle.history_model.specs.Making.{HasNoFault, creates, MeetsConditions}
use Rattle.history_model.specs.Outcomes.{IsOutcome, Write, MadeAt, RemovedIn, IsWriteIn}
use Rattle.history_model.specs.Placed.{IsPlacedLine}
use Rattle.history_model.specs.Readable.{IsReadable}
use Rattle.history_model.specs.Right.{IsRefused}
use Rattle.history_model.specs.States.{state}
use Rattle.history_model.specs.Windows.{last_place, InWindow}
use Rattle.history_model.specs.Examples.{conflict, conflict_outcome, conflict_unasked, conflict_unasked_outcome}

abbrev e0 : Event
e0 = request 1 1 2 (Made (object a 14 A 1) true)

abbrev v14 : Version
v14 = version (object a 14 A 1) (ByEvent 0)

abbrev refused : Event
refused = asked 2 3 4 (record { revision = Some 14; uid = None }) (SawOther a)

abbrev unasked' : Event
unasked' = request 2 3 4 Free

abbrev m0_conflict : Making
m0_conflict = record { number = 0; event = e0; item = object a 14 A 1; created = true }

is0_conflict : IsMaking conflict m0_conflict
is0_conflict = record { known = refl; made = refl }

group0_conflict : IsGroup conflict m0_conflict
group0_conflict = each_making conflict (λ o. o.item.revision ≡ 14 → Follows m0_conflict o) ((λ q. (refl, omega (arith, ints), omega (arith, ints), not_before e0 e0 refl refl (omega (arith, ints)) (λ z. omega arith))), (tt, tt))

fine0_conflict : HasNoFault conflict m0_conflict None
fine0_conflict = no_fault conflict m0_conflict None (omega arith) (omega arith) (λ t s. cc s)
    (λ t (w, c, l, e). each_of (λ (v : Version). v.revision < 14 → v.uid ≡ A → ⊥) conflict.versions ((λ l q. omega (arith, l)), tt) w c l e) (λ t o. cc t) (refl, refl) refl

clear_conflict : (key : ObjectKey) (place : ℕ) → IsClouded conflict key place → ⊥
clear_conflict = never_clouded conflict ((λ k y. cc (y.1)), ((λ k y. cc (y.1)), tt))

pub readable_conflict : IsReadable conflict
readable_conflict = record {
  lines = rising_is (λ (e : Event). e.line) conflict.events refl;
  numbered = all_from (λ (e : Event). 0 < e.line) conflict.events (each_of (λ (e : Event). 0 < e.line) conflict.events (omega arith, (omega arith, tt)));
  checkpoints = no_checkpoints conflict (refl, (refl, tt));
  order = order_is conflict refl refl refl;
  spans = record {
    rising = rising_is (λ (s : Span). s.revision) conflict.spans refl;
    sound = each_of (IsSpan conflict) conflict.spans (span_is conflict m0_conflict is0_conflict group0_conflict (written 14 1 2) (omega arith) refl refl refl (inl (m0_conflict, record { making = is0_conflict; of_key = refl; at_revision = refl }, inl refl)), tt);
    full = each_making conflict (λ m. 10 < m.item.revision → (span : Span) × Contains conflict.spans span × (span.revision ≡ m.item.revision)) ((λ l. (written 14 1 2, (0, omega arith, refl), refl)), (tt, tt));
  };
  versions = record {
    rising = rising_is (λ (v : Version). v.revision) conflict.versions refl;
    sound = each_of (λ v. IsSnapshotVersion conflict v ⊎ IsMadeVersion conflict v) conflict.versions (inr (made_sole conflict m0_conflict is0_conflict group0_conflict (v14) (omega arith) refl refl refl refl refl None refl fine0_conflict U4 (creates refl refl)), tt);
    full_snapshot = each_of (λ i. (v : Version) × Contains conflict.versions v × (item_of v ≡ i)) conflict.snapshot tt;
    full_log = each_making conflict (λ m. 10 < m.item.revision → (v : Version) × Contains conflict.versions v × (v.revision ≡ m.item.revision)) ((λ l. (v14, (0, omega arith, refl), refl)), (tt, tt));
  };
  removals = no_removals conflict refl ((λ k u e. cc e), ((λ k u e. cc e), tt));
}

right0_conflict : (choice : List ℕ) → IsRightUnder conflict choice 0 e0
right0_conflict choice = record {
  fixed = record { level = refl; stage = refl; by_word = λ before e. subst (λ z. HasNoFault conflict m0_conflict z) (sym e) fine0_conflict; decision = λ d e. absurd (cc e) };
  answer = λ w. absurd (cc w);
}

abbrev m0_conflict_unasked : Making
m0_conflict_unasked = record { number = 0; event = e0; item = object a 14 A 1; created = true }

is0_conflict_unasked : IsMaking conflict_unasked m0_conflict_unasked
is0_conflict_unasked = record { known = refl; made = refl }

group0_conflict_unasked : IsGroup conflict_unasked m0_conflict_unasked
group0_conflict_unasked = each_making conflict_unasked (λ o. o.item.revision ≡ 14 → Follows m0_conflict_unasked o) ((λ q. (refl, omega (arith, ints), omega (arith, ints), not_before e0 e0 refl refl (omega (arith, ints)) (λ z. omega arith))), (tt, tt))

fine0_conflict_unasked : HasNoFault conflict_unasked m0_conflict_unasked None
fine0_conflict_unasked = no_fault conflict_unasked m0_conflict_unasked None (omega arith) (omega arith) (λ t s. cc s)
    (λ t (w, c, l, e). each_of (λ (v : Version). v.revision < 14 → v.uid ≡ A → ⊥) conflict_unasked.versions ((λ l q. omega (arith, l)), tt) w c l e) (λ t o. cc t) (refl, refl) refl

clear_conflict_unasked : (key : ObjectKey) (place : ℕ) → IsClouded conflict_unasked key place → ⊥
clear_conflict_unasked = never_clouded conflict_unasked ((λ k y. cc (y.1)), ((λ k y. cc (y.1)), tt))

pub readable_conflict_unasked : IsReadable conflict_unasked
readable_conflict_unasked = record {
  lines = rising_is (λ (e : Event). e.line) conflict_unasked.events refl;
  numbered = all_from (λ (e : Event). 0 < e.line) conflict_unasked.events (each_of (λ (e : Event). 0 < e.line) conflict_unasked.events (omega arith, (omega arith, tt)));
  checkpoints = no_checkpoints conflict_unasked (refl, (refl, tt));
  order = order_is conflict_unasked refl refl refl;
  spans = record {
    rising = rising_is (λ (s : Span). s.revision) conflict_unasked.spans refl;
    sound = each_of (IsSpan conflict_unasked) conflict_unasked.spans (span_is conflict_unasked m0_conflict_unasked is0_conflict_unasked group0_conflict_unasked (written 14 1 2) (omega arith) refl refl refl (inl (m0_conflict_unasked, record { making = is0_conflict_unasked; of_key = refl; at_revision = refl }, inl refl)), tt);
    full = each_making conflict_unasked (λ m. 10 < m.item.revision → (span : Span) × Contains conflict_unasked.spans span × (span.revision ≡ m.item.revision)) ((λ l. (written 14 1 2, (0, omega arith, refl), refl)), (tt, tt));
  };
  versions = record {
    rising = rising_is (λ (v : Version). v.revision) conflict_unasked.versions refl;
    sound = each_of (λ v. IsSnapshotVersion conflict_unasked v ⊎ IsMadeVersion conflict_unasked v) conflict_unasked.versions (inr (made_sole conflict_unasked m0_conflict_unasked is0_conflict_unasked group0_conflict_unasked (v14) (omega arith) refl refl refl refl refl None refl fine0_conflict_unasked U4 (creates refl refl)), tt);
    full_snapshot = each_of (λ i. (v : Version) × Contains conflict_unasked.versions v × (item_of v ≡ i)) conflict_unasked.snapshot tt;
    full_log = each_making conflict_unasked (λ m. 10 < m.item.revision → (v : Version) × Contains conflict_unasked.versions v × (v.revision ≡ m.item.revision)) ((λ l. (v14, (0, omega arith, refl), refl)), (tt, tt));
  };
  removals = no_removals conflict_unasked refl ((λ k u e. cc e), ((λ k u e. cc e), tt));
}

right0_conflict_unasked : (choice : List ℕ) → IsRightUnder conflict_unasked choice 0 e0
right0_conflict_unasked choice = record {
  fixed = record { level = refl; stage = refl; by_word = λ before e. subst (λ z. HasNoFault conflict_unasked m0_conflict_unasked z) (sym e) fine0_conflict_unasked; decision = λ d e. absurd (cc e) };
  answer = λ w. absurd (cc w);
}

nothing : (other : List ℕ) → IsChoice [] other → AllZip ◌≤◌ [] other
nothing [] c = tt
nothing (x ∷ xs) c = absurd c

-- wherever the object is there, it meets the condition
met : (choice : List ℕ) → AnswerHolds conflict choice 1 refused → ⊥
met choice f = go (f refl)
  where
    go : (place : ℕ) × InWindow conflict refused place × (IsClouded conflict a place ⊎ IsRefused refused.conditions (state conflict choice place a)) → ⊥
    go (place, i, inl c) = clear_conflict a place c
    go (place, i, inr x) = at (state_in conflict choice place a)
      where
        at : (state conflict choice place a ≡ None) ⊎ ((v : Version) × (state conflict choice place a ≡ Some v) × Contains conflict.versions v × (v.key ≡ a) × (v.revision ≤ place)) → ⊥
        at (inl e) = true≢false (sym (subst (λ z. IsRefused refused.conditions z) e x))
        at (inr (v, e, c, k, l)) = subst (λ z. IsRefused refused.conditions z) e x (each_of (λ v. MeetsConditions refused.conditions (Some v)) conflict.versions ((refl, tt), tt) v c)

pub refused_outcome : IsOutcome conflict conflict_outcome
refused_outcome = record {
  event = refused;
  earliest = earliest conflict [] 1 1 refused U12 readable_conflict refl refl tt
      (judged_right conflict 1 [] (right_for conflict [] 0 e0 refl (right0_conflict []), tt))
      (λ other c f x. met other x.answer)
      (reader_least conflict 1 1 refused refl refl refl refl (λ i c e. cc e) (inl (answer refl refl (λ choice c f. met choice f))));
  from = refl;
  to = refl;
  written = record {
    sorted = λ i j d l m. absurd (omega (arith, l, m));
    sound = each_of (IsWriteIn conflict 14 last_place) (MadeAt 14 1 a ∷ [])
        (made_in conflict 14 last_place v14 m0_conflict (0, omega arith, refl) (omega arith) (omega arith) (omega arith) (record { making = is0_conflict; of_key = refl; at_revision = refl }, refl), tt);
    full = all;
  };
}
  where
    all : (w : Write) → IsWriteIn conflict 14 last_place w → Contains (MadeAt 14 1 a ∷ []) w
    all (RemovedIn low high line key) w = absurd (not_in_none w.known)
    all (MadeAt revision line key) w = listed_at (MadeAt 14 1 a) (MadeAt revision line key) []
        (made_line conflict 14 last_place revision line key v14 0 e0 refl refl w (each_of (λ v. v ≡ v14) conflict.versions (refl, tt) w.version w.known))

rights : EachAt (λ n e. IsRightUnder conflict_unasked [] n e) conflict_unasked.events
rights = (
  right0_conflict_unasked [],
  (record { fixed = record { level = refl; stage = refl; by_word = tt; decision = λ d e. absurd (cc e) }; answer = λ w. absurd (cc w) }, tt),
)

placed_lines : EachLine (λ n e l. IsPlacedLine conflict_unasked [] n e l) conflict_unasked.events (line 1 (placed.Made 14) ∷ line 2 placed.Nowhere ∷ [])
placed_lines = (record { of_event = refl; answer = refl; decision = refl }, (record { of_event = refl; answer = refl; decision = refl }, tt))

pub unasked_outcome : IsOutcome conflict_unasked conflict_unasked_outcome
unasked_outcome = explanation conflict_unasked [] (line 1 (placed.Made 14) ∷ line 2 placed.Nowhere ∷ []) readable_conflict_unasked tt rights nothing
    (lines_are conflict_unasked [] (line 1 (placed.Made 14) ∷ line 2 placed.Nowhere ∷ []) placed_lines)
