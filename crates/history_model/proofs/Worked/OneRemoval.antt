use Rattle.std.proofs.Common.{◌≡◌, ℕ, ◌<◌, ◌≤◌, ◌⊎◌, true, [], ◌∷◌, List, Some, None, IsNone, Contains, slice_get, slice_index, inl, inr, refl, sym, ap, ◌∙◌, subst, arith, true≢false, lit≤}
use Rattle.std.proofs.lemmas.Int.{ints}
use Rattle.base_types.specs.Choices.{IsChoice}
use Rattle.base_types.specs.declared.verdict.claim.Reason.TheVariants.{U4, U10}
use Rattle.base_types.specs.declared.kubernetes.key.ObjectKey.{ObjectKey}
use Rattle.history_model.proofs.Global.{run_is_right}
use Rattle.history_model.proofs.Latest.{latest_is, latest_same}
use Rattle.history_model.proofs.LocalBounds.{absence_is, presence_is, none_or_latest}
use Rattle.history_model.proofs.Members.{there, all_from, pairs_cons}
use Rattle.history_model.proofs.Worked.Kit.{each_of, each_making, rising_is, order_is, not_before, Follows, IsGroup, span_is, made_sole, no_fault, no_checkpoints, other_key, earliest, reader_least, never_clouded, right_for, made_in, made_line, listed_at, other_text, one_removal_is, judged_right}
use Rattle.history_model.specs.Clouds.{IsClouded}
use Rattle.history_model.specs.Codes.{IsChoiceUpTo}
use Rattle.history_model.specs.Events.{Event, Made, Saw, SawNone, Removed}
use Rattle.history_model.specs.Examples.{a, b, A, B, object, request, written, version, line}
use Rattle.history_model.specs.Groups.{Making, IsMaking, IsSpan}
use Rattle.history_model.specs.Histories.{Version, Removal, Span, ByEvent, ranges}
use Rattle.history_model.specs.Local.{IsRightUnder, AreRightUpTo, AnswerHolds}
use Rattle.history_model.specs.Makers.{IsSnapshotVersion, IsMadeVersion, item_of}
use Rattle.history_model.specs.Machine.{event_line}
use Rattle.history_model.specs.Making.{HasNoFault, creates}
use Rattle.history_model.specs.Outcomes.{IsOutcome, Write, MadeAt, RemovedIn, IsWriteIn, IsListedBefore}
use Rattle.history_model.specs.Readable.{IsReadable}
use Rattle.history_model.specs.Right.{IsShown}
use Rattle.history_model.specs.States.{latest, state}
use Rattle.history_model.specs.Windows.{last_place, InWindow}
use Rattle.history_model.specs.Examples.{removal_of_a, one_removal, one_removal_outcome}

abbrev e0 : Event
e0 = request 1 1 2 (Made (object a 14 A 1) true)

abbrev v14 : Version
v14 = version (object a 14 A 1) (ByEvent 0)

abbrev e1 : Event
e1 = request 2 3 20 (Removed a A)

abbrev e2 : Event
e2 = request 3 5 6 (SawNone a)

abbrev e3 : Event
e3 = request 4 7 8 (Made (object b 16 B 1) true)

abbrev e4 : Event
e4 = request 5 9 10 (Saw (object a 14 A 1))

abbrev v16 : Version
v16 = version (object b 16 B 1) (ByEvent 3)

abbrev m0_one_removal : Making
m0_one_removal = record { number = 0; event = e0; item = object a 14 A 1; created = true }

is0_one_removal : IsMaking one_removal m0_one_removal
is0_one_removal = record { known = refl; made = refl }

abbrev m3_one_removal : Making
m3_one_removal = record { number = 3; event = e3; item = object b 16 B 1; created = true }

is3_one_removal : IsMaking one_removal m3_one_removal
is3_one_removal = record { known = refl; made = refl }

group0_one_removal : IsGroup one_removal m0_one_removal
group0_one_removal = each_making one_removal (λ o. o.item.revision ≡ 14 → Follows m0_one_removal o) ((λ q. (refl, omega (arith, ints), omega (arith, ints), not_before e0 e0 refl refl (omega (arith, ints)) (λ z. omega arith))), (tt, (tt, ((λ q. absurd (omega (arith, q))), (tt, tt)))))

group3_one_removal : IsGroup one_removal m3_one_removal
group3_one_removal = each_making one_removal (λ o. o.item.revision ≡ 16 → Follows m3_one_removal o) ((λ q. absurd (omega (arith, q))), (tt, (tt, ((λ q. (refl, omega (arith, ints), omega (arith, ints), not_before e3 e3 refl refl (omega (arith, ints)) (λ z. omega arith))), (tt, tt)))))

fine0_one_removal : HasNoFault one_removal m0_one_removal None
fine0_one_removal = no_fault one_removal m0_one_removal None (omega arith) (omega arith) (λ t s. cc s)
    (λ t (w, c, l, e). each_of (λ (v : Version). v.revision < 14 → v.uid ≡ A → ⊥) one_removal.versions ((λ l q. omega (arith, l)), ((λ l q. omega (arith, l)), tt)) w c l e) (λ t o. cc t) (refl, refl) refl

fine3_one_removal : HasNoFault one_removal m3_one_removal None
fine3_one_removal = no_fault one_removal m3_one_removal None (omega arith) (omega arith) (λ t s. cc s)
    (λ t (w, c, l, e). each_of (λ (v : Version). v.revision < 16 → v.uid ≡ B → ⊥) one_removal.versions ((λ l q. other_text A B refl q), ((λ l q. omega (arith, l)), tt)) w c l e) (λ t o. cc t) (refl, refl) refl

clear_one_removal : (key : ObjectKey) (place : ℕ) → IsClouded one_removal key place → ⊥
clear_one_removal = never_clouded one_removal ((λ k y. cc (y.1)), ((λ k y. cc (y.1)), ((λ k y. cc (y.1)), ((λ k y. cc (y.1)), ((λ k y. cc (y.1)), tt)))))

pub readable_one_removal : IsReadable one_removal
readable_one_removal = record {
  lines = rising_is (λ (e : Event). e.line) one_removal.events refl;
  numbered = all_from (λ (e : Event). 0 < e.line) one_removal.events (each_of (λ (e : Event). 0 < e.line) one_removal.events (omega arith, (omega arith, (omega arith, (omega arith, (omega arith, tt))))));
  checkpoints = no_checkpoints one_removal (refl, (refl, (refl, (refl, (refl, tt)))));
  order = order_is one_removal refl refl refl;
  spans = record {
    rising = rising_is (λ (s : Span). s.revision) one_removal.spans refl;
    sound = each_of (IsSpan one_removal) one_removal.spans (span_is one_removal m0_one_removal is0_one_removal group0_one_removal (written 14 1 2) (omega arith) refl refl refl (inl (m0_one_removal, record { making = is0_one_removal; of_key = refl; at_revision = refl }, inl refl)), (span_is one_removal m3_one_removal is3_one_removal group3_one_removal (written 16 7 8) (omega arith) refl refl refl (inl (m3_one_removal, record { making = is3_one_removal; of_key = refl; at_revision = refl }, inl refl)), tt));
    full = each_making one_removal (λ m. 10 < m.item.revision → (span : Span) × Contains one_removal.spans span × (span.revision ≡ m.item.revision)) ((λ l. (written 14 1 2, (0, omega arith, refl), refl)), (tt, (tt, ((λ l. (written 16 7 8, (1, omega arith, refl), refl)), (tt, tt)))));
  };
  versions = record {
    rising = rising_is (λ (v : Version). v.revision) one_removal.versions refl;
    sound = each_of (λ v. IsSnapshotVersion one_removal v ⊎ IsMadeVersion one_removal v) one_removal.versions (inr (made_sole one_removal m0_one_removal is0_one_removal group0_one_removal (v14) (omega arith) refl refl refl refl refl None refl fine0_one_removal U4 (creates refl refl)), (inr (made_sole one_removal m3_one_removal is3_one_removal group3_one_removal (v16) (omega arith) refl refl refl refl refl None refl fine3_one_removal U4 (creates refl refl)), tt));
    full_snapshot = each_of (λ i. (v : Version) × Contains one_removal.versions v × (item_of v ≡ i)) one_removal.snapshot tt;
    full_log = each_making one_removal (λ m. 10 < m.item.revision → (v : Version) × Contains one_removal.versions v × (v.revision ≡ m.item.revision)) ((λ l. (v14, (0, omega arith, refl), refl)), (tt, (tt, ((λ l. (v16, (1, omega arith, refl), refl)), (tt, tt)))));
  };
  removals = one_removal_is one_removal removal_of_a v14 e1 refl (0, omega arith, refl) ((λ e. refl), ((λ e. absurd (other_key b a refl e)), tt)) refl refl ((λ k u e. cc e), ((λ k u e. (refl, cc e, cc e)), ((λ k u e. cc e), ((λ k u e. cc e), ((λ k u e. cc e), tt))))) refl refl refl refl refl (lit≤ tt);
}

right0_one_removal : (choice : List ℕ) → IsRightUnder one_removal choice 0 e0
right0_one_removal choice = record {
  fixed = record { level = refl; stage = refl; by_word = λ before e. subst (λ z. HasNoFault one_removal m0_one_removal z) (sym e) fine0_one_removal; decision = λ d e. absurd (cc e) };
  answer = λ w. absurd (cc w);
}

right3_one_removal : (choice : List ℕ) → IsRightUnder one_removal choice 3 e3
right3_one_removal choice = record {
  fixed = record { level = refl; stage = refl; by_word = λ before e. subst (λ z. HasNoFault one_removal m3_one_removal z) (sym e) fine3_one_removal; decision = λ d e. absurd (cc e) };
  answer = λ w. absurd (cc w);
}

-- from revision 14 on it is the latest of its key
latest_is_14 : (place : ℕ) → 14 ≤ place → latest one_removal.versions a place ≡ Some v14
latest_is_14 place l = latest_same one_removal.versions a place (latest one_removal.versions a place) (Some v14) readable_one_removal.versions.rising (latest_is one_removal.versions a place)
    ((0, omega arith, refl), refl, l, each_of (λ w. w.key ≡ a → w.revision ≤ place → w.revision ≤ 14) one_removal.versions ((λ k y. omega arith), ((λ k y. absurd (other_key b a refl k)), tt)))

-- the first reader wants the removal before revision 16
gone_by : (choice : List ℕ) → IsChoice (ranges one_removal) choice → AnswerHolds one_removal choice 2 e2 → slice_index choice 0 ≤ 15
gone_by choice c f = go (f refl)
  where
    go : (place : ℕ) × InWindow one_removal e2 place × (IsClouded one_removal a place ⊎ IsNone (state one_removal choice place a)) → slice_index choice 0 ≤ 15
    go (place, i, inl x) = absurd (clear_one_removal a place x)
    go (place, i, inr x) = at (none_or_latest one_removal choice readable_one_removal c a place v14 (latest_is_14 place i.0))
      where
        at : (state one_removal choice place a ≡ None) ⊎ (state one_removal choice place a ≡ Some v14) → slice_index choice 0 ≤ 15
        at (inl e) = omega (arith, ((absence_is one_removal choice readable_one_removal c a place 0 v14 removal_of_a (latest_is_14 place i.0) (refl, refl)).0 e).1, i.1)
        at (inr e) = absurd (true≢false (subst (λ z. IsNone z) e x))

-- the second wants it behind
there_by : (choice : List ℕ) → IsChoice (ranges one_removal) choice → AnswerHolds one_removal choice 4 e4 → 16 < slice_index choice 0
there_by choice c f = go (f refl)
  where
    go : (place : ℕ) × InWindow one_removal e4 place × (IsClouded one_removal a place ⊎ IsShown (object a 14 A 1) (state one_removal choice place a)) → 16 < slice_index choice 0
    go (place, i, inl x) = absurd (clear_one_removal a place x)
    go (place, i, inr x) = at (none_or_latest one_removal choice readable_one_removal c a place v14 (latest_is_14 place (omega (arith, i.0))))
      where
        at : (state one_removal choice place a ≡ None) ⊎ (state one_removal choice place a ≡ Some v14) → 16 < slice_index choice 0
        at (inl e) = absurd (subst (λ z. IsShown (object a 14 A 1) z) e x)
        at (inr e) = omega (arith, ((presence_is one_removal choice readable_one_removal c a place 0 v14 removal_of_a (latest_is_14 place (omega (arith, i.0))) (refl, refl)).0 e).0, i.0)

abbrev choice : List ℕ
choice = 15 ∷ []

right2 : IsRightUnder one_removal choice 2 e2
right2 = record { fixed = record { level = refl; stage = refl; by_word = tt; decision = λ d e. absurd (cc e) }; answer = λ w. (15, (omega arith, omega arith), inr refl) }

pub outcome : IsOutcome one_removal one_removal_outcome
outcome = record {
  event = e4;
  earliest = earliest one_removal choice 3 4 e4 U10 readable_one_removal refl refl ((omega arith, omega arith), tt)
      (judged_right one_removal 3 choice (right_for one_removal choice 0 e0 refl (right0_one_removal choice), (right_for one_removal choice 2 e2 refl right2, (right_for one_removal choice 3 e3 refl (right3_one_removal choice), tt))))
      (λ other c f x. omega (arith, gone_by other c (f 2 e2 (1, omega arith, refl) refl).answer, there_by other c x.answer))
      (reader_least one_removal 3 4 e4 refl refl refl refl (λ i c e. cc e) (inr (refl, none)));
  from = refl;
  to = refl;
  written = record {
    sorted = pairs_cons IsListedBefore (RemovedIn 15 last_place 2 a) (MadeAt 16 4 b ∷ []) (all_from (IsListedBefore (RemovedIn 15 last_place 2 a)) (MadeAt 16 4 b ∷ [])
        (each_of (IsListedBefore (RemovedIn 15 last_place 2 a)) (MadeAt 16 4 b ∷ []) (inl (omega arith), tt))) (λ i j d l m. absurd (omega (arith, l, m)));
    sound = each_of (IsWriteIn one_removal 16 last_place) (RemovedIn 15 last_place 2 a ∷ MadeAt 16 4 b ∷ []) (
      record { removal = removal_of_a; known = (0, omega arith, refl); inside = (omega arith, omega arith, omega arith); of_first = refl; of_last = refl; of_key = refl; of_line = refl },
      (made_in one_removal 16 last_place v16 m3_one_removal (1, omega arith, refl) (omega arith) (omega arith) (omega arith) (record { making = is3_one_removal; of_key = refl; at_revision = refl }, refl), tt),
    );
    full = all;
  };
}
  where
    none : (other : List ℕ) → IsChoiceUpTo one_removal 3 other → AnswerHolds one_removal other 4 e4 → ⊥
    none other (p', run, e) x = omega (arith, gone_by other chosen (right 2 e2 (1, omega arith, refl) refl).answer, there_by other chosen x)
      where
        chosen : IsChoice (ranges one_removal) other
        chosen = subst (λ z. IsChoice (ranges one_removal) z) e run.placed.chosen

        right : AreRightUpTo one_removal 3 other
        right = subst (λ z. AreRightUpTo one_removal 3 z) e (run_is_right one_removal 3 p' readable_one_removal run)

    all : (w : Write) → IsWriteIn one_removal 16 last_place w → Contains (RemovedIn 15 last_place 2 a ∷ MadeAt 16 4 b ∷ []) w
    all (RemovedIn low high line key) w = listed_at (RemovedIn 15 last_place 2 a) (RemovedIn low high line key) (MadeAt 16 4 b ∷ []) (λ i. RemovedIn (lows i) (highs i) (lines i) (keys i))
      where
        same : w.removal ≡ removal_of_a
        same = each_of (λ r. r ≡ removal_of_a) one_removal.removals (refl, tt) w.removal w.known

        lows : 15 ≡ low
        lows = sym (w.of_first ∙ ap (λ (r : Removal). r.range.low) same)

        highs : last_place ≡ high
        highs = sym (w.of_last ∙ ap (λ (r : Removal). r.range.high) same)

        lines : 2 ≡ line
        lines = sym (w.of_line ∙ ap (λ (r : Removal). event_line (slice_get one_removal.events r.range.event)) same)

        keys : a ≡ key
        keys = sym (w.of_key ∙ ap (λ (r : Removal). r.key) same)
    all (MadeAt revision line key) w = there (RemovedIn 15 last_place 2 a) (MadeAt revision line key) (MadeAt 16 4 b ∷ []) (listed_at (MadeAt 16 4 b) (MadeAt revision line key) []
        (made_line one_removal 16 last_place revision line key v16 3 e3 refl refl w
        (each_of (λ v. 16 ≤ v.revision → v ≡ v16) one_removal.versions ((λ l. absurd (omega (arith, l))), ((λ l. refl), tt)) w.version w.known (omega (arith, w.inside.0, w.of_revision)))))
