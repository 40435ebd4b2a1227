use Rattle.std.proofs.Common.{◌≡◌, ◌≢◌, ℕ, ◌<◌, ◌≤◌, ◌+◌, min, max, ◌⊎◌, true, [], ◌∷◌, List, Option, Some, None, IsSome, Contains, inl, inr, refl, sym, ap, ap₂, ◌∙◌, subst, arith}
use Rattle.std.proofs.lemmas.Int.{ints}
use Rattle.base_types.specs.declared.verdict.claim.Reason.TheVariants.{U4, U9}
use Rattle.base_types.specs.declared.kubernetes.key.ObjectKey.{ObjectKey}
use Rattle.history_model.proofs.Members.{not_in_none, all_from}
use Rattle.history_model.proofs.Worked.Kit.{each_of, each_event, each_making, rising_is, order_is, not_before, Follows, IsGroup, span_is, made_sole, made_faulty, no_fault, no_checkpoints, earliest, reader_least, never_clouded, right_for, made_in, made_line, listed_at, other_text, judged_right}
use Rattle.history_model.specs.Clouds.{IsClouded, MayBeUnrecorded}
use Rattle.history_model.specs.Codes.{answer}
use Rattle.history_model.specs.Events.{Text, Event, Made, Removed}
use Rattle.history_model.specs.Examples.{a, A, E, object, request, written, version, line}
use Rattle.history_model.specs.Groups.{Making, IsMaking, IsSpan, Hides}
use Rattle.history_model.specs.Histories.{Version, Removal, Span, ByEvent}
use Rattle.history_model.specs.Incarnations.{IsRemoval, IsRemovalOf, IsRemovalBehind, EndsBefore, place_before}
use Rattle.history_model.specs.Judging.{IsFirst}
use Rattle.history_model.specs.Local.{IsRightUnder, AnswerHolds}
use Rattle.history_model.specs.Makers.{IsSnapshotVersion, IsMadeVersion, CouldHaveMade, item_of}
use Rattle.history_model.specs.Making.{present, HasNoFault, creates, IsEntryBefore}
use Rattle.history_model.specs.Outcomes.{IsOutcome, Write, MadeAt, RemovedIn, IsWriteIn}
use Rattle.history_model.specs.Readable.{IsReadable}
use Rattle.history_model.specs.Windows.{lowest, highest, InWindow}
use Rattle.history_model.specs.Examples.{removal_without_place, removal_without_place_outcome}

abbrev e0 : Event
e0 = request 1 1 2 (Made (object a 20 A 1) true)

abbrev e1 : Event
e1 = request 2 3 4 (Removed a A)

abbrev e2 : Event
e2 = request 3 5 6 (Made (object a 21 E 1) true)

abbrev v20 : Version
v20 = version (object a 20 A 1) (ByEvent 0)

abbrev v21 : Version
v21 = version (object a 21 E 1) (ByEvent 2)

abbrev m0_removal_without_place : Making
m0_removal_without_place = record { number = 0; event = e0; item = object a 20 A 1; created = true }

is0_removal_without_place : IsMaking removal_without_place m0_removal_without_place
is0_removal_without_place = record { known = refl; made = refl }

abbrev m2_removal_without_place : Making
m2_removal_without_place = record { number = 2; event = e2; item = object a 21 E 1; created = true }

is2_removal_without_place : IsMaking removal_without_place m2_removal_without_place
is2_removal_without_place = record { known = refl; made = refl }

group0_removal_without_place : IsGroup removal_without_place m0_removal_without_place
group0_removal_without_place = each_making removal_without_place (λ o. o.item.revision ≡ 20 → Follows m0_removal_without_place o) ((λ q. (refl, omega (arith, ints), omega (arith, ints), not_before e0 e0 refl refl (omega (arith, ints)) (λ z. omega arith))), (tt, ((λ q. absurd (omega (arith, q))), tt)))

group2_removal_without_place : IsGroup removal_without_place m2_removal_without_place
group2_removal_without_place = each_making removal_without_place (λ o. o.item.revision ≡ 21 → Follows m2_removal_without_place o) ((λ q. absurd (omega (arith, q))), (tt, ((λ q. (refl, omega (arith, ints), omega (arith, ints), not_before e2 e2 refl refl (omega (arith, ints)) (λ z. omega arith))), tt)))

fine0_removal_without_place : HasNoFault removal_without_place m0_removal_without_place None
fine0_removal_without_place = no_fault removal_without_place m0_removal_without_place None (omega arith) (omega arith) (λ t s. cc s)
    (λ t (w, c, l, e). each_of (λ (v : Version). v.revision < 20 → v.uid ≡ A → ⊥) removal_without_place.versions ((λ l q. omega (arith, l)), ((λ l q. omega (arith, l)), tt)) w c l e) (λ t o. cc t) (refl, refl) refl

clear_removal_without_place : (key : ObjectKey) (place : ℕ) → IsClouded removal_without_place key place → ⊥
clear_removal_without_place = never_clouded removal_without_place ((λ k y. cc (y.1)), ((λ k y. cc (y.1)), ((λ k y. cc (y.1)), tt)))

-- the removal's event
removing : (key : ObjectKey) (uid : Text) (number : ℕ) (event : Event) → IsFirst removal_without_place (IsRemovalOf key uid) number event → (event ≡ e1) × (uid ≡ A)
removing key uid number event f = each_event (λ k e. e.answer ≡ Removed key uid → (e ≡ e1) × (uid ≡ A)) removal_without_place.events ((λ q. cc q), ((λ q. (refl, cc q)), ((λ q. cc q), tt))) number event f.known f.holds

-- behind the first object and before the second there is no place
no_room : (v : Version) (next : Option ℕ) (gone : Removal) → v ≡ v20 → next ≡ Some 21 → IsRemovalBehind removal_without_place v next gone → ⊥
no_room v next gone e q i = omega (arith, low, high, i.some_place)
  where
    facts : (i.event ≡ e1) × (v.uid ≡ A)
    facts = removing v.key v.uid gone.range.event i.event i.first

    low : gone.range.low ≡ 21
    low = i.low ∙ ap₂ (λ (x : Event) (z : Version). max (lowest removal_without_place x.lo) z.revision + 1) facts.0 e

    high : gone.range.high ≡ 20
    high = i.high ∙ ap₂ (λ (x : Event) z. min (highest removal_without_place x.hi) (place_before z)) facts.0 q

none_removed : (gone : Removal) → IsRemoval removal_without_place gone → ⊥
none_removed gone i = at i.version i.next i.known i.ends i.behind
  where
    at : (v : Version) (next : Option ℕ) → Contains removal_without_place.versions v → EndsBefore removal_without_place.versions v next → IsRemovalBehind removal_without_place v next gone → ⊥
    at v next c e x = by next e x (each_of (λ w. w.uid ≡ A → w ≡ v20) removal_without_place.versions ((λ u. refl), ((λ u. absurd (other_text E A refl u)), tt)) v c (removing v.key v.uid gone.range.event x.event x.first).1)
      where
        by : (next : Option ℕ) → EndsBefore removal_without_place.versions v next → IsRemovalBehind removal_without_place v next gone → v ≡ v20 → ⊥
        by None e x q = omega (arith, e v21 (1, omega arith, refl) (ap (λ (z : Version). z.key) (sym q)), ap (λ (z : Version). z.revision) q)
        by (Some next) e x q = go e.1
          where
            go : (w : Version) × Contains removal_without_place.versions w × (w.revision ≡ next) × (w.key ≡ v.key) × (w.uid ≢ v.uid) → ⊥
            go (w, d, r, k, u) = no_room v (Some next) gone q (ap Some (each_of (λ w. w.uid ≢ v.uid → w.revision ≡ next → next ≡ 21) removal_without_place.versions
                ((λ u r. absurd (u (ap (λ (z : Version). z.uid) (sym q)))), ((λ u r. sym r), tt)) w d u r)) x

-- the second object was created while the first was there
not_made : (o : Making) → CouldHaveMade removal_without_place a 21 o → ⊥
not_made o c = each_making removal_without_place (λ o. o.item.revision ≡ 21 → (before : Option Version) → IsEntryBefore removal_without_place o before → HasNoFault removal_without_place o before → ⊥)
    ((λ q. absurd (omega (arith, q))), (tt, (second, tt))) o c.member.making c.member.at_revision c.before c.entry c.faultless
  where
    second : m2_removal_without_place.item.revision ≡ 21 → (before : Option Version) → IsEntryBefore removal_without_place m2_removal_without_place before → HasNoFault removal_without_place m2_removal_without_place before → ⊥
    second q before (inl x) f = no_room v20 (Some 21) x.0.removal refl refl x.0.removed
    second q before (inr x) f = f U4 (present refl (clear_removal_without_place a 20) refl (subst (λ z. IsSome z) (sym x.1) refl))

not_unrecorded : MayBeUnrecorded removal_without_place a 21 → ⊥
not_unrecorded (number, event, k, x, l, u) = each_event (λ n e. Hides a e → ⊥) removal_without_place.events ((λ y. cc (y.1)), ((λ y. cc (y.1)), ((λ y. cc (y.1)), tt))) number event k x

pub readable_removal_without_place : IsReadable removal_without_place
readable_removal_without_place = record {
  lines = rising_is (λ (e : Event). e.line) removal_without_place.events refl;
  numbered = all_from (λ (e : Event). 0 < e.line) removal_without_place.events (each_of (λ (e : Event). 0 < e.line) removal_without_place.events (omega arith, (omega arith, (omega arith, tt))));
  checkpoints = no_checkpoints removal_without_place (refl, (refl, (refl, tt)));
  order = order_is removal_without_place refl refl refl;
  spans = record {
    rising = rising_is (λ (s : Span). s.revision) removal_without_place.spans refl;
    sound = each_of (IsSpan removal_without_place) removal_without_place.spans (span_is removal_without_place m0_removal_without_place is0_removal_without_place group0_removal_without_place (written 20 1 2) (omega arith) refl refl refl (inl (m0_removal_without_place, record { making = is0_removal_without_place; of_key = refl; at_revision = refl }, inl refl)), (span_is removal_without_place m2_removal_without_place is2_removal_without_place group2_removal_without_place (written 21 5 6) (omega arith) refl refl refl (inl (m2_removal_without_place, record { making = is2_removal_without_place; of_key = refl; at_revision = refl }, inl refl)), tt));
    full = each_making removal_without_place (λ m. 10 < m.item.revision → (span : Span) × Contains removal_without_place.spans span × (span.revision ≡ m.item.revision)) ((λ l. (written 20 1 2, (0, omega arith, refl), refl)), (tt, ((λ l. (written 21 5 6, (1, omega arith, refl), refl)), tt)));
  };
  versions = record {
    rising = rising_is (λ (v : Version). v.revision) removal_without_place.versions refl;
    sound = each_of (λ v. IsSnapshotVersion removal_without_place v ⊎ IsMadeVersion removal_without_place v) removal_without_place.versions (inr (made_sole removal_without_place m0_removal_without_place is0_removal_without_place group0_removal_without_place (v20) (omega arith) refl refl refl refl refl None refl fine0_removal_without_place U4 (creates refl refl)), (inr (made_faulty removal_without_place m2_removal_without_place is2_removal_without_place group2_removal_without_place v21 (omega arith) refl refl refl refl refl not_made not_unrecorded), tt));
    full_snapshot = each_of (λ i. (v : Version) × Contains removal_without_place.versions v × (item_of v ≡ i)) removal_without_place.snapshot tt;
    full_log = each_making removal_without_place (λ m. 10 < m.item.revision → (v : Version) × Contains removal_without_place.versions v × (v.revision ≡ m.item.revision)) ((λ l. (v20, (0, omega arith, refl), refl)), (tt, ((λ l. (v21, (1, omega arith, refl), refl)), tt)));
  };
  removals = record {
    rising = λ i j d l m. absurd (omega (arith, l, m));
    sound = λ gone c. absurd (not_in_none c);
    full = λ gone i. absurd (none_removed gone i);
  };
}

right0_removal_without_place : (choice : List ℕ) → IsRightUnder removal_without_place choice 0 e0
right0_removal_without_place choice = record {
  fixed = record { level = refl; stage = refl; by_word = λ before e. subst (λ z. HasNoFault removal_without_place m0_removal_without_place z) (sym e) fine0_removal_without_place; decision = λ d e. absurd (cc e) };
  answer = λ w. absurd (cc w);
}

not_removed : (choice : List ℕ) → AnswerHolds removal_without_place choice 1 e1 → ⊥
not_removed choice f = go (f refl)
  where
    go : (place : ℕ) × InWindow removal_without_place e1 place × IsClouded removal_without_place a place → ⊥
    go (place, i, c) = clear_removal_without_place a place c

pub outcome : IsOutcome removal_without_place removal_without_place_outcome
outcome = record {
  event = e1;
  earliest = earliest removal_without_place [] 1 1 e1 U9 readable_removal_without_place refl refl tt
      (judged_right removal_without_place 1 [] (right_for removal_without_place [] 0 e0 refl (right0_removal_without_place []), tt))
      (λ other c f x. not_removed other x.answer)
      (reader_least removal_without_place 1 1 e1 refl refl refl refl (λ i c e. cc e) (inl (answer refl refl (λ choice c f. not_removed choice f))));
  from = refl;
  to = refl;
  written = record {
    sorted = λ i j d l m. absurd (omega (arith, l, m));
    sound = each_of (IsWriteIn removal_without_place 20 20) (MadeAt 20 1 a ∷ [])
        (made_in removal_without_place 20 20 v20 m0_removal_without_place (0, omega arith, refl) (omega arith) (omega arith) (omega arith) (record { making = is0_removal_without_place; of_key = refl; at_revision = refl }, refl), tt);
    full = all;
  };
}
  where
    all : (w : Write) → IsWriteIn removal_without_place 20 20 w → Contains (MadeAt 20 1 a ∷ []) w
    all (RemovedIn low high line key) w = absurd (not_in_none w.known)
    all (MadeAt revision line key) w = listed_at (MadeAt 20 1 a) (MadeAt revision line key) []
        (made_line removal_without_place 20 20 revision line key v20 0 e0 refl refl w
        (each_of (λ v. v.revision ≤ 20 → v ≡ v20) removal_without_place.versions ((λ l. refl), ((λ l. absurd (omega (arith, l))), tt)) w.version w.known (omega (arith, w.inside.1, w.of_revision))))
