use Rattle.std.proofs.Common.{◌≡◌, ℕ, ◌<◌, ◌≤◌, ◌⊎◌, true, [], ◌∷◌, List, None, Contains, inl, inr, refl, sym, subst, arith}
use Rattle.std.specs.List.{AllZip}
use Rattle.std.proofs.lemmas.Int.{ints}
use Rattle.base_types.specs.Choices.{IsChoice}
use Rattle.base_types.specs.declared.verdict.claim.Reason.TheVariants.{U4, U10}
use Rattle.base_types.specs.declared.verdict.placed.PlacedAnswer.TheVariants as placed
use Rattle.history_model.proofs.Members.{not_in_none, here, all_from}
use Rattle.history_model.proofs.Worked.Kit.{each_of, EachAt, each_event, each_making, rising_is, order_is, not_before, Follows, IsGroup, span_is, made_sole, no_fault, no_removals, no_checkpoints, explanation, EachLine, lines_are, earliest, reader_least}
use Rattle.history_model.specs.Clouds.{IsClouded}
use Rattle.history_model.specs.Codes.{answer}
use Rattle.history_model.specs.Events.{Event, Item, Made, Saw}
use Rattle.history_model.specs.Examples.{a, A, object, request, written, version, line}
use Rattle.history_model.specs.Groups.{Making, IsMaking, IsSpan, Hides}
use Rattle.history_model.specs.Histories.{Version, Span, ByEvent}
use Rattle.history_model.specs.Local.{IsRightUnder, AnswerHolds}
use Rattle.history_model.specs.Makers.{IsSnapshotVersion, IsMadeVersion}
use Rattle.history_model.specs.Making.{HasNoFault, creates}
use Rattle.history_model.specs.Outcomes.{IsOutcome, Write, MadeAt, RemovedIn, IsWriteIn}
use Rattle.history_model.specs.Placed.{IsPlacedLine}
use Rattle.history_model.specs.Readable.{IsReadable}
use Rattle.history_model.specs.Right.{IsShown}
use Rattle.history_model.specs.States.{state}
use Rattle.history_model.specs.Windows.{InWindow}
use Rattle.history_model.specs.Examples.{seen_before_made, seen_before_made_outcome, seen_within_slack, seen_within_slack_outcome}

nothing : (other : List ℕ) → IsChoice [] other → AllZip ◌≤◌ [] other
nothing [] c = tt
nothing (x ∷ xs) c = absurd c

abbrev item : Item
item = object a 11 A 1

abbrev r_seen_before_made : Event
r_seen_before_made = request 1 1 2 (Saw item)

abbrev e_seen_before_made : Event
e_seen_before_made = request 2 3 4 (Made item true)

abbrev m_seen_before_made : Making
m_seen_before_made = record { number = 1; event = e_seen_before_made; item = item; created = true }

is_seen_before_made : IsMaking seen_before_made m_seen_before_made
is_seen_before_made = record { known = refl; made = refl }

group_seen_before_made : IsGroup seen_before_made m_seen_before_made
group_seen_before_made = each_making seen_before_made (λ o. o.item.revision ≡ 11 → Follows m_seen_before_made o)
    (tt, ((λ e. (refl, omega (arith, ints), omega (arith, ints), not_before e_seen_before_made e_seen_before_made refl refl (omega (arith, ints)) (λ q. omega arith))), tt))

fine_seen_before_made : HasNoFault seen_before_made m_seen_before_made None
fine_seen_before_made = no_fault seen_before_made m_seen_before_made None (omega arith) (omega arith) (λ t s. cc s) (λ t (w, c, l, e). each_of (λ (v : Version). v.revision < 11 → ⊥) seen_before_made.versions ((λ l. omega (arith, l)), tt) w c l)
    (λ t o. cc t) (refl, refl) refl

pub readable_seen_before_made : IsReadable seen_before_made
readable_seen_before_made = record {
  lines = rising_is (λ (e : Event). e.line) seen_before_made.events refl;
  numbered = all_from (λ (e : Event). 0 < e.line) seen_before_made.events (each_of (λ (e : Event). 0 < e.line) seen_before_made.events (omega arith, (omega arith, tt)));
  checkpoints = no_checkpoints seen_before_made (refl, (refl, tt));
  order = order_is seen_before_made refl refl refl;
  spans = record {
    rising = rising_is (λ (s : Span). s.revision) seen_before_made.spans refl;
    sound = each_of (IsSpan seen_before_made) seen_before_made.spans (span_is seen_before_made m_seen_before_made is_seen_before_made group_seen_before_made (written 11 3 4) (omega arith) refl refl refl (inl (m_seen_before_made, record { making = is_seen_before_made; of_key = refl; at_revision = refl }, inl refl)), tt);
    full = each_making seen_before_made (λ m. 10 < m.item.revision → (span : Span) × Contains seen_before_made.spans span × (span.revision ≡ m.item.revision)) (tt, ((λ l. (written 11 3 4, here (written 11 3 4) [], refl)), tt));
  };
  versions = record {
    rising = rising_is (λ (v : Version). v.revision) seen_before_made.versions refl;
    sound = each_of (λ v. IsSnapshotVersion seen_before_made v ⊎ IsMadeVersion seen_before_made v) seen_before_made.versions
        (inr (made_sole seen_before_made m_seen_before_made is_seen_before_made group_seen_before_made (version item (ByEvent 1)) (omega arith) refl refl refl refl refl None refl fine_seen_before_made U4 (creates refl refl)), tt);
    full_snapshot = λ item c. absurd (not_in_none c);
    full_log = each_making seen_before_made (λ m. 10 < m.item.revision → (v : Version) × Contains seen_before_made.versions v × (v.revision ≡ m.item.revision))
        (tt, ((λ l. (version item (ByEvent 1), here (version item (ByEvent 1)) [], refl)), tt));
  };
  removals = no_removals seen_before_made refl ((λ k u e. cc e), ((λ k u e. cc e), tt));
}

abbrev r_seen_within_slack : Event
r_seen_within_slack = request 1 0 3 (Saw item)

abbrev e_seen_within_slack : Event
e_seen_within_slack = request 2 2 5 (Made item true)

abbrev m_seen_within_slack : Making
m_seen_within_slack = record { number = 1; event = e_seen_within_slack; item = item; created = true }

is_seen_within_slack : IsMaking seen_within_slack m_seen_within_slack
is_seen_within_slack = record { known = refl; made = refl }

group_seen_within_slack : IsGroup seen_within_slack m_seen_within_slack
group_seen_within_slack = each_making seen_within_slack (λ o. o.item.revision ≡ 11 → Follows m_seen_within_slack o)
    (tt, ((λ e. (refl, omega (arith, ints), omega (arith, ints), not_before e_seen_within_slack e_seen_within_slack refl refl (omega (arith, ints)) (λ q. omega arith))), tt))

fine_seen_within_slack : HasNoFault seen_within_slack m_seen_within_slack None
fine_seen_within_slack = no_fault seen_within_slack m_seen_within_slack None (omega arith) (omega arith) (λ t s. cc s) (λ t (w, c, l, e). each_of (λ (v : Version). v.revision < 11 → ⊥) seen_within_slack.versions ((λ l. omega (arith, l)), tt) w c l)
    (λ t o. cc t) (refl, refl) refl

pub readable_seen_within_slack : IsReadable seen_within_slack
readable_seen_within_slack = record {
  lines = rising_is (λ (e : Event). e.line) seen_within_slack.events refl;
  numbered = all_from (λ (e : Event). 0 < e.line) seen_within_slack.events (each_of (λ (e : Event). 0 < e.line) seen_within_slack.events (omega arith, (omega arith, tt)));
  checkpoints = no_checkpoints seen_within_slack (refl, (refl, tt));
  order = order_is seen_within_slack refl refl refl;
  spans = record {
    rising = rising_is (λ (s : Span). s.revision) seen_within_slack.spans refl;
    sound = each_of (IsSpan seen_within_slack) seen_within_slack.spans (span_is seen_within_slack m_seen_within_slack is_seen_within_slack group_seen_within_slack (written 11 2 5) (omega arith) refl refl refl (inl (m_seen_within_slack, record { making = is_seen_within_slack; of_key = refl; at_revision = refl }, inl refl)), tt);
    full = each_making seen_within_slack (λ m. 10 < m.item.revision → (span : Span) × Contains seen_within_slack.spans span × (span.revision ≡ m.item.revision)) (tt, ((λ l. (written 11 2 5, here (written 11 2 5) [], refl)), tt));
  };
  versions = record {
    rising = rising_is (λ (v : Version). v.revision) seen_within_slack.versions refl;
    sound = each_of (λ v. IsSnapshotVersion seen_within_slack v ⊎ IsMadeVersion seen_within_slack v) seen_within_slack.versions
        (inr (made_sole seen_within_slack m_seen_within_slack is_seen_within_slack group_seen_within_slack (version item (ByEvent 1)) (omega arith) refl refl refl refl refl None refl fine_seen_within_slack U4 (creates refl refl)), tt);
    full_snapshot = λ item c. absurd (not_in_none c);
    full_log = each_making seen_within_slack (λ m. 10 < m.item.revision → (v : Version) × Contains seen_within_slack.versions v × (v.revision ≡ m.item.revision))
        (tt, ((λ l. (version item (ByEvent 1), here (version item (ByEvent 1)) [], refl)), tt));
  };
  removals = no_removals seen_within_slack refl ((λ k u e. cc e), ((λ k u e. cc e), tt));
}

-- in the window of the first reader, which has one place, there is no object
not_there : (choice : List ℕ) → AnswerHolds seen_before_made choice 0 r_seen_before_made → ⊥
not_there choice f = go (f refl)
  where
    go : (place : ℕ) × InWindow seen_before_made r_seen_before_made place × (IsClouded seen_before_made a place ⊎ IsShown item (state seen_before_made choice place a)) → ⊥
    go (place, i, inl (n, e, k, x)) = each_event (λ n e. Hides a e → ⊥) seen_before_made.events ((λ y. cc (y.1)), ((λ y. cc (y.1)), tt)) n e k x.hides
    go (place, i, inr s) = let e : place ≡ 10 = omega (arith, i.0, i.1) in at (subst (λ z. IsShown item (state seen_before_made choice z a)) e s)
      where
        at : IsShown item (state seen_before_made choice 10 a) → ⊥
        at x = x

pub too_early : IsOutcome seen_before_made seen_before_made_outcome
too_early = record {
  event = r_seen_before_made;
  earliest = earliest seen_before_made [] 0 0 r_seen_before_made U10 readable_seen_before_made refl refl tt (λ n e j k. absurd (not_in_none j))
      (λ other c f x. not_there other x.answer)
      (reader_least seen_before_made 0 0 r_seen_before_made refl refl refl refl (λ i c e. cc e) (inl (answer refl refl (λ choice c f. not_there choice f))));
  from = refl;
  to = refl;
  written = record {
    sorted = λ i j d l m. absurd (omega arith);
    sound = λ w c. absurd (not_in_none c);
    full = none;
  };
}
  where
    none : (w : Write) → IsWriteIn seen_before_made 10 10 w → Contains [] w
    none (MadeAt revision line key) w = absurd (omega (arith, w.above, w.of_revision, w.inside))
    none (RemovedIn low high line key) w = absurd (not_in_none w.known)

rights : EachAt (λ n e. IsRightUnder seen_within_slack [] n e) seen_within_slack.events
rights = (
  record { fixed = record { level = refl; stage = refl; by_word = tt; decision = λ d e. absurd (cc e) }; answer = λ w. (11, (omega arith, omega arith), inr (refl, refl, refl)) },
  (record { fixed = record { level = refl; stage = refl; by_word = λ before e. subst (λ z. HasNoFault seen_within_slack m_seen_within_slack z) (sym e) fine_seen_within_slack; decision = λ d e. absurd (cc e) }; answer = λ w. absurd (cc w) }, tt),
)

-- at the first place of the window there is nothing yet
not_at_ten : (place : ℕ) → 10 ≤ place → IsClouded seen_within_slack a place ⊎ IsShown item (state seen_within_slack [] place a) → 11 ≤ place
not_at_ten place l (inl (n, e, k, x)) = absurd (each_event (λ n e. Hides a e → ⊥) seen_within_slack.events ((λ y. cc (y.1)), ((λ y. cc (y.1)), tt)) n e k x.hides)
not_at_ten place l (inr s) = go (grind arith)
  where
    go : (10 ≡ place) ⊎ (11 ≤ place) → 11 ≤ place
    go (inr m) = m
    go (inl e) = absurd (at (subst (λ z. IsShown item (state seen_within_slack [] z a)) (sym e) s))
      where
        at : IsShown item (state seen_within_slack [] 10 a) → ⊥
        at x = x

placed_lines : EachLine (λ n e l. IsPlacedLine seen_within_slack [] n e l) seen_within_slack.events (line 1 (placed.At 11) ∷ line 2 (placed.Made 11) ∷ [])
placed_lines = (
  record { of_event = refl; answer = (11, record { inside = (omega arith, omega arith); right = inr (refl, refl, refl); least = λ other w r. not_at_ten other w.0 r }, refl); decision = refl },
  (record { of_event = refl; answer = refl; decision = refl }, tt),
)

pub within_slack : IsOutcome seen_within_slack seen_within_slack_outcome
within_slack = explanation seen_within_slack [] (line 1 (placed.At 11) ∷ line 2 (placed.Made 11) ∷ []) readable_seen_within_slack tt rights nothing
    (lines_are seen_within_slack [] (line 1 (placed.At 11) ∷ line 2 (placed.Made 11) ∷ []) placed_lines)
