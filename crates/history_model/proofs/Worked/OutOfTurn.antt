use Rattle.std.proofs.Common.{◌≡◌, ℕ, ◌<◌, ◌≤◌, ◌⊎◌, true, [], Option, None, Contains, inl, inr, refl, sym, ap, arith, true≢false}
use Rattle.std.proofs.lemmas.Int.{ints}
use Rattle.base_types.specs.Reasons.{code_number}
use Rattle.base_types.specs.declared.verdict.claim.Reason.{Reason}
use Rattle.base_types.specs.declared.verdict.claim.Reason.TheVariants.{U3}
use Rattle.base_types.specs.declared.kubernetes.key.ObjectKey.{ObjectKey}
use Rattle.history_model.proofs.Members.{not_in_none, all_from}
use Rattle.history_model.proofs.Worked.Kit.{each_of, each_event, each_making, rising_is, order_is, not_before, Follows, IsGroup, span_is, made_faulty, no_removals, no_checkpoints, earliest, never_clouded}
use Rattle.history_model.specs.Clouds.{IsClouded, MayBeUnrecorded}
use Rattle.history_model.specs.Codes.{level, stage, stray, making, removal, found, answer, decision, IsCandidate}
use Rattle.history_model.specs.Events.{Event, Made}
use Rattle.history_model.specs.Examples.{a, b, A, B, object, request, written, version, line}
use Rattle.history_model.specs.Groups.{Making, IsMaking, IsSpan, Hides}
use Rattle.history_model.specs.Histories.{Version, Span, ByEvent}
use Rattle.history_model.specs.Makers.{IsSnapshotVersion, IsMadeVersion, CouldHaveMade, item_of}
use Rattle.history_model.specs.Making.{HasFault, outside, present, used, replaced, unmet, unasked, HasNoFault}
use Rattle.history_model.specs.Outcomes.{IsOutcome, Write, MadeAt, RemovedIn, IsWriteIn}
use Rattle.history_model.specs.Readable.{IsReadable}
use Rattle.history_model.specs.Examples.{out_of_turn, out_of_turn_outcome}

abbrev e0 : Event
e0 = request 1 1 2 (Made (object a 12 A 1) true)

abbrev e1 : Event
e1 = request 2 3 4 (Made (object b 11 B 1) true)

abbrev v11 : Version
v11 = version (object b 11 B 1) (ByEvent 1)

abbrev v12 : Version
v12 = version (object a 12 A 1) (ByEvent 0)

abbrev m0_out_of_turn : Making
m0_out_of_turn = record { number = 0; event = e0; item = object a 12 A 1; created = true }

is0_out_of_turn : IsMaking out_of_turn m0_out_of_turn
is0_out_of_turn = record { known = refl; made = refl }

abbrev m1_out_of_turn : Making
m1_out_of_turn = record { number = 1; event = e1; item = object b 11 B 1; created = true }

is1_out_of_turn : IsMaking out_of_turn m1_out_of_turn
is1_out_of_turn = record { known = refl; made = refl }

group0_out_of_turn : IsGroup out_of_turn m0_out_of_turn
group0_out_of_turn = each_making out_of_turn (λ o. o.item.revision ≡ 12 → Follows m0_out_of_turn o) ((λ q. (refl, omega (arith, ints), omega (arith, ints), not_before e0 e0 refl refl (omega (arith, ints)) (λ z. omega arith))), ((λ q. absurd (omega (arith, q))), tt))

group1_out_of_turn : IsGroup out_of_turn m1_out_of_turn
group1_out_of_turn = each_making out_of_turn (λ o. o.item.revision ≡ 11 → Follows m1_out_of_turn o) ((λ q. absurd (omega (arith, q))), ((λ q. (refl, omega (arith, ints), omega (arith, ints), not_before e1 e1 refl refl (omega (arith, ints)) (λ z. omega arith))), tt))

clear_out_of_turn : (key : ObjectKey) (place : ℕ) → IsClouded out_of_turn key place → ⊥
clear_out_of_turn = never_clouded out_of_turn ((λ k y. cc (y.1)), ((λ k y. cc (y.1)), tt))

-- neither revision lies in the window of its write
early : (before : Option Version) → HasFault out_of_turn m0_out_of_turn before U3
early before = outside refl (inr (omega arith))

late : (before : Option Version) → HasFault out_of_turn m1_out_of_turn before U3
late before = outside refl (inl (omega arith))

none_made : (key : ObjectKey) (revision : ℕ) (o : Making) → CouldHaveMade out_of_turn key revision o → ⊥
none_made key revision o c = each_making out_of_turn (λ o. (before : Option Version) → HasNoFault out_of_turn o before → ⊥) ((λ x f. f U3 (early x)), ((λ x f. f U3 (late x)), tt)) o c.member.making c.before c.faultless

not_unrecorded : (key : ObjectKey) (revision : ℕ) → MayBeUnrecorded out_of_turn key revision → ⊥
not_unrecorded key revision (number, event, k, x, l, u) = each_event (λ n e. Hides key e → ⊥) out_of_turn.events ((λ y. cc (y.1)), ((λ y. cc (y.1)), tt)) number event k x

pub readable_out_of_turn : IsReadable out_of_turn
readable_out_of_turn = record {
  lines = rising_is (λ (e : Event). e.line) out_of_turn.events refl;
  numbered = all_from (λ (e : Event). 0 < e.line) out_of_turn.events (each_of (λ (e : Event). 0 < e.line) out_of_turn.events (omega arith, (omega arith, tt)));
  checkpoints = no_checkpoints out_of_turn (refl, (refl, tt));
  order = order_is out_of_turn refl refl refl;
  spans = record {
    rising = rising_is (λ (s : Span). s.revision) out_of_turn.spans refl;
    sound = each_of (IsSpan out_of_turn) out_of_turn.spans (span_is out_of_turn m1_out_of_turn is1_out_of_turn group1_out_of_turn (written 11 3 4) (omega arith) refl refl refl (inl (m1_out_of_turn, record { making = is1_out_of_turn; of_key = refl; at_revision = refl }, inl refl)), (span_is out_of_turn m0_out_of_turn is0_out_of_turn group0_out_of_turn (written 12 1 2) (omega arith) refl refl refl (inl (m0_out_of_turn, record { making = is0_out_of_turn; of_key = refl; at_revision = refl }, inl refl)), tt));
    full = each_making out_of_turn (λ m. 10 < m.item.revision → (span : Span) × Contains out_of_turn.spans span × (span.revision ≡ m.item.revision)) ((λ l. (written 12 1 2, (1, omega arith, refl), refl)), ((λ l. (written 11 3 4, (0, omega arith, refl), refl)), tt));
  };
  versions = record {
    rising = rising_is (λ (v : Version). v.revision) out_of_turn.versions refl;
    sound = each_of (λ v. IsSnapshotVersion out_of_turn v ⊎ IsMadeVersion out_of_turn v) out_of_turn.versions (inr (made_faulty out_of_turn m1_out_of_turn is1_out_of_turn group1_out_of_turn v11 (omega arith) refl refl refl refl refl (none_made b 11) (not_unrecorded b 11)), (inr (made_faulty out_of_turn m0_out_of_turn is0_out_of_turn group0_out_of_turn v12 (omega arith) refl refl refl refl refl (none_made a 12) (not_unrecorded a 12)), tt));
    full_snapshot = each_of (λ i. (v : Version) × Contains out_of_turn.versions v × (item_of v ≡ i)) out_of_turn.snapshot tt;
    full_log = each_making out_of_turn (λ m. 10 < m.item.revision → (v : Version) × Contains out_of_turn.versions v × (v.revision ≡ m.item.revision)) ((λ l. (v12, (1, omega arith, refl), refl)), ((λ l. (v11, (0, omega arith, refl), refl)), tt));
  };
  removals = no_removals out_of_turn refl ((λ k u e. cc e), ((λ k u e. cc e), tt));
}

three : (other : Reason) → IsCandidate out_of_turn 0 0 e0 other → 3 ≤ code_number other
three other (inl (level c e)) = absurd (true≢false (sym e))
three other (inl (stage c e)) = absurd (true≢false (sym e))
three other (inl (stray c e)) = omega (arith, ap code_number c)
three other (inl (making m before e x (outside c o))) = omega (arith, ap code_number c)
three other (inl (making m before e x (present c k t o))) = omega (arith, ap code_number c)
three other (inl (making m before e x (used c t o))) = omega (arith, ap code_number c)
three other (inl (making m before e x (replaced c k t o))) = omega (arith, ap code_number c)
three other (inl (making m before e x (unmet c k o))) = omega (arith, ap code_number c)
three other (inl (making m before e x (unasked c k o))) = omega (arith, ap code_number c)
three other (inl (removal r c e x)) = omega (arith, ap code_number c)
three other (inl (found i created e x k f)) = absurd (cc e)
three other (inl (answer c e x)) = omega (arith, ap code_number c)
three other (inl (decision d c e x)) = omega (arith, ap code_number c)
three other (inr (c, x)) = omega (arith, ap code_number c)

pub outcome : IsOutcome out_of_turn out_of_turn_outcome
outcome = record {
  event = e0;
  earliest = earliest out_of_turn [] 0 0 e0 U3 readable_out_of_turn refl refl tt (λ k e j l. absurd (not_in_none j))
      (λ other c f x. x.fixed.by_word None refl U3 (early None))
      (record { candidate = inl (making m0_out_of_turn None refl refl (early None)); least = three });
  from = refl;
  to = refl;
  written = record {
    sorted = λ i j d l m. absurd (omega arith);
    sound = λ w c. absurd (not_in_none c);
    full = none;
  };
}
  where
    none : (w : Write) → IsWriteIn out_of_turn 10 10 w → Contains [] w
    none (MadeAt revision line key) w = absurd (omega (arith, w.above, w.of_revision, w.inside))
    none (RemovedIn low high line key) w = absurd (not_in_none w.known)
