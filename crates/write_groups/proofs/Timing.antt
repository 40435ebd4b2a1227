-- The spans of the groups are those of the history.
use Rattle.std.proofs.Common.{◌≡◌, ◌≢◌, ℕ, ℤ, ◌+◌, ◌<◌, ◌<ℤ◌, ◌≤ℤ◌, ◌⊎◌, inl, inr, Bool, true, false, not, ◌||◌, ◌==◌, List, [], ◌∷◌, ◌++◌, length, get_or, take, map, Option, Some, None, slice_get, Any, All, AllPairs, Contains, refl, sym, ap, ◌∙◌, subst, true≢false, arith}
use Rattle.std.specs.Prelude.{int_lt}
use Rattle.std.specs.List.Sorted.{IsPermutation}
use Rattle.std.specs.Option.{IsSomeAnd, option_map}
use Rattle.std.proofs.lemmas.Bool.Decides.{Decides-eqb}
use Rattle.std.proofs.lemmas.Int.{ints}
use Rattle.std.proofs.lemmas.List.{take_more, length-take, get_or-take, get_or_default}
use Rattle.std.proofs.lemmas.List.Elements.{Contains-append_left, Contains-push, Contains-push_cases}
use Rattle.std.proofs.lemmas.List.Folds.{Any-from_list_any, list_any-from_Any}
use Rattle.std.proofs.lemmas.List.Quantifiers.{all_pairs_push}
use Rattle.std.proofs.lemmas.List.Sorted.{Contains-permutation, IsPermutation-sym}
use Rattle.std.proofs.lemmas.Option.{same_Some}
use Rattle.base_types.specs.Covers.{Covers}
use Rattle.base_types.specs.declared.kubernetes.key.Cover.{Cover}
use Rattle.base_types.specs.declared.kubernetes.revision.Moment.{Moment}
use Rattle.base_types.proofs.Quantifiers.{Any-contains}
use Rattle.history_model.proofs.Members.{here, all_at, all_from, at_in, in_at}
use Rattle.history_model.specs.Events as model
use Rattle.history_model.specs.Events.{Event}
use Rattle.history_model.specs.Groups as model_groups
use Rattle.history_model.specs.Groups.{Making, IsMember, Hides, MadeSurely, IsSure, IsEnd, IsBeginning, IsLeastMoment, AreSpans}
use Rattle.history_model.specs.Histories as model_histories
use Rattle.history_model.specs.Histories.{History, IsEvent}
use Rattle.time_windows.specs.declared.span.Span.{Span}
use Rattle.write_groups.proofs.Belonging.{IsLogged, logged_from, event_from, IsFound, item_from}
use Rattle.write_groups.proofs.Comparing.{int_tells}
use Rattle.write_groups.proofs.Earliest.{IsLeast, least_some, least_none}
use Rattle.write_groups.proofs.Lists.{made_from, made_has, map_from, map_has, pairs_map}
use Rattle.write_groups.specs.declared.event.LogEvent.{LogEvent}
use Rattle.write_groups.specs.declared.event.Shown.{Shown}
use Rattle.write_groups.specs.declared.event.Shown.TheVariants.{Made, Removed, Opaque, Saw, SawNone, SawSome, SawOther, Listed, Free, Aside}
use Rattle.write_groups.specs.declared.groups.Group.{Group}
use Rattle.write_groups.specs.declared.hidden.Hiding.{Hiding}
use Rattle.write_groups.specs.Hiding.{hiding_if, hiding_at, hidings_of, IsFirstSince}
use Rattle.write_groups.specs.Members.{IsGroupOf, AreGroupsOf}
use Rattle.write_groups.specs.Modelled.{HasEvents, answer_of, event_of, span_of}
use Rattle.write_groups.specs.Spanned.{least_by, first_start, creates, is_other, made_surely, made_surely_if, made_surely_at, is_sure, or_earlier, IsBeginningOf, IsSpan, IsSpanIn, AreSpansOf}

pub no_spans : (events : List LogEvent) (hidings : List Hiding) → AreSpansOf events hidings [] []
no_spans events hidings = record { sound = λ span c. absurd (let l = c.1 in omega arith); full = λ group c. absurd (let l = c.1 in omega arith); rising = λ i j d l m. absurd (omega arith) }

-- one group more
more_none : (events : List LogEvent) (hidings : List Hiding) (groups : List Group) (group : Group) (spans : List Span) → AreSpansOf events hidings groups spans → IsSpanIn events hidings group None
    → AreSpansOf events hidings (groups ++ group ∷ []) spans
more_none events hidings groups group spans are none = record {
  sound = λ span c. wider span (are.sound span c);
  full = λ g c. by g (Contains-push_cases groups group g c);
  rising = are.rising;
}
  where
    wider : (span : Span) → (g : Group) × Contains groups g × IsSpan events hidings g span → (g : Group) × Contains (groups ++ group ∷ []) g × IsSpan events hidings g span
    wider span (g, c, s) = (g, Contains-append_left groups (group ∷ []) g c, s)

    by : (g : Group) → Contains groups g ⊎ (group ≡ g) → IsSpanIn events hidings g None ⊎ ((span : Span) × Contains spans span × IsSpan events hidings g span)
    by g (inl c) = are.full g c
    by g (inr e) = inl (subst (λ z. IsSpanIn events hidings z None) e none)

more_one : (events : List LogEvent) (hidings : List Hiding) (groups : List Group) (group : Group) (spans : List Span) (span : Span) → AreSpansOf events hidings groups spans → IsSpan events hidings group span
    → ((g : Group) → Contains groups g → g.revision < group.revision) → AreSpansOf events hidings (groups ++ group ∷ []) (spans ++ span ∷ [])
more_one events hidings groups group spans span are is before = record {
  sound = λ s c. source s (Contains-push_cases spans span s c);
  full = λ g c. by g (Contains-push_cases groups group g c);
  rising = all_pairs_push (λ (a b : Span). a.revision < b.revision) spans span are.rising (all_from (λ s. s.revision < span.revision) spans (λ s c. below s (are.sound s c)));
}
  where
    below : (s : Span) → (g : Group) × Contains groups g × IsSpan events hidings g s → s.revision < span.revision
    below s (g, c, i) = let l = before g c in let u = i.of_revision in let v = is.of_revision in omega (arith, l, u, v)

    source : (s : Span) → Contains spans s ⊎ (span ≡ s) → (g : Group) × Contains (groups ++ group ∷ []) g × IsSpan events hidings g s
    source s (inl c) = wider (are.sound s c)
      where
        wider : (g : Group) × Contains groups g × IsSpan events hidings g s → (g : Group) × Contains (groups ++ group ∷ []) g × IsSpan events hidings g s
        wider (g, d, i) = (g, Contains-append_left groups (group ∷ []) g d, i)
    source s (inr e) = (group, Contains-push groups group, subst (λ z. IsSpan events hidings group z) e is)

    by : (g : Group) → Contains groups g ⊎ (group ≡ g) → IsSpanIn events hidings g None ⊎ ((s : Span) × Contains (spans ++ span ∷ []) s × IsSpan events hidings g s)
    by g (inl c) = wider (are.full g c)
      where
        wider : IsSpanIn events hidings g None ⊎ ((s : Span) × Contains spans s × IsSpan events hidings g s) → IsSpanIn events hidings g None ⊎ ((s : Span) × Contains (spans ++ span ∷ []) s × IsSpan events hidings g s)
        wider (inl n) = inl n
        wider (inr (s, d, i)) = inr (s, Contains-append_left spans (span ∷ []) s d, i)
    by g (inr e) = inr (span, Contains-push spans span, subst (λ z. IsSpan events hidings z span) e is)

taken : (groups : List Group) (i : ℕ) (group : Group) → i < length groups → group ≡ get_or groups i group → take (i + 1) groups ≡ take i groups ++ group ∷ []
taken groups i group l e = take_more groups i group l ∙ ap (λ g. take i groups ++ g ∷ []) (sym e)

pub none_more : (events : List LogEvent) (hidings : List Hiding) (groups : List Group) (i : ℕ) (group : Group) (spans : List Span) → i < length groups → group ≡ get_or groups i group
    → AreSpansOf events hidings (take i groups) spans → IsSpanIn events hidings group None → AreSpansOf events hidings (take (i + 1) groups) spans
none_more events hidings groups i group spans l e are none = subst (λ g. AreSpansOf events hidings g spans) (sym (taken groups i group l e)) (more_none events hidings (take i groups) group spans are none)

pub one_more : (events : List LogEvent) (hidings : List Hiding) (groups : List Group) (i : ℕ) (group : Group) (spans : List Span) (span : Span) → AllPairs (λ a b. a.revision < b.revision) groups
    → i < length groups → group ≡ get_or groups i group → AreSpansOf events hidings (take i groups) spans → IsSpan events hidings group span → AreSpansOf events hidings (take (i + 1) groups) (spans ++ span ∷ [])
one_more events hidings groups i group spans span rising l e are is =
    subst (λ g. AreSpansOf events hidings g (spans ++ span ∷ [])) (sym (taken groups i group l e)) (more_one events hidings (take i groups) group spans span are is before)
  where
    before : (g : Group) → Contains (take i groups) g → g.revision < group.revision
    before g (k, within, at) =
        let front : k < i = omega (arith, length-take i groups) in
        subst (λ (z : Group). z.revision < group.revision) (sym (get_or-take i groups k g front) ∙ at)
        (subst (λ (z : Group). (get_or groups k g).revision < z.revision) (get_or_default groups i g group l ∙ sym e) (rising k i g front l))

pub above_all : (events : List LogEvent) (hidings : List Hiding) (groups : List Group) (spans : List Span) (start : ℕ) → All (λ group. start < group.revision) groups → AreSpansOf events hidings groups spans
    → All (λ span. start < span.revision) spans
above_all events hidings groups spans start above are = all_from (λ span. start < span.revision) spans (λ span c. by span (are.sound span c))
  where
    by : (span : Span) → (g : Group) × Contains groups g × IsSpan events hidings g span → start < span.revision
    by span (g, c, s) = subst (λ n. start < n) (sym s.of_revision) (all_at (λ group. start < group.revision) groups g above c)

-- an unrecorded write of the log
hiding_answer : (since : Moment) (shown : Shown) (hiding : Hiding) → hiding_if since shown ≡ Some hiding → (shown ≡ Opaque hiding.cover) × (since ≡ hiding.since)
hiding_answer since (Made item created) hiding e = absurd (cc e)
hiding_answer since (Removed key uid) hiding e = absurd (cc e)
hiding_answer since (Opaque cover) hiding e = let same = same_Some (record { cover = cover; since = since }) hiding e in (ap (λ (h : Hiding). Opaque h.cover) same, ap (λ (h : Hiding). h.since) same)
hiding_answer since (Saw item) hiding e = absurd (cc e)
hiding_answer since (SawNone key) hiding e = absurd (cc e)
hiding_answer since (SawSome key) hiding e = absurd (cc e)
hiding_answer since (SawOther key) hiding e = absurd (cc e)
hiding_answer since (Listed listing) hiding e = absurd (cc e)
hiding_answer since Free hiding e = absurd (cc e)
hiding_answer since Aside hiding e = absurd (cc e)

opaque_answer : (shown : Shown) (cover : Cover) → answer_of shown ≡ model.Opaque cover → shown ≡ Opaque cover
opaque_answer (Made item created) cover e = absurd (cc e)
opaque_answer (Removed key uid) cover e = absurd (cc e)
opaque_answer (Opaque other) cover e = let same : other ≡ cover = cc e in ap Opaque same
opaque_answer (Saw item) cover e = absurd (cc e)
opaque_answer (SawNone key) cover e = absurd (cc e)
opaque_answer (SawSome key) cover e = absurd (cc e)
opaque_answer (SawOther key) cover e = absurd (cc e)
opaque_answer (Listed listing) cover e = absurd (cc e)
opaque_answer Free cover e = absurd (cc e)
opaque_answer Aside cover e = absurd (cc e)

or_true : (a b : Bool) → (a || b) ≡ true → (a ≡ true) ⊎ (b ≡ true)
or_true true b e = inl refl
or_true false b e = inr e

other_is : (revision : ℕ) (wanted : Option ℕ) → is_other revision wanted ≡ true → IsSomeAnd wanted (λ wanted. wanted ≢ revision)
other_is revision None e = absurd (true≢false (sym e))
other_is revision (Some wanted) e = λ same. true≢false (sym e ∙ ap not ((Decides-eqb wanted revision).1 same))

is_other_of : (revision : ℕ) (wanted : Option ℕ) → IsSomeAnd wanted (λ wanted. wanted ≢ revision) → is_other revision wanted ≡ true
is_other_of revision None h = absurd h
is_other_of revision (Some wanted) h = go (wanted == revision) refl
  where
    go : (t : Bool) → (wanted == revision) ≡ t → not (wanted == revision) ≡ true
    go true e = absurd (h ((Decides-eqb wanted revision).0 e))
    go false e = ap not e

module _ (events : List LogEvent) (h : History) (has : HasEvents events h) (group : Group) (belongs : IsGroupOf h group) where
  -- a moment of a member
  abbrev IsOf : (Event → ℤ) → ℤ → Type 0
  IsOf moment at = (m : Making) × IsMember h group.key group.revision m × (moment m.event ≡ at)

  module _ (f : LogEvent → Moment) (moment : Event → ℤ) (agree : (event : LogEvent) → moment (event_of event) ≡ (f event).0) where
    abbrev at_number : ℕ → Option Moment
    at_number number = option_map f (slice_get events number)

    member_at : (m : Making) → IsMember h group.key group.revision m → (x : Moment) × (at_number m.number ≡ Some x) × (moment m.event ≡ x.0)
    member_at m member = go (logged_from events h m.number m.event has member.making.known)
      where
        go : IsLogged events m.number m.event → (x : Moment) × (at_number m.number ≡ Some x) × (moment m.event ≡ x.0)
        go l = (f l.logged, ap (option_map f) l.at, ap moment (sym l.is) ∙ agree l.logged)

    least_moment : (x : Moment) → least_by at_number group.members ≡ Some x → IsLeastMoment (IsOf moment) x.0
    least_moment x e = go (least_some at_number group.members x e)
      where
        go : IsLeast at_number group.members x → IsLeastMoment (IsOf moment) x.0
        go l = (first (belongs.known l.number l.among), other)
          where
            first : (m : Making) × IsMember h group.key group.revision m × (m.number ≡ l.number) → IsOf moment x.0
            first (m, member, n) = by (member_at m member)
              where
                by : (y : Moment) × (at_number m.number ≡ Some y) × (moment m.event ≡ y.0) → IsOf moment x.0
                by (y, p, q) = (m, member, q ∙ ap (λ (z : Moment). z.0) (same_Some y x (sym p ∙ ap at_number n ∙ l.found)))

            other : (at : ℤ) → IsOf moment at → x.0 ≤ℤ at
            other at (m, member, q) = by (member_at m member)
              where
                by : (y : Moment) × (at_number m.number ≡ Some y) × (moment m.event ≡ y.0) → x.0 ≤ℤ at
                by (y, p, r) = subst (λ z. x.0 ≤ℤ z) (sym r ∙ q) (l.not_after m.number y (belongs.full m member) p)

    never_none : least_by at_number group.members ≡ None → ⊥
    never_none e = by group.members refl
      where
        by : (numbers : List ℕ) → group.members ≡ numbers → ⊥
        by [] q = belongs.some q
        by (n ∷ ns) q = go (belongs.known n (subst (λ l. Contains l n) (sym q) (here n ns)))
          where
            go : (m : Making) × IsMember h group.key group.revision m × (m.number ≡ n) → ⊥
            go (m, member, s) = at (member_at m member)
              where
                at : (y : Moment) × (at_number m.number ≡ Some y) × (moment m.event ≡ y.0) → ⊥
                at (y, p, r) = let none = least_none at_number group.members e m.number (belongs.full m member) in let k : None ≡ Some y = sym none ∙ p in cc k

  -- whether a member surely made the revision
  surely_at : (m : Making) → IsMember h group.key group.revision m → MadeSurely m → made_surely_at events group.revision m.number ≡ true
  surely_at m member sure = go (item_from events h m has member.making)
    where
      go : IsFound events m → made_surely_at events group.revision m.number ≡ true
      go f = ap (made_surely_if group.revision) f.at ∙ by sure
        where
          by : (m.created ≡ true) ⊎ IsSomeAnd m.event.conditions.revision (λ wanted. wanted ≢ m.item.revision) → made_surely group.revision f.logged ≡ true
          by (inl c) = ap (λ b. b || is_other group.revision f.logged.preconditions.revision) (ap creates f.shown ∙ c)
          by (inr s) = ap (λ b. creates f.logged.answer || b) (is_other_of group.revision f.logged.preconditions.revision
              (subst (λ n. IsSomeAnd f.logged.preconditions.revision (λ wanted. wanted ≢ n)) member.at_revision
              (subst (λ o. IsSomeAnd o (λ wanted. wanted ≢ m.item.revision)) (sym (ap (λ (e : Event). e.conditions.revision) f.is)) s)))
              ∙ or_right (creates f.logged.answer)
            where
              or_right : (b : Bool) → (b || true) ≡ true
              or_right true = refl
              or_right false = refl

  surely_from : (m : Making) → IsMember h group.key group.revision m → made_surely_at events group.revision m.number ≡ true → MadeSurely m
  surely_from m member e = go (item_from events h m has member.making)
    where
      go : IsFound events m → MadeSurely m
      go f = by (or_true (creates f.logged.answer) (is_other group.revision f.logged.preconditions.revision) (sym (ap (made_surely_if group.revision) f.at) ∙ e))
        where
          by : (creates f.logged.answer ≡ true) ⊎ (is_other group.revision f.logged.preconditions.revision ≡ true) → MadeSurely m
          by (inl c) = inl (sym (ap creates f.shown) ∙ c)
          by (inr s) = inr (subst (λ o. IsSomeAnd o (λ wanted. wanted ≢ m.item.revision)) (ap (λ (e : Event). e.conditions.revision) f.is)
              (subst (λ n. IsSomeAnd f.logged.preconditions.revision (λ wanted. wanted ≢ n)) (sym member.at_revision) (other_is group.revision f.logged.preconditions.revision s)))

  sure_is : is_sure events group ≡ true → IsSure h group.key group.revision
  sure_is e = go (Any-from_list_any (made_surely_at events group.revision) group.members e)
    where
      go : Any (λ number. made_surely_at events group.revision number ≡ true) group.members → IsSure h group.key group.revision
      go (k, number, within, at, s) = by (belongs.known number (k, within, at))
        where
          by : (m : Making) × IsMember h group.key group.revision m × (m.number ≡ number) → IsSure h group.key group.revision
          by (m, member, n) = (m, member, surely_from m member (ap (made_surely_at events group.revision) n ∙ s))

  sure_not : is_sure events group ≡ false → IsSure h group.key group.revision → ⊥
  sure_not e (m, member, s) = true≢false (sym (list_any-from_Any (made_surely_at events group.revision) group.members
      (Any-contains (λ number. made_surely_at events group.revision number ≡ true) group.members m.number (belongs.full m member) (surely_at m member s))) ∙ e)

  -- the unrecorded writes of the key
  abbrev Hiders : ℤ → Type 0
  Hiders at = (number : ℕ) × (event : Event) × IsEvent h number event × Hides group.key event × (event.lo ≡ at)

  hider_from : (hiding : Hiding) → Contains (hidings_of events) hiding → Covers hiding.cover group.key → Hiders hiding.since.0
  hider_from hiding c covers = go (made_from hiding_at events hiding c)
    where
      go : (logged : LogEvent) × Contains events logged × (hiding_at logged ≡ Some hiding) → Hiders hiding.since.0
      go (logged, d, e) = by (in_at events logged d) (hiding_answer logged.lo logged.answer hiding e)
        where
          by : (number : ℕ) × (slice_get events number ≡ Some logged) → (logged.answer ≡ Opaque hiding.cover) × (logged.lo ≡ hiding.since) → Hiders hiding.since.0
          by (number, p) (shown, since) = (number, event_of logged, event_from events h number logged has p, (hiding.cover, ap answer_of shown, covers), ap (λ (m : Moment). m.0) since)

  hiding_from : (at : ℤ) → Hiders at → (hiding : Hiding) × Contains (hidings_of events) hiding × Covers hiding.cover group.key × (hiding.since.0 ≡ at)
  hiding_from at (number, event, known, (cover, shown, covers), lo) = go (logged_from events h number event has known)
    where
      go : IsLogged events number event → (hiding : Hiding) × Contains (hidings_of events) hiding × Covers hiding.cover group.key × (hiding.since.0 ≡ at)
      go l = (
        record { cover = cover; since = l.logged.lo },
        made_has hiding_at events l.logged (record { cover = cover; since = l.logged.lo }) (at_in events number l.logged l.at)
            (ap (hiding_if l.logged.lo) (opaque_answer l.logged.answer cover (ap (λ (e : Event). e.answer) l.is ∙ shown))),
        covers,
        ap (λ (e : Event). e.lo) l.is ∙ lo,
      )

  module _ (hidings : List Hiding) (same : IsPermutation (hidings_of events) hidings) where
    beginning_is : (recorded lo : Moment) → first_start events group.members ≡ Some recorded → IsBeginningOf events hidings group recorded lo → IsLeastMoment (IsBeginning h group.key group.revision) lo.0
    beginning_is recorded lo e b = go b
      where
        least : IsLeastMoment (IsOf (λ event. event.lo)) recorded.0
        least = least_moment (λ event. event.lo) (λ event. event.lo) (λ event. refl) recorded e

        surely : IsSure h group.key group.revision → (at : ℤ) → IsBeginning h group.key group.revision at → recorded.0 ≤ℤ at
        surely s at (inl m) = least.1 at m
        surely s at (inr n) = absurd (n.0 s)

        in_hidings : (at : ℤ) → Hiders at → (P : ℤ → Type 0) → ((hiding : Hiding) → Contains hidings hiding → Covers hiding.cover group.key → P hiding.since.0) → P at
        in_hidings at w P f = by (hiding_from at w)
          where
            by : (hiding : Hiding) × Contains (hidings_of events) hiding × Covers hiding.cover group.key × (hiding.since.0 ≡ at) → P at
            by (hiding, c, covers, q) = subst P q (f hiding (Contains-permutation (hidings_of events) hidings hiding same c) covers)

        unsure : (since : Option Moment) → (IsSure h group.key group.revision → ⊥) → IsFirstSince hidings group.key since → lo ≡ or_earlier recorded since → IsLeastMoment (IsBeginning h group.key group.revision) lo.0
        unsure None n none q = subst (λ (z : Moment). IsLeastMoment (IsBeginning h group.key group.revision) z.0) (sym q) (inl least.0, other)
          where
            other : (at : ℤ) → IsBeginning h group.key group.revision at → recorded.0 ≤ℤ at
            other at (inl m) = least.1 at m
            other at (inr w) = in_hidings at w.1 (λ z. recorded.0 ≤ℤ z) (λ hiding c covers. absurd (all_at (λ hiding. Covers hiding.cover group.key → ⊥) hidings hiding none c covers))
        unsure (Some s) n first q = by (int_tells s.0 recorded.0)
          where
            not_before : (at : ℤ) → Hiders at → s.0 ≤ℤ at
            not_before at w = in_hidings at w (λ z. s.0 ≤ℤ z) (λ hiding c covers. all_at (λ hiding. Covers hiding.cover group.key → s.0 ≤ℤ hiding.since.0) hidings hiding first.1 c covers)

            one : Hiders s.0
            one = from first.0
              where
                from : Any (λ hiding. Covers hiding.cover group.key × (hiding.since ≡ s)) hidings → Hiders s.0
                from (k, hiding, within, at, (covers, p)) = subst (λ (z : Moment). Hiders z.0) p
                    (hider_from hiding (Contains-permutation hidings (hidings_of events) hiding (IsPermutation-sym (hidings_of events) hidings same) (k, within, at)) covers)

            by : ((int_lt s.0 recorded.0 ≡ true) × (s.0 <ℤ recorded.0)) ⊎ ((int_lt s.0 recorded.0 ≡ false) × (recorded.0 ≤ℤ s.0)) → IsLeastMoment (IsBeginning h group.key group.revision) lo.0
            by (inl t) = subst (λ (z : Moment). IsLeastMoment (IsBeginning h group.key group.revision) z.0) (sym (let p : lo ≡ s = rw t.0 at q in p)) (inr (n, one), other)
              where
                other : (at : ℤ) → IsBeginning h group.key group.revision at → s.0 ≤ℤ at
                other at (inl m) = before s.0 recorded.0 at t.1 (least.1 at m)
                  where
                    before : (x y z : ℤ) → x <ℤ y → y ≤ℤ z → x ≤ℤ z
                    before x y z k l = omega (arith, ints)
                other at (inr w) = not_before at w.1
            by (inr t) = subst (λ (z : Moment). IsLeastMoment (IsBeginning h group.key group.revision) z.0) (sym (let p : lo ≡ recorded = rw t.0 at q in p)) (inl least.0, other)
              where
                other : (at : ℤ) → IsBeginning h group.key group.revision at → recorded.0 ≤ℤ at
                other at (inl m) = least.1 at m
                other at (inr w) = before recorded.0 s.0 at t.1 (not_before at w.1)
                  where
                    before : (x y z : ℤ) → x ≤ℤ y → y ≤ℤ z → x ≤ℤ z
                    before x y z k l = omega (arith, ints)

        go : ((is_sure events group ≡ true) × (lo ≡ recorded)) ⊎ ((is_sure events group ≡ false) × ((since : Option Moment) × IsFirstSince hidings group.key since × (lo ≡ or_earlier recorded since)))
            → IsLeastMoment (IsBeginning h group.key group.revision) lo.0
        go (inl s) = subst (λ (z : Moment). IsLeastMoment (IsBeginning h group.key group.revision) z.0) (sym s.1) (inl least.0, surely (sure_is s.0))
        go (inr (f, (since, first, q))) = unsure since (sure_not f) first q

    span_is : (span : Span) → IsSpan events hidings group span → model_groups.IsSpan h (span_of span)
    span_is span s = record {
      above = subst (λ n. h.start < n) (sym s.of_revision) belongs.above;
      key = group.key;
      belongs = subst (λ n. model_groups.IsKeyOf h n group.key) (sym s.of_revision) belongs.belongs;
      end = subst (λ n. IsLeastMoment (IsEnd h group.key n) span.hi.0) (sym s.of_revision) (least_moment (λ event. event.hi) (λ event. event.hi) (λ event. refl) span.hi s.end);
      beginning = subst (λ n. IsLeastMoment (IsBeginning h group.key n) span.lo.0) (sym s.of_revision) (beginning_is s.recorded span.lo s.first s.beginning);
    }

    not_none : IsSpanIn events hidings group None → ⊥
    not_none (inl e) = never_none (λ event. event.hi) (λ event. event.hi) (λ event. refl) e
    not_none (inr e) = never_none (λ event. event.lo) (λ event. event.lo) (λ event. refl) e

pub spans_found : (events : List LogEvent) (hidings : List Hiding) (groups : List Group) (spans : List Span) → IsPermutation (hidings_of events) hidings → AreSpansOf events hidings groups spans
    → (h : History) → HasEvents events h → AreGroupsOf h groups → h.spans ≡ map span_of spans → AreSpans h
spans_found events hidings groups spans same are h has g is = record {
  rising = subst (λ l. AllPairs (λ (a b : model_histories.Span). a.revision < b.revision) l) (sym is) (pairs_map span_of (λ (a b : model_histories.Span). a.revision < b.revision) spans are.rising);
  sound = λ span c. sound span (map_from span_of spans span (subst (λ l. Contains l span) is c));
  full = λ m making l. full m (g.full m making l);
}
  where
    belongs : (group : Group) → Contains groups group → IsGroupOf h group
    belongs group c = all_at (IsGroupOf h) groups group g.sound c

    sound : (span : model_histories.Span) → (s : Span) × Contains spans s × (span_of s ≡ span) → model_groups.IsSpan h span
    sound span (s, c, e) = by (are.sound s c)
      where
        by : (group : Group) × Contains groups group × IsSpan events hidings group s → model_groups.IsSpan h span
        by (group, d, i) = subst (model_groups.IsSpan h) e (span_is events h has group (belongs group d) hidings same s i)

    full : (m : Making) → Any (λ (group : Group). group.revision ≡ m.item.revision) groups → (span : model_histories.Span) × Contains h.spans span × (span.revision ≡ m.item.revision)
    full m (k, group, within, at, e) = by (are.full group (k, within, at))
      where
        by : IsSpanIn events hidings group None ⊎ ((s : Span) × Contains spans s × IsSpan events hidings group s) → (span : model_histories.Span) × Contains h.spans span × (span.revision ≡ m.item.revision)
        by (inl n) = absurd (not_none events h has group (belongs group (k, within, at)) hidings same n)
        by (inr (s, c, i)) = (span_of s, subst (λ l. Contains l (span_of s)) (sym is) (map_has span_of spans s c), i.of_revision ∙ e)
