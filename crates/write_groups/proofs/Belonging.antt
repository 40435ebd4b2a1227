-- The groups that are made of the events are those of the history.
use Rattle.std.proofs.Common.{◌≡◌, ◌≢◌, ℕ, ◌<◌, ◌⊎◌, inl, inr, Bool, true, List, [], ◌∷◌, Option, Some, None, slice_get, Any, All, Contains, refl, sym, ap, ◌∙◌, subst, true≢false}
use Rattle.std.specs.Prelude.{IsSome}
use Rattle.std.specs.BTreeMap.{BTreeMap}
use Rattle.std.specs.Option.{option_map, option_and_then}
use Rattle.std.proofs.lemmas.List.Kept.{AllPairs-filter}
use Rattle.std.proofs.lemmas.Option.{same_Some, slice_get-map, slice_get_within}
use Rattle.base_types.specs.declared.kubernetes.key.ObjectKey.{ObjectKey}
use Rattle.history_model.proofs.JudgingLemmas.{judged_once}
use Rattle.history_model.proofs.KeyLemmas.{key_is, key_decides}
use Rattle.history_model.proofs.Members.{not_in_none, here, in_cons, all_at, all_from, pairs_head}
use Rattle.history_model.specs.Events as model
use Rattle.history_model.specs.Events.{Event}
use Rattle.history_model.specs.Groups.{Making, IsMaking, IsAnsweredWith, IsKeyOf, IsMember}
use Rattle.history_model.specs.Histories.{History, IsEvent}
use Rattle.history_model.specs.Judging.{IsJudgedBefore, IsOrder}
use Rattle.base_types.specs.Keys.{same_key}
use Rattle.write_groups.proofs.Grouping.{IsAnswer, IsAnswered, above_is, answered_from, answered_has, IsMade, made_is}
use Rattle.write_groups.proofs.Lists.{filter_from, filter_has}
use Rattle.write_groups.specs.declared.event.Item.{Item}
use Rattle.write_groups.specs.declared.event.LogEvent.{LogEvent}
use Rattle.write_groups.specs.declared.event.Shown.{Shown}
use Rattle.write_groups.specs.declared.event.Shown.TheVariants.{Made, Removed, Opaque, Saw, SawNone, SawSome, SawOther, Listed, Free, Aside}
use Rattle.write_groups.specs.declared.groups.Group.{Group}
use Rattle.write_groups.specs.Grouped.{item_in, made_item, item_at, revision_above, is_this, is_item_of, is_of_key, members_of, answered_with, group_in, AreGathered, AreGroups, AreWrites}
use Rattle.write_groups.specs.Members.{AreInOrder, IsGroupOf, AreGroupsOf}
use Rattle.write_groups.specs.Modelled.{HasEvents, item_of, answer_of, event_of}

-- an event of the log, and what it is in the model
pub record IsLogged (events : List LogEvent) (number : ℕ) (event : Event) : Type 0 where
  pub logged : LogEvent
  pub at : slice_get events number ≡ Some logged
  pub is : event_of logged ≡ event

pub logged_from : (events : List LogEvent) (h : History) (number : ℕ) (event : Event) → HasEvents events h → IsEvent h number event → IsLogged events number event
logged_from events h number event has known = go (slice_get events number) refl
  where
    mapped : option_map event_of (slice_get events number) ≡ Some event
    mapped = sym (slice_get-map event_of events number) ∙ ap (λ l. slice_get l number) (sym has) ∙ known

    go : (o : Option LogEvent) → slice_get events number ≡ o → IsLogged events number event
    go None e = absurd (let none : None ≡ Some event = subst (λ o. option_map event_of o ≡ Some event) e mapped in cc none)
    go (Some logged) e = record { logged = logged; at = e; is = same_Some (event_of logged) event (subst (λ o. option_map event_of o ≡ Some event) e mapped) }

pub event_from : (events : List LogEvent) (h : History) (number : ℕ) (logged : LogEvent) → HasEvents events h → slice_get events number ≡ Some logged → IsEvent h number (event_of logged)
event_from events h number logged has e = ap (λ l. slice_get l number) has ∙ slice_get-map event_of events number ∙ ap (option_map event_of) e

-- a write's answer in the model, and in the log
made_answer : (shown : Shown) (item : Item) → item_in shown ≡ Some item → (created : Bool) × (shown ≡ Made item created)
made_answer (Made shown created) item e = (created, ap (λ i. Made i created) (same_Some shown item e))
made_answer (Removed key uid) item e = absurd (cc e)
made_answer (Opaque cover) item e = absurd (cc e)
made_answer (Saw shown) item e = absurd (cc e)
made_answer (SawNone key) item e = absurd (cc e)
made_answer (SawSome key) item e = absurd (cc e)
made_answer (SawOther key) item e = absurd (cc e)
made_answer (Listed listing) item e = absurd (cc e)
made_answer Free item e = absurd (cc e)
made_answer Aside item e = absurd (cc e)

model_answer : (shown : Shown) (item : model.Item) (created : Bool) → answer_of shown ≡ model.Made item created → (made : Item) × (shown ≡ Made made created) × (item_of made ≡ item)
model_answer (Made made was) item created e = (made, (let same : was ≡ created = cc e in ap (λ b. Made made b) same), cc e)
model_answer (Removed key uid) item created e = absurd (cc e)
model_answer (Opaque cover) item created e = absurd (cc e)
model_answer (Saw shown) item created e = absurd (cc e)
model_answer (SawNone key) item created e = absurd (cc e)
model_answer (SawSome key) item created e = absurd (cc e)
model_answer (SawOther key) item created e = absurd (cc e)
model_answer (Listed listing) item created e = absurd (cc e)
model_answer Free item created e = absurd (cc e)
model_answer Aside item created e = absurd (cc e)

-- a write of the log as one of the model
pub record IsWrite (h : History) (number : ℕ) (item : Item) : Type 0 where
  pub m : Making
  pub making : IsMaking h m
  pub of_number : m.number ≡ number
  pub of_item : m.item ≡ item_of item

pub write_from : (events : List LogEvent) (h : History) (number : ℕ) (item : Item) → HasEvents events h → item_at events number ≡ Some item → IsWrite h number item
write_from events h number item has e = go (slice_get events number) refl
  where
    go : (o : Option LogEvent) → slice_get events number ≡ o → IsWrite h number item
    go None p = absurd (let none : None ≡ Some item = subst (λ o. option_and_then made_item o ≡ Some item) p e in cc none)
    go (Some logged) p = by (made_answer logged.answer item (subst (λ o. option_and_then made_item o ≡ Some item) p e))
      where
        by : (created : Bool) × (logged.answer ≡ Made item created) → IsWrite h number item
        by (created, q) = record {
          m = record { number = number; event = event_of logged; item = item_of item; created = created };
          making = record { known = event_from events h number logged has p; made = ap answer_of q };
          of_number = refl;
          of_item = refl;
        }

pub record IsFound (events : List LogEvent) (m : Making) : Type 0 where
  pub logged : LogEvent
  pub at : slice_get events m.number ≡ Some logged
  pub is : event_of logged ≡ m.event
  pub item : Item
  pub shown : logged.answer ≡ Made item m.created
  pub of_item : item_of item ≡ m.item
  pub found : item_at events m.number ≡ Some item

pub item_from : (events : List LogEvent) (h : History) (m : Making) → HasEvents events h → IsMaking h m → IsFound events m
item_from events h m has making = go (logged_from events h m.number m.event has making.known)
  where
    go : IsLogged events m.number m.event → IsFound events m
    go l = by (model_answer l.logged.answer m.item m.created (ap (λ (e : Event). e.answer) l.is ∙ making.made))
      where
        by : (made : Item) × (l.logged.answer ≡ Made made m.created) × (item_of made ≡ m.item) → IsFound events m
        by (made, q, s) = record { logged = l.logged; at = l.at; is = l.is; item = made; shown = q; of_item = s; found = ap (option_and_then made_item) l.at ∙ ap item_in q }

module _ (h : History) (events : List LogEvent) (has : HasEvents events h) (ordered : IsOrder h) where
  judged_apart : (x y : Event) → IsJudgedBefore x y → x ≡ y → ⊥
  judged_apart x y l e = judged_once x y l (subst (λ z. IsJudgedBefore z x) e (subst (λ z. IsJudgedBefore x z) (sym e) l))

  in_order : (m : Making) → IsMaking h m → Contains h.order m.number
  in_order m making = ordered.full m.number (slice_get_within h.events m.number m.event making.known)

  -- a write of the history above the start is among those that were answered with its revision
  is_answered : (m : Making) → IsMaking h m → h.start < m.item.revision → Contains (answered_with h.start events h.order m.item.revision) m.number
  is_answered m making l = go (item_from events h m has making)
    where
      go : IsFound events m → Contains (answered_with h.start events h.order m.item.revision) m.number
      go f = subst (λ n. Contains (answered_with h.start events h.order n) m.number) (ap (λ (i : model.Item). i.revision) f.of_item)
          (answered_has h.start events h.order m.number f.item (in_order m making) f.found (subst (λ n. h.start < n) (sym (ap (λ (i : model.Item). i.revision) f.of_item)) l))

  answered_in_order : (revision : ℕ) → AreInOrder h (answered_with h.start events h.order revision)
  answered_in_order revision = AllPairs-filter (λ a b. (x y : Event) → IsEvent h a x → IsEvent h b y → IsJudgedBefore x y) (λ number. is_this revision (revision_above h.start events number)) h.order ordered.sorted

  module _ (group : Group) (numbers : List ℕ) (are : numbers ≡ answered_with h.start events h.order group.revision) (made : IsMade events numbers group) where
    is_in : (number : ℕ) → Contains numbers number → IsAnswered h.start events h.order number group.revision
    is_in number c = answered_from h.start events h.order number group.revision (subst (λ l. Contains l number) are c)

    first_in : Contains numbers made.first
    first_in = subst (λ l. Contains l made.first) (sym made.are) (here made.first made.rest)

    first_write : IsWrite h made.first made.item
    first_write = write_from events h made.first made.item has made.found

    first_answered : IsAnsweredWith h group.revision first_write.m
    first_answered = record {
      making = first_write.making;
      at_revision = ap (λ (i : model.Item). i.revision) first_write.of_item ∙ sym (ap (λ (g : Group). g.revision) made.group_is);
    }

    group_above : h.start < group.revision
    group_above = (is_in made.first first_in).answer.above

    has_number : (m : Making) → IsMaking h m → m.item.revision ≡ group.revision → Contains numbers m.number
    has_number m making e = subst (λ l. Contains l m.number) (sym are)
        (subst (λ n. Contains (answered_with h.start events h.order n) m.number) e (is_answered m making (subst (λ n. h.start < n) (sym e) group_above)))

    none_before_first : (other : Making) → IsAnsweredWith h group.revision other → IsJudgedBefore other.event first_write.m.event → ⊥
    none_before_first other a l = go (in_cons made.first made.rest other.number (subst (λ l. Contains l other.number) made.are (has_number other a.making a.at_revision)))
      where
        sorted : AreInOrder h (made.first ∷ made.rest)
        sorted = subst (AreInOrder h) (sym are ∙ made.are) (answered_in_order group.revision)

        first_known : IsEvent h made.first first_write.m.event
        first_known = subst (λ n. IsEvent h n first_write.m.event) first_write.of_number first_write.making.known

        go : (made.first ≡ other.number) ⊎ Contains made.rest other.number → ⊥
        go (inl e) = judged_apart other.event first_write.m.event l
            (same_Some other.event first_write.m.event (sym a.making.known ∙ ap (slice_get h.events) (sym e) ∙ first_known))
        go (inr c) = judged_once first_write.m.event other.event
            (all_at (λ b. (x y : Event) → IsEvent h made.first x → IsEvent h b y → IsJudgedBefore x y) made.rest other.number
            (pairs_head (λ a b. (x y : Event) → IsEvent h a x → IsEvent h b y → IsJudgedBefore x y) made.first made.rest sorted) c
            first_write.m.event other.event first_known a.making.known) l

    key_of_group : group.key ≡ made.item.key
    key_of_group = ap (λ (g : Group). g.key) made.group_is

    key_belongs : IsKeyOf h group.revision group.key
    key_belongs = record {
      m = first_write.m;
      first = record { holds = first_answered; none_before = none_before_first };
      of_key = ap (λ (i : model.Item). i.key) first_write.of_item ∙ sym key_of_group;
    }

    members_are : group.members ≡ members_of events group.key numbers
    members_are = ap (λ (g : Group). g.members) made.group_is ∙ ap (λ k. members_of events k numbers) (sym key_of_group)

    of_key : (number : ℕ) (item : Item) → item_at events number ≡ Some item → is_of_key events group.key number ≡ same_key item.key group.key
    of_key number item e = ap (is_item_of group.key) e

    member_has : (m : Making) → IsMember h group.key group.revision m → Contains group.members m.number
    member_has m member = go (item_from events h m has member.making)
      where
        go : IsFound events m → Contains group.members m.number
        go f = subst (λ l. Contains l m.number) (sym members_are) (filter_has (is_of_key events group.key) numbers m.number (has_number m member.making member.at_revision)
            (of_key m.number f.item f.found ∙ key_is f.item.key group.key (ap (λ (i : model.Item). i.key) f.of_item ∙ member.of_key)))

    member_from : (number : ℕ) → Contains group.members number → (m : Making) × IsMember h group.key group.revision m × (m.number ≡ number)
    member_from number c = go (is_in number kept.0).answer
      where
        kept : Contains numbers number × (is_of_key events group.key number ≡ true)
        kept = filter_from (is_of_key events group.key) numbers number (subst (λ l. Contains l number) members_are c)

        go : IsAnswer h.start events number group.revision → (m : Making) × IsMember h group.key group.revision m × (m.number ≡ number)
        go a = (
          w.m,
          record {
            making = w.making;
            of_key = ap (λ (i : model.Item). i.key) w.of_item ∙ (key_decides a.item.key group.key).0 (sym (of_key number a.item a.found) ∙ kept.1);
            at_revision = ap (λ (i : model.Item). i.revision) w.of_item ∙ a.of_revision;
          },
          w.of_number,
        )
          where
            w : IsWrite h number a.item
            w = write_from events h number a.item has a.found

    members_in_order : AreInOrder h group.members
    members_in_order = subst (AreInOrder h) (sym members_are)
        (AllPairs-filter (λ a b. (x y : Event) → IsEvent h a x → IsEvent h b y → IsJudgedBefore x y) (is_of_key events group.key) numbers (subst (AreInOrder h) (sym are) (answered_in_order group.revision)))

    members_some : group.members ≢ []
    members_some e = not_in_none (subst (λ l. Contains l made.first) e (subst (λ l. Contains l made.first) (sym members_are)
        (filter_has (is_of_key events group.key) numbers made.first first_in (of_key made.first made.item made.found ∙ key_is made.item.key group.key (sym key_of_group)))))

    group_is : IsGroupOf h group
    group_is = record {
      above = group_above;
      belongs = key_belongs;
      known = member_from;
      full = member_has;
      order = members_in_order;
      some = members_some;
    }

  pub groups_belong : (groups : List Group) → AreGroups h.start events h.order groups → AreGroupsOf h groups
  groups_belong groups g = record {
    rising = g.rising;
    sound = all_from (IsGroupOf h) groups (λ group c. one group (all_at (λ group. group_in events (answered_with h.start events h.order group.revision) ≡ Some group) groups group g.sound c));
    full = full;
  }
    where
      one : (group : Group) → group_in events (answered_with h.start events h.order group.revision) ≡ Some group → IsGroupOf h group
      one group e = group_is group (answered_with h.start events h.order group.revision) refl (made_is events (answered_with h.start events h.order group.revision) group e)

      full : (m : Making) → IsMaking h m → h.start < m.item.revision → Any (λ group. group.revision ≡ m.item.revision) groups
      full m making l = by (item_from events h m has making)
        where
          by : IsFound events m → Any (λ (group : Group). group.revision ≡ m.item.revision) groups
          by f = g.full m.number m.item.revision (in_order m making) (subst (λ n. revision_above h.start events m.number ≡ Some n) (ap (λ (i : model.Item). i.revision) f.of_item)
              (above_is h.start events m.number f.item f.found (subst (λ n. h.start < n) (sym (ap (λ (i : model.Item). i.revision) f.of_item)) l)))

pub groups_found : (events : List LogEvent) (start : ℕ) (order : List ℕ) (made : BTreeMap ℕ (List ℕ)) (groups : List Group) → AreGathered start events order made
    → ((start : ℕ) (order : List ℕ) → AreGathered start events order made → AreGroups start events order groups)
    → (h : History) → HasEvents events h → h.start ≡ start → h.order ≡ order → IsOrder h → AreGroupsOf h groups
groups_found events start order made groups gathered f h has s o is =
    groups_belong h events has is groups (f h.start h.order (subst (λ n. AreGathered n events h.order made) (sym s) (subst (λ l. AreGathered start events l made) (sym o) gathered)))

-- the members of a group are writes of the log
members_write : (events : List LogEvent) (numbers : List ℕ) (group : Group) → IsMade events numbers group → AreWrites events group.members
members_write events numbers group made = (some, all_from (λ number. IsSome (item_at events number)) group.members each)
  where
    members_are : group.members ≡ members_of events made.item.key numbers
    members_are = ap (λ (g : Group). g.members) made.group_is

    first_kept : Contains group.members made.first
    first_kept = subst (λ l. Contains l made.first) (sym members_are) (filter_has (is_of_key events made.item.key) numbers made.first
        (subst (λ l. Contains l made.first) (sym made.are) (here made.first made.rest))
        (ap (is_item_of made.item.key) made.found ∙ key_is made.item.key made.item.key refl))

    some : group.members ≢ []
    some none = not_in_none (subst (λ l. Contains l made.first) none first_kept)

    is_write : (key : ObjectKey) (item : Option Item) → is_item_of key item ≡ true → IsSome item
    is_write key None e = absurd (true≢false (sym e))
    is_write key (Some item) e = refl

    each : (number : ℕ) → Contains group.members number → IsSome (item_at events number)
    each number among = is_write made.item.key (item_at events number)
        (filter_from (is_of_key events made.item.key) numbers number (subst (λ l. Contains l number) members_are among)).1

pub groups_write : (events : List LogEvent) (start : ℕ) (order : List ℕ) (groups : List Group) → AreGroups start events order groups
    → All (λ group. AreWrites events group.members) groups
groups_write events start order groups are = all_from (λ group. AreWrites events group.members) groups (λ group among.
    members_write events (answered_with start events order group.revision) group
    (made_is events (answered_with start events order group.revision) group
    (all_at (λ (g : Group). group_in events (answered_with start events order g.revision) ≡ Some g) groups group are.sound among)))
