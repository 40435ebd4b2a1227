-- Each class of answers turns on one place of its window.
use Rattle.std.proofs.Common.{◌≡◌, ℕ, ◌≤◌, ◌⊎◌, ◌↔◌, Bool, List, Option, Some, None, IsSome, IsNone, IsSomeAnd, is_some, inl, inr, refl, sym, ap, ◌∙◌, subst, true≢false}
use Rattle.base_types.specs.Choices.{IsChoice}
use Rattle.base_types.specs.declared.kubernetes.key.ObjectKey.{ObjectKey}
use Rattle.history_model.proofs.LocalBounds.{absent_is, present_is, nothing_yet, none_or_latest}
use Rattle.history_model.specs.Bounding.{SomewhereIn, IsAbsentAnyway, ComesIn}
use Rattle.history_model.specs.Clouds.{IsClouded, IsCloudedWithin}
use Rattle.history_model.specs.Events.{Text, Item, Event, Listing, Conditions, Answer, Made, Removed, Saw, SawNone, SawSome, SawOther, Listed}
use Rattle.history_model.specs.Histories.{History, Version, ranges}
use Rattle.history_model.specs.Local.{AnswerHolds}
use Rattle.history_model.specs.Making.{MeetsConditions, CouldHaveFound}
use Rattle.history_model.specs.Readable.{IsReadable}
use Rattle.history_model.specs.Right.{IsShown, IsRefused, IsListRight, IsRight, IsRightAnswer}
use Rattle.history_model.specs.States.{latest, state}
use Rattle.history_model.specs.Windows.{InWindow, low_end, high_end}
use Rattle.history_model.specs.Words.{At, word, answer_word}

none_is : (o : Option Version) → IsNone o → o ≡ None
none_is None n = refl
none_is (Some v) n = absurd (true≢false n)

is_none : (o : Option Version) → o ≡ None → IsNone o
is_none None e = refl
is_none (Some v) e = absurd (cc e)

some_and : (o : Option Version) → IsSome o → IsSomeAnd o (λ v. Unit {0})
some_and None s = absurd (true≢false (sym s))
some_and (Some v) s = tt

and_some : (o : Option Version) → IsSomeAnd o (λ v. Unit {0}) → IsSome o
and_some None s = absurd s
and_some (Some v) s = refl

module _ (h : History) (choice : List ℕ) (r : IsReadable h) (chosen : IsChoice (ranges h) choice) (number : ℕ) (event : Event) where
  -- an answer that is right where its key is clouded, or where Q holds
  holds_is : (answer : Answer) (key : ObjectKey) (Q : ℕ → Type 0) → event.answer ≡ answer → word h number event ≡ At
      → ((place : ℕ) → IsRightAnswer h number event place (state h choice place) answer → IsClouded h key place ⊎ Q place)
      → ((place : ℕ) → IsClouded h key place ⊎ Q place → IsRightAnswer h number event place (state h choice place) answer)
      → AnswerHolds h choice number event ↔ (IsCloudedWithin h key (low_end h event) (high_end h event) ⊎ SomewhereIn (low_end h event) (high_end h event) Q)
  holds_is answer key Q e w to from = (λ a. go (a w), λ s w'. back s)
    where
      go : (place : ℕ) × InWindow h event place × IsRight h number event place (state h choice place)
          → IsCloudedWithin h key (low_end h event) (high_end h event) ⊎ SomewhereIn (low_end h event) (high_end h event) Q
      go (place, inside, right) = at (to place (subst (λ z. IsRightAnswer h number event place (state h choice place) z) e right))
        where
          at : IsClouded h key place ⊎ Q place → IsCloudedWithin h key (low_end h event) (high_end h event) ⊎ SomewhereIn (low_end h event) (high_end h event) Q
          at (inl c) = inl (place, inside.0, inside.1, c)
          at (inr q) = inr (place, inside.0, inside.1, q)

      right_at : (place : ℕ) → IsClouded h key place ⊎ Q place → IsRight h number event place (state h choice place)
      right_at place s = subst (λ z. IsRightAnswer h number event place (state h choice place) z) (sym e) (from place s)

      back : IsCloudedWithin h key (low_end h event) (high_end h event) ⊎ SomewhereIn (low_end h event) (high_end h event) Q
          → (place : ℕ) × InWindow h event place × IsRight h number event place (state h choice place)
      back (inl (place, l, m, c)) = (place, (l, m), right_at place (inl c))
      back (inr (place, l, m, q)) = (place, (l, m), right_at place (inr q))

  either : (A B C D : Type 0) → A ↔ (B ⊎ C) → C ↔ D → A ↔ (B ⊎ D)
  either A B C D f g = (λ a. to (f.0 a), λ s. f.1 (from s))
    where
      to : B ⊎ C → B ⊎ D
      to (inl b) = inl b
      to (inr c) = inr (g.0 c)

      from : B ⊎ D → B ⊎ C
      from (inl b) = inl b
      from (inr d) = inr (g.1 d)

  pub saw_none_is : (key : ObjectKey) → event.answer ≡ SawNone key → low_end h event ≤ high_end h event
      → AnswerHolds h choice number event ↔ (IsCloudedWithin h key (low_end h event) (high_end h event)
      ⊎ (SomewhereIn (low_end h event) (high_end h event) (IsAbsentAnyway h key) ⊎ (state h choice (high_end h event) key ≡ None)))
  saw_none_is key e w = either (AnswerHolds h choice number event) (IsCloudedWithin h key (low_end h event) (high_end h event))
      (SomewhereIn (low_end h event) (high_end h event) (λ x. state h choice x key ≡ None))
      (SomewhereIn (low_end h event) (high_end h event) (IsAbsentAnyway h key) ⊎ (state h choice (high_end h event) key ≡ None))
      (holds_is (SawNone key) key (λ x. state h choice x key ≡ None) e (ap (answer_word h number event) e) to from) (absent_is h choice r chosen key (low_end h event) (high_end h event) w)
    where
      to : (place : ℕ) → IsClouded h key place ⊎ IsNone (state h choice place key) → IsClouded h key place ⊎ (state h choice place key ≡ None)
      to place (inl c) = inl c
      to place (inr n) = inr (none_is (state h choice place key) n)

      from : (place : ℕ) → IsClouded h key place ⊎ (state h choice place key ≡ None) → IsClouded h key place ⊎ IsNone (state h choice place key)
      from place (inl c) = inl c
      from place (inr n) = inr (is_none (state h choice place key) n)

  pub saw_some_is : (key : ObjectKey) → event.answer ≡ SawSome key → low_end h event ≤ high_end h event
      → AnswerHolds h choice number event ↔ (IsCloudedWithin h key (low_end h event) (high_end h event)
      ⊎ (ComesIn h key (low_end h event) (high_end h event) (λ v. Unit {0}) ⊎ IsSomeAnd (state h choice (low_end h event) key) (λ v. Unit {0})))
  saw_some_is key e w = either (AnswerHolds h choice number event) (IsCloudedWithin h key (low_end h event) (high_end h event))
      (SomewhereIn (low_end h event) (high_end h event) (λ x. IsSomeAnd (state h choice x key) (λ v. Unit {0})))
      (ComesIn h key (low_end h event) (high_end h event) (λ v. Unit {0}) ⊎ IsSomeAnd (state h choice (low_end h event) key) (λ v. Unit {0}))
      (holds_is (SawSome key) key (λ x. IsSomeAnd (state h choice x key) (λ v. Unit {0})) e (ap (answer_word h number event) e) to from)
      (present_is h choice r chosen key (λ v. Unit {0}) (low_end h event) (high_end h event) w)
    where
      to : (place : ℕ) → IsClouded h key place ⊎ IsSome (state h choice place key) → IsClouded h key place ⊎ IsSomeAnd (state h choice place key) (λ v. Unit {0})
      to place (inl c) = inl c
      to place (inr n) = inr (some_and (state h choice place key) n)

      from : (place : ℕ) → IsClouded h key place ⊎ IsSomeAnd (state h choice place key) (λ v. Unit {0}) → IsClouded h key place ⊎ IsSome (state h choice place key)
      from place (inl c) = inl c
      from place (inr n) = inr (and_some (state h choice place key) n)

  pub saw_is : (item : Item) → event.answer ≡ Saw item → low_end h event ≤ high_end h event
      → AnswerHolds h choice number event ↔ (IsCloudedWithin h item.key (low_end h event) (high_end h event)
      ⊎ (ComesIn h item.key (low_end h event) (high_end h event) (λ v. IsShown item (Some v)) ⊎ IsShown item (state h choice (low_end h event) item.key)))
  saw_is item e w = either (AnswerHolds h choice number event) (IsCloudedWithin h item.key (low_end h event) (high_end h event))
      (SomewhereIn (low_end h event) (high_end h event) (λ x. IsShown item (state h choice x item.key)))
      (ComesIn h item.key (low_end h event) (high_end h event) (λ v. IsShown item (Some v)) ⊎ IsShown item (state h choice (low_end h event) item.key))
      (holds_is (Saw item) item.key (λ x. IsShown item (state h choice x item.key)) e (ap (answer_word h number event) e) (λ place s. s) (λ place s. s))
      (present_is h choice r chosen item.key (λ v. IsShown item (Some v)) (low_end h event) (high_end h event) w)

  pub found_is : (item : Item) (created : Bool) → event.answer ≡ Made item created → word h number event ≡ At → low_end h event ≤ high_end h event
      → AnswerHolds h choice number event ↔ (IsCloudedWithin h item.key (low_end h event) (high_end h event)
      ⊎ (CouldHaveFound h (record { number = number; event = event; item = item; created = created })
      × (ComesIn h item.key (low_end h event) (high_end h event) (λ v. IsShown item (Some v)) ⊎ IsShown item (state h choice (low_end h event) item.key))))
  found_is item created e at w = either (AnswerHolds h choice number event) (IsCloudedWithin h item.key (low_end h event) (high_end h event))
      (SomewhereIn (low_end h event) (high_end h event) (λ x. IsShown item (state h choice x item.key) × CouldHaveFound h (record { number = number; event = event; item = item; created = created })))
      (CouldHaveFound h (record { number = number; event = event; item = item; created = created })
      × (ComesIn h item.key (low_end h event) (high_end h event) (λ v. IsShown item (Some v)) ⊎ IsShown item (state h choice (low_end h event) item.key)))
      (holds_is (Made item created) item.key (λ x. IsShown item (state h choice x item.key) × CouldHaveFound h (record { number = number; event = event; item = item; created = created })) e at (λ place s. s) (λ place s. s))
      ((λ (x, l, m, p). (p.1, (present_is h choice r chosen item.key (λ v. IsShown item (Some v)) (low_end h event) (high_end h event) w).0 (x, l, m, p.0))), λ (c, s). back c ((present_is h choice r chosen item.key (λ v. IsShown item (Some v)) (low_end h event) (high_end h event) w).1 s))
    where
      back : CouldHaveFound h (record { number = number; event = event; item = item; created = created })
          → SomewhereIn (low_end h event) (high_end h event) (λ x. IsShown item (state h choice x item.key))
          → SomewhereIn (low_end h event) (high_end h event) (λ x. IsShown item (state h choice x item.key) × CouldHaveFound h (record { number = number; event = event; item = item; created = created }))
      back c (x, l, m, s) = (x, l, m, (s, c))

  pub unplaced_is : (key : ObjectKey) (uid : Text) → event.answer ≡ Removed key uid → word h number event ≡ At
      → AnswerHolds h choice number event ↔ IsCloudedWithin h key (low_end h event) (high_end h event)
  unplaced_is key uid e at = (λ a. to (f.0 a), λ c. f.1 (inl c))
    where
      f : AnswerHolds h choice number event ↔ (IsCloudedWithin h key (low_end h event) (high_end h event) ⊎ SomewhereIn (low_end h event) (high_end h event) (λ x. ⊥))
      f = holds_is (Removed key uid) key (λ x. ⊥) e at (λ place s. inl s) back
        where
          back : (place : ℕ) → IsClouded h key place ⊎ ⊥ → IsClouded h key place
          back place (inl c) = c
          back place (inr n) = absurd n

      to : IsCloudedWithin h key (low_end h event) (high_end h event) ⊎ SomewhereIn (low_end h event) (high_end h event) (λ x. ⊥) → IsCloudedWithin h key (low_end h event) (high_end h event)
      to (inl c) = c
      to (inr s) = absurd s.3

  -- a Conflict without a uid: right where the object is present and doesn't meet the conditions
  refused_and : (conditions : Conditions) (o : Option Version) → conditions.uid ≡ None → IsRefused conditions o → IsSomeAnd o (λ v. MeetsConditions conditions (Some v) → ⊥)
  refused_and conditions None n s = absurd (true≢false (sym s ∙ ap is_some n))
  refused_and conditions (Some v) n s = s

  and_refused : (conditions : Conditions) (o : Option Version) → IsSomeAnd o (λ v. MeetsConditions conditions (Some v) → ⊥) → IsRefused conditions o
  and_refused conditions None s = absurd s
  and_refused conditions (Some v) s = s

  pub refused_without_is : (key : ObjectKey) → event.answer ≡ SawOther key → event.conditions.uid ≡ None → low_end h event ≤ high_end h event
      → AnswerHolds h choice number event ↔ (IsCloudedWithin h key (low_end h event) (high_end h event)
      ⊎ (ComesIn h key (low_end h event) (high_end h event) (λ v. MeetsConditions event.conditions (Some v) → ⊥)
      ⊎ IsSomeAnd (state h choice (low_end h event) key) (λ v. MeetsConditions event.conditions (Some v) → ⊥)))
  refused_without_is key e n w = either (AnswerHolds h choice number event) (IsCloudedWithin h key (low_end h event) (high_end h event))
      (SomewhereIn (low_end h event) (high_end h event) (λ x. IsSomeAnd (state h choice x key) (λ v. MeetsConditions event.conditions (Some v) → ⊥)))
      (ComesIn h key (low_end h event) (high_end h event) (λ v. MeetsConditions event.conditions (Some v) → ⊥)
      ⊎ IsSomeAnd (state h choice (low_end h event) key) (λ v. MeetsConditions event.conditions (Some v) → ⊥))
      (holds_is (SawOther key) key (λ x. IsSomeAnd (state h choice x key) (λ v. MeetsConditions event.conditions (Some v) → ⊥)) e (ap (answer_word h number event) e) to from)
      (present_is h choice r chosen key (λ v. MeetsConditions event.conditions (Some v) → ⊥) (low_end h event) (high_end h event) w)
    where
      to : (place : ℕ) → IsClouded h key place ⊎ IsRefused event.conditions (state h choice place key)
          → IsClouded h key place ⊎ IsSomeAnd (state h choice place key) (λ v. MeetsConditions event.conditions (Some v) → ⊥)
      to place (inl c) = inl c
      to place (inr s) = inr (refused_and event.conditions (state h choice place key) n s)

      from : (place : ℕ) → IsClouded h key place ⊎ IsSomeAnd (state h choice place key) (λ v. MeetsConditions event.conditions (Some v) → ⊥)
          → IsClouded h key place ⊎ IsRefused event.conditions (state h choice place key)
      from place (inl c) = inl c
      from place (inr s) = inr (and_refused event.conditions (state h choice place key) s)

  -- with a uid: right also where the object is absent, so that only the last place turns on the choice
  pub refused_with_is : (key : ObjectKey) → event.answer ≡ SawOther key → IsSome event.conditions.uid → low_end h event ≤ high_end h event
      → AnswerHolds h choice number event ↔ (IsCloudedWithin h key (low_end h event) (high_end h event)
      ⊎ (SomewhereIn (low_end h event) (high_end h event) (λ x. IsRefused event.conditions (latest h.versions key x))
      ⊎ SomewhereIn (low_end h event) (high_end h event) (IsAbsentAnyway h key) ⊎ (state h choice (high_end h event) key ≡ None)))
  refused_with_is key e n w = either (AnswerHolds h choice number event) (IsCloudedWithin h key (low_end h event) (high_end h event))
      (SomewhereIn (low_end h event) (high_end h event) (λ x. IsRefused event.conditions (state h choice x key)))
      (SomewhereIn (low_end h event) (high_end h event) (λ x. IsRefused event.conditions (latest h.versions key x))
      ⊎ SomewhereIn (low_end h event) (high_end h event) (IsAbsentAnyway h key) ⊎ (state h choice (high_end h event) key ≡ None))
      (holds_is (SawOther key) key (λ x. IsRefused event.conditions (state h choice x key)) e (ap (answer_word h number event) e) (λ place s. s) (λ place s. s)) (to, from)
    where
      gone : (low_end h event ≤ high_end h event) → SomewhereIn (low_end h event) (high_end h event) (λ x. state h choice x key ≡ None)
          ↔ (SomewhereIn (low_end h event) (high_end h event) (IsAbsentAnyway h key) ⊎ (state h choice (high_end h event) key ≡ None))
      gone w = absent_is h choice r chosen key (low_end h event) (high_end h event) w

      to : SomewhereIn (low_end h event) (high_end h event) (λ x. IsRefused event.conditions (state h choice x key))
          → SomewhereIn (low_end h event) (high_end h event) (λ x. IsRefused event.conditions (latest h.versions key x))
          ⊎ SomewhereIn (low_end h event) (high_end h event) (IsAbsentAnyway h key) ⊎ (state h choice (high_end h event) key ≡ None)
      to (x, l, m, s) = at (latest h.versions key x) refl
        where
          at : (o : Option Version) → latest h.versions key x ≡ o
              → SomewhereIn (low_end h event) (high_end h event) (λ x. IsRefused event.conditions (latest h.versions key x))
              ⊎ SomewhereIn (low_end h event) (high_end h event) (IsAbsentAnyway h key) ⊎ (state h choice (high_end h event) key ≡ None)
          at None q = inr ((gone w).0 (x, l, m, nothing_yet h choice r chosen key x q))
          at (Some v) q = by (none_or_latest h choice r chosen key x v q)
            where
              by : (state h choice x key ≡ None) ⊎ (state h choice x key ≡ Some v)
                  → SomewhereIn (low_end h event) (high_end h event) (λ x. IsRefused event.conditions (latest h.versions key x))
                  ⊎ SomewhereIn (low_end h event) (high_end h event) (IsAbsentAnyway h key) ⊎ (state h choice (high_end h event) key ≡ None)
              by (inl z) = inr ((gone w).0 (x, l, m, z))
              by (inr z) = inl (x, l, m, subst (λ y. IsRefused event.conditions y) (z ∙ sym q) s)

      from : SomewhereIn (low_end h event) (high_end h event) (λ x. IsRefused event.conditions (latest h.versions key x))
          ⊎ SomewhereIn (low_end h event) (high_end h event) (IsAbsentAnyway h key) ⊎ (state h choice (high_end h event) key ≡ None)
          → SomewhereIn (low_end h event) (high_end h event) (λ x. IsRefused event.conditions (state h choice x key))
      from (inr s) = at ((gone w).1 s)
        where
          at : SomewhereIn (low_end h event) (high_end h event) (λ x. state h choice x key ≡ None) → SomewhereIn (low_end h event) (high_end h event) (λ x. IsRefused event.conditions (state h choice x key))
          at (x, l, m, z) = (x, l, m, subst (λ y. IsRefused event.conditions y) (sym z) n)
      from (inl (x, l, m, s)) = at (latest h.versions key x) refl
        where
          at : (o : Option Version) → latest h.versions key x ≡ o → SomewhereIn (low_end h event) (high_end h event) (λ x. IsRefused event.conditions (state h choice x key))
          at None q = (x, l, m, subst (λ y. IsRefused event.conditions y) (sym (nothing_yet h choice r chosen key x q)) n)
          at (Some v) q = by (none_or_latest h choice r chosen key x v q)
            where
              by : (state h choice x key ≡ None) ⊎ (state h choice x key ≡ Some v) → SomewhereIn (low_end h event) (high_end h event) (λ x. IsRefused event.conditions (state h choice x key))
              by (inl z) = (x, l, m, subst (λ y. IsRefused event.conditions y) (sym z) n)
              by (inr z) = (x, l, m, subst (λ y. IsRefused event.conditions y) (q ∙ sym z) s)

  -- a list has one place
  pub listed_is : (listing : Listing) → event.answer ≡ Listed listing
      → AnswerHolds h choice number event ↔ (InWindow h event listing.revision × IsListRight h number listing listing.revision (state h choice listing.revision))
  listed_is listing e = (λ a. go (a (ap (answer_word h number event) e)), λ (i, l) w. (listing.revision, i, subst (λ z. IsRightAnswer h number event listing.revision (state h choice listing.revision) z) (sym e) l))
    where
      go : (place : ℕ) × InWindow h event place × IsRight h number event place (state h choice place)
          → InWindow h event listing.revision × IsListRight h number listing listing.revision (state h choice listing.revision)
      go (place, inside, right) = at (subst (λ z. IsRightAnswer h number event place (state h choice place) z) e right)
        where
          at : IsListRight h number listing place (state h choice place) → InWindow h event listing.revision × IsListRight h number listing listing.revision (state h choice listing.revision)
          at l = subst (λ z. InWindow h event z × IsListRight h number listing z (state h choice z)) l.at_revision (inside, l)
