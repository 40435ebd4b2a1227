-- What an event is, by what the past finds.
use Rattle.std.proofs.Common.{◌≡◌, ℕ, ◌<◌, ◌≤◌, ◌⊎◌, Bool, true, false, nat_le, ◌==◌, List, [], ◌∷◌, map, Option, Some, None, find, length, get_or, slice_get, inl, inr, refl, sym, ap, ◌∙◌, arith}
use Rattle.std.specs.Prelude.{option_map}
use Rattle.std.proofs.lemmas.Bool.Decides.{leb_tells}
use Rattle.std.proofs.lemmas.Option.{slice_get-map, slice_get_cases}
use Rattle.history_model.specs.Events.{Item, Event, Made}
use Rattle.history_model.specs.Groups.{Making}
use Rattle.history_model.specs.Histories as model
use Rattle.history_model.specs.Histories.{History}
use Rattle.base_types.specs.Keys.{same_key}
use Rattle.history_model.specs.Words.{Makes, Removes, At, Strays, is_by, write_word, removal_word, answer_word}
use Rattle.object_past.specs.declared.removal.Removal.{Removal}
use Rattle.object_past.specs.declared.version.Version.{Version}
use Rattle.object_past.specs.Modelled.{version_of, recorded}
use Rattle.object_past.specs.Past.{Recorded, HasPast}

pub find_mapped : {A B : Type 0} (f : A → B) (test : B → Bool) (xs : List A) → find test (map f xs) ≡ option_map f (find (λ x. test (f x)) xs)
find_mapped f test [] = refl
find_mapped {A} {B} f test (x ∷ xs) = go (find_mapped f test xs) (test (f x)) refl
  where
    go : find test (map f xs) ≡ option_map f (find (λ y. test (f y)) xs) → (t : Bool) → test (f x) ≡ t
        → find test (map f (x ∷ xs)) ≡ option_map f (find (λ y. test (f y)) (x ∷ xs))
    go rest true e = rw e refl
    go rest false e = rw e rest

abbrev pub making : ℕ → Event → Item → Bool → Making
making number event item created = record { number = number; event = event; item = item; created = created }

module _ (past : Recorded) (h : History) (p : HasPast past h) (start : ℕ) (s : h.start ≡ start) (number : ℕ) (event : Event) (item : Item) (created : Bool) where
  pub old_write : (revision : ℕ) → revision ≡ item.revision → revision ≤ start → answer_word h number event (Made item created) ≡ At
  old_write revision e l = go (leb_tells item.revision h.start)
    where
      go : ((nat_le item.revision h.start ≡ true) × (item.revision ≤ h.start)) ⊎ ((nat_le item.revision h.start ≡ false) × (h.start < item.revision))
          → answer_word h number event (Made item created) ≡ At
      go (inl w) = rw w.0 refl
      go (inr w) = absurd (omega (arith, w.1, s, e, l))

  pub new_write : (revision : ℕ) → revision ≡ item.revision → start < revision → (o : Option Version) → o ≡ find (λ v. v.revision == revision) past.versions
      → answer_word h number event (Made item created) ≡ write_word (making number event item created) (option_map version_of o)
  new_write revision e l o f = go (leb_tells item.revision h.start)
    where
      found : find (λ (v : model.Version). v.revision == item.revision) h.versions ≡ option_map version_of o
      found = ap (λ vs. find (λ (v : model.Version). v.revision == item.revision) vs) p.versions
          ∙ find_mapped version_of (λ v. v.revision == item.revision) past.versions
          ∙ ap (λ q. option_map version_of (find (λ (v : Version). v.revision == q) past.versions)) (sym e)
          ∙ ap (option_map version_of) (sym f)

      go : ((nat_le item.revision h.start ≡ true) × (item.revision ≤ h.start)) ⊎ ((nat_le item.revision h.start ≡ false) × (h.start < item.revision))
          → answer_word h number event (Made item created) ≡ write_word (making number event item created) (option_map version_of o)
      go (inl w) = absurd (omega (arith, w.1, s, e, l))
      go (inr w) = rw w.0 (ap (write_word (making number event item created)) found)

-- a write at the version of its revision
pub stray_is : (m : Making) (v : model.Version) (b : Bool) → b ≡ same_key v.key m.item.key → b ≡ false → write_word m (Some v) ≡ Strays
stray_is m v b k f = rw (sym k ∙ f) refl

pub found_is : (m : Making) (v : model.Version) (b c : Bool) → b ≡ same_key v.key m.item.key → b ≡ true → c ≡ is_by m.number v.maker → c ≡ false → write_word m (Some v) ≡ At
found_is m v b c k t y f = rw (sym k ∙ t, sym y ∙ f) refl

pub made_is : (m : Making) (v : model.Version) (b c : Bool) → b ≡ same_key v.key m.item.key → b ≡ true → c ≡ is_by m.number v.maker → c ≡ true → write_word m (Some v) ≡ Makes m
made_is m v b c k t y f = rw (sym k ∙ t, sym y ∙ f) refl

module _ (past : Recorded) (h : History) (p : HasPast past h) (number : ℕ) where
  removal_found : (o : Option Removal) → o ≡ find (λ r. r.range.event == number) past.removals → find (λ removal. removal.range.event == number) h.removals ≡ option_map recorded o
  removal_found o f = ap (λ rs. find (λ (r : model.Removal). r.range.event == number) rs) p.removals
      ∙ find_mapped recorded (λ r. r.range.event == number) past.removals
      ∙ ap (option_map recorded) (sym f)

  pub no_removal : None ≡ find (λ (r : Removal). r.range.event == number) past.removals → removal_word (find (λ removal. removal.range.event == number) h.removals) ≡ At
  no_removal f = ap removal_word (removal_found None f)

  pub removal_at : (position : ℕ) → slice_get past.removals position ≡ find (λ (r : Removal). r.range.event == number) past.removals
      → position < length past.removals
      → (removal : model.Removal) × (removal_word (find (λ removal. removal.range.event == number) h.removals) ≡ Removes removal) × (slice_get h.removals position ≡ Some removal)
  removal_at position f l = go (slice_get past.removals position) refl
    where
      here : slice_get h.removals position ≡ option_map recorded (slice_get past.removals position)
      here = ap (λ rs. slice_get rs position) p.removals ∙ slice_get-map recorded past.removals position

      go : (o : Option Removal) → slice_get past.removals position ≡ o
          → (removal : model.Removal) × (removal_word (find (λ removal. removal.range.event == number) h.removals) ≡ Removes removal) × (slice_get h.removals position ≡ Some removal)
      go None e = past_end (slice_get_cases past.removals position).1
        where
          past_end : ((x : Removal) × (position < length past.removals) × (slice_get past.removals position ≡ Some x) × (get_or past.removals position x ≡ x)) ⊎ ((length past.removals ≤ position) × (slice_get past.removals position ≡ None))
              → (removal : model.Removal) × (removal_word (find (λ removal. removal.range.event == number) h.removals) ≡ Removes removal) × (slice_get h.removals position ≡ Some removal)
          past_end (inl w) = absurd (cc (w.2, e))
          past_end (inr w) = absurd (omega (arith, w.0, l))
      go (Some removal) e = (recorded removal, ap removal_word (removal_found (Some removal) (sym e ∙ f)), here ∙ ap (option_map recorded) e)
