-- What an event is, by what the past finds.
use Rattle.std.proofs.Common.{◌≡◌, ℕ, ◌<◌, ◌≤◌, ◌⊎◌, Bool, true, false, nat_le, ◌==◌, List, [], ◌∷◌, map, Option, Some, find, inl, inr, refl, sym, ap, ◌∙◌, arith}
use Rattle.std.specs.Prelude.{option_map}
use Rattle.std.proofs.lemmas.Bool.Decides.{leb_tells}
use Rattle.base_types.specs.Keys.{same_key}
use Rattle.history_model.specs.Events.{Item, Event, Made}
use Rattle.history_model.specs.Groups.{Making}
use Rattle.history_model.specs.Histories as model
use Rattle.history_model.specs.Histories.{History}
use Rattle.history_model.specs.Words.{Makes, At, Strays, is_by, write_word, removal_word, answer_word}
use Rattle.object_past.specs.Modelled.{version_of, recorded}
use Rattle.object_past.specs.Past.{Recorded, HasPast}
use Rattle.object_past.specs.declared.removal.Removal.{Removal}
use Rattle.object_past.specs.declared.version.Version.{Version}
use Rattle.serial_machine.specs.Words.{making}

-- what is found in a list of images is the image of what is found
find_image : {A B : Type 0} (f : A → B) (test : B → Bool) (xs : List A) → find test (map f xs) ≡ option_map f (find (λ x. test (f x)) xs)
find_image f test [] = refl
find_image {A} {B} f test (x ∷ xs) = go (find_image f test xs) (test (f x)) refl
  where
    go : find test (map f xs) ≡ option_map f (find (λ y. test (f y)) xs) → (t : Bool) → test (f x) ≡ t
        → find test (map f (x ∷ xs)) ≡ option_map f (find (λ y. test (f y)) (x ∷ xs))
    go rest true e = rw e refl
    go rest false e = rw e rest

module _ (past : Recorded) (h : History) (p : HasPast past h) (start : ℕ) (s : h.start ≡ start) (number : ℕ) (event : Event) (item : Item) (created : Bool) where
  pub early_write : (revision : ℕ) → revision ≡ item.revision → revision ≤ start → answer_word h number event (Made item created) ≡ At
  early_write revision e l = go (leb_tells item.revision h.start)
    where
      go : ((nat_le item.revision h.start ≡ true) × (item.revision ≤ h.start)) ⊎ ((nat_le item.revision h.start ≡ false) × (h.start < item.revision))
          → answer_word h number event (Made item created) ≡ At
      go (inl w) = rw w.0 refl
      go (inr w) = absurd (omega (arith, w.1, s, e, l))

  pub late_write : (revision : ℕ) → revision ≡ item.revision → start < revision → (o : Option Version) → o ≡ find (λ v. v.revision == revision) past.versions
      → answer_word h number event (Made item created) ≡ write_word (making number event item created) (option_map version_of o)
  late_write revision e l o f = go (leb_tells item.revision h.start)
    where
      found : find (λ (v : model.Version). v.revision == item.revision) h.versions ≡ option_map version_of o
      found = ap (λ vs. find (λ (v : model.Version). v.revision == item.revision) vs) p.versions
          ∙ find_image version_of (λ v. v.revision == item.revision) past.versions
          ∙ ap (λ q. option_map version_of (find (λ (v : Version). v.revision == q) past.versions)) (sym e)
          ∙ ap (option_map version_of) (sym f)

      go : ((nat_le item.revision h.start ≡ true) × (item.revision ≤ h.start)) ⊎ ((nat_le item.revision h.start ≡ false) × (h.start < item.revision))
          → answer_word h number event (Made item created) ≡ write_word (making number event item created) (option_map version_of o)
      go (inl w) = absurd (omega (arith, w.1, s, e, l))
      go (inr w) = rw w.0 (ap (write_word (making number event item created)) found)

-- a write at the version of its revision
module _ (m : Making) (v : model.Version) (same : Bool) (k : same ≡ same_key v.key m.item.key) where
  pub strays : same ≡ false → write_word m (Some v) ≡ Strays
  strays f = rw (sym k ∙ f) refl

  pub found : (by : Bool) → by ≡ is_by m.number v.maker → same ≡ true → by ≡ false → write_word m (Some v) ≡ At
  found by b t f = rw (sym k ∙ t, sym b ∙ f) refl

  pub made : (by : Bool) → by ≡ is_by m.number v.maker → same ≡ true → by ≡ true → write_word m (Some v) ≡ Makes m
  made by b t f = rw (sym k ∙ t, sym b ∙ f) refl

-- the removal by an event, where there is one
pub removal_said : (past : Recorded) (h : History) (number : ℕ) → HasPast past h → (o : Option Removal) → o ≡ find (λ (r : Removal). r.range.event == number) past.removals
    → removal_word (find (λ removal. removal.range.event == number) h.removals) ≡ removal_word (option_map recorded o)
removal_said past h number p o f = ap removal_word
    (ap (λ rs. find (λ (r : model.Removal). r.range.event == number) rs) p.removals
    ∙ find_image recorded (λ r. r.range.event == number) past.removals
    ∙ ap (option_map recorded) (sym f))
