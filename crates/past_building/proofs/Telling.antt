-- What the tests of a write and of the object before it tell.
use Rattle.std.proofs.Common.{◌≡◌, ◌≢◌, ℕ, Bool, true, false, not, Option, Some, None, refl, sym, ap, ◌∙◌, subst, Bor, true≢false}
use Rattle.std.specs.Prelude.{◌↔◌, ◌&&◌, IsTrue, IsSome, if◌then◌else◌, is_none, is_some, option_map, bytes_eq}
use Rattle.std.specs.Cmp.Lexicographic.{bytes_decides}
use Rattle.base_types.specs.declared.verdict.claim.Reason.TheVariants.{U4}
use Rattle.history_model.specs.Groups as model
use Rattle.history_model.specs.Histories as past
use Rattle.history_model.specs.Making.{AreMet, MeetsConditions, IsClear, IsOtherObject, IsUsedUid, IsLeastFault, tree_of}
use Rattle.write_groups.specs.Modelled.{conditions_of, event_of, item_of}
use Rattle.write_groups.specs.declared.event.Item.{Item}
use Rattle.write_groups.specs.declared.event.LogEvent.{LogEvent}
use Rattle.write_groups.specs.declared.event.Preconditions.{Preconditions}
use Rattle.past_building.proofs.Faulting.{clear_least, found_changed, found_created, found_there, found_unmet}
use Rattle.past_building.proofs.Mapped.{no_true}
use Rattle.past_building.specs.Faults.{asked_code, meets, is_other, node_of, clear_code, found_code, IsOutside}
use Rattle.object_past.specs.Faulted.{IsLeastFoundFault}
use Rattle.object_past.specs.Modelled.{version_of}
use Rattle.object_past.specs.declared.version.Version.{Version}
use Rattle.write_groups.proofs.Meeting.{both_true, met_told}
use Rattle.write_groups.specs.Met.{asks_revision, asks_uid}

none_told : {A : Type 0} (found : Option A) → IsTrue (is_none found) ↔ (found ≡ None)
none_told None = ((λ t. refl), λ held. refl)
none_told (Some a) = ((λ t. absurd (no_true t)), λ held. absurd (cc held))

meets_told : (asked : Preconditions) (before : Option Version) → IsTrue (meets asked before) ↔ MeetsConditions (conditions_of asked) (option_map version_of before)
meets_told asked None = both_true (is_none asked.revision) (is_none asked.uid) (none_told asked.revision) (none_told asked.uid)
meets_told asked (Some v) = met_told asked v.revision v.uid

other_told : (m : model.Making) (item : Item) (before : Option Version) → m.item ≡ item_of item → IsTrue (is_other item before) ↔ IsOtherObject m (option_map version_of before)
other_told m item None is = ((λ t. tt), λ held. refl)
other_told m item (Some v) is = go (bytes_eq v.uid item.uid) refl
  where
    go : (t : Bool) → bytes_eq v.uid item.uid ≡ t → IsTrue (not (bytes_eq v.uid item.uid)) ↔ (v.uid ≢ m.item.uid)
    go true same = ((λ t. absurd (no_true (subst (λ b. IsTrue (not b)) same t))), λ differs. absurd (differs ((bytes_decides v.uid item.uid).0 same ∙ sym (ap (λ i. i.uid) is))))
    go false apart = ((λ t held. true≢false (sym ((bytes_decides v.uid item.uid).1 (held ∙ ap (λ i. i.uid) is)) ∙ apart)), λ differs. subst (λ b. IsTrue (not b)) (sym apart) refl)

some_told : (before : Option Version) → IsTrue (is_some before) ↔ IsSome (option_map version_of before)
some_told None = ((λ t. t), λ held. held)
some_told (Some v) = ((λ t. refl), λ held. refl)

node_is : (before : Option Version) → tree_of (option_map version_of before) ≡ node_of before
node_is None = refl
node_is (Some v) = refl

-- the code that is found is the least fault, where the key isn't clouded
pub clear_is_least : (h : past.History) (body : ℕ → Option ℕ → Bool) (number : ℕ) (event : LogEvent) (item : Item) (created is_used : Bool) (before : Option Version)
    → h.body ≡ body
    → (IsOutside h (record { number = number; event = event_of event; item = item_of item; created = created }) → ⊥)
    → IsClear h (record { number = number; event = event_of event; item = item_of item; created = created })
    → (created ≡ true → IsTrue is_used ↔ IsUsedUid h (record { number = number; event = event_of event; item = item_of item; created = created }))
    → IsLeastFault h (record { number = number; event = event_of event; item = item_of item; created = created }) (option_map version_of before)
    (clear_code body number event item created is_used before)
clear_is_least h body number event item created is_used before bodies inside clear used =
    clear_least h m (option_map version_of before) created is_used (is_some before) (is_other item before) (meets event.preconditions before) (body number (node_of before))
    (record {
      inside = inside;
      clear = clear;
      made = refl;
      had = used;
      there = some_told before;
      differs = other_told m item before refl;
      meets = meets_told event.preconditions before;
      asked = ap (λ f. f number (tree_of (option_map version_of before))) bodies ∙ ap (body number) (node_is before);
    })
  where
    m : model.Making
    m = record { number = number; event = event_of event; item = item_of item; created = created }

-- the code that is found is the least by which a write could not have found its answer
pub found_is_least : (h : past.History) (body : ℕ → Option ℕ → Bool) (m : model.Making) → h.body ≡ body → IsLeastFoundFault h m (found_code body m)
found_is_least h body m bodies = go m.created (asks_revision m.event.conditions.revision m.item.revision && asks_uid m.event.conditions.uid m.item.uid) (body m.number (Some m.item.tree))
    refl (met_told asked m.item.revision m.item.uid) (ap (λ f. f m.number (Some m.item.tree)) bodies)
  where
    asked : Preconditions
    asked = record { revision = m.event.conditions.revision; uid = m.event.conditions.uid }

    go : (created met right : Bool) → m.created ≡ created → (IsTrue met ↔ AreMet m.event.conditions m.item.revision m.item.uid) → h.body m.number (Some m.item.tree) ≡ right
        → IsLeastFoundFault h m (if created then Some U4 else asked_code met right)
    go true met right made told is = found_created h m made
    go false false right made told is = found_unmet h m made (λ held. no_true (told.1 held))
    go false true false made told is = found_changed h m made (told.0 refl) is
    go false true true made told is = found_there h m made (told.0 refl) is

-- a lent version, as the model has it
pub lent_is : (before : Option (Bor Version)) → option_map (λ v. version_of v.now) before ≡ option_map version_of (option_map (λ v. v.now) before)
lent_is None = refl
lent_is (Some v) = refl
