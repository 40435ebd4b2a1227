-- What the answer of a write is about.
use Rattle.std.proofs.Common.{◌≡◌, ℕ, ◌⊎◌, ◌↔◌, Bool, Option, Some, None, inl, inr, sym, subst}
use Rattle.base_types.specs.declared.verdict.claim.Reason.{Reason}
use Rattle.history_model.specs.Clouds.{IsClouded}
use Rattle.history_model.specs.Events as model
use Rattle.history_model.specs.Histories.{History}
use Rattle.history_model.specs.Making.{CouldHaveFound}
use Rattle.history_model.specs.Right.{IsRight, IsRightAnswer, IsShown}
use Rattle.history_model.specs.States.{Map}
use Rattle.write_groups.specs.declared.event.Item as declared
use Rattle.write_groups.specs.Modelled.{item_of}
use Rattle.local_bounds.specs.declared.sight.Sight.{Sight}
use Rattle.local_bounds.specs.declared.sight.Sight.TheVariants.{Gone, There, Shown, Refused, Nowhere}
use Rattle.local_bounds.specs.Sights.{IsSeen}
use Rattle.local_bounds.specs.Subjects.{IsFinding, IsFindingOf, IsFoundSight}

module _ (h : History) (number : ℕ) (event : model.Event) (item : declared.Item) (created : Bool) (place : ℕ) (map : Map) where
  abbrev IsFound : Type 0
  IsFound = CouldHaveFound h (record { number = number; event = event; item = item_of item; created = created })

  found_shown : (shown : model.Item) → shown ≡ item_of item → IsFound
      → (IsClouded h item.key place ⊎ (IsShown (item_of item) (map item.key) × IsFound)) ↔ (IsClouded h item.key place ⊎ IsShown shown (map item.key))
  found_shown shown e f = (to, from)
    where
      to : IsClouded h item.key place ⊎ (IsShown (item_of item) (map item.key) × IsFound) → IsClouded h item.key place ⊎ IsShown shown (map item.key)
      to (inl c) = inl c
      to (inr s) = inr (subst (λ z. IsShown z (map item.key)) (sym e) s.0)

      from : IsClouded h item.key place ⊎ IsShown shown (map item.key) → IsClouded h item.key place ⊎ (IsShown (item_of item) (map item.key) × IsFound)
      from (inl c) = inl c
      from (inr s) = inr (subst (λ z. IsShown z (map item.key)) e s, f)

  not_found : (IsFound → ⊥) → (IsClouded h item.key place ⊎ (IsShown (item_of item) (map item.key) × IsFound)) ↔ (IsClouded h item.key place ⊎ ⊥)
  not_found n = (to, from)
    where
      to : IsClouded h item.key place ⊎ (IsShown (item_of item) (map item.key) × IsFound) → IsClouded h item.key place ⊎ ⊥
      to (inl c) = inl c
      to (inr s) = absurd (n s.1)

      from : IsClouded h item.key place ⊎ ⊥ → IsClouded h item.key place ⊎ (IsShown (item_of item) (map item.key) × IsFound)
      from (inl c) = inl c
      from (inr s) = absurd s

  by_sight : (finding : Option Reason) (sight : Sight) → IsFoundSight item finding sight → IsFinding h (record { number = number; event = event; item = item_of item; created = created }) finding
      → (IsClouded h item.key place ⊎ (IsShown (item_of item) (map item.key) × IsFound)) ↔ (IsClouded h item.key place ⊎ IsSeen sight (map item.key))
  by_sight None (Shown shown) s f = found_shown (item_of shown.now) (λ i. item_of (s i)) f
  by_sight None Gone s f = absurd s
  by_sight None There s f = absurd s
  by_sight None (Refused asked) s f = absurd s
  by_sight None Nowhere s f = absurd s
  by_sight (Some code) sight s f = rw s (not_found (λ found. found code f))

  pub made_subject : (finding : Option Reason) (sight : Sight) → event.answer ≡ model.Made (item_of item) created → IsFoundSight item finding sight → IsFindingOf h number event finding
      → IsRight h number event place map ↔ (IsClouded h item.key place ⊎ IsSeen sight (map item.key))
  made_subject finding sight e s f = subst (λ a. IsRightAnswer h number event place map a ↔ (IsClouded h item.key place ⊎ IsSeen sight (map item.key))) (sym e) (by_sight finding sight s (f (item_of item) created e))
