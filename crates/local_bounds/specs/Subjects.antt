-- What an answer is about.
use Rattle.std.specs.Prelude.{◌≡◌, ◌⊎◌, ◌↔◌, ℕ, Bool, Option, Some, None}
use Rattle.base_types.specs.declared.verdict.claim.Reason.{Reason}
use Rattle.history_model.specs.Clouds.{IsClouded}
use Rattle.history_model.specs.Events as model
use Rattle.history_model.specs.Groups.{Making}
use Rattle.history_model.specs.Histories.{History}
use Rattle.history_model.specs.Making.{HasFoundFault, CouldHaveFound}
use Rattle.history_model.specs.Right.{IsRight}
use Rattle.history_model.specs.States.{Map}
use Rattle.history_model.specs.Words.{At, word}
use Rattle.write_groups.specs.declared.event.Item.{Item}
use Rattle.write_groups.specs.Modelled.{listing_of}
use Rattle.local_bounds.specs.declared.sight.Sight.{Sight}
use Rattle.local_bounds.specs.declared.sight.Sight.TheVariants.{Gone, There, Shown, Refused, Nowhere}
use Rattle.local_bounds.specs.declared.subject.Subject.{Subject}
use Rattle.local_bounds.specs.declared.subject.Subject.TheVariants.{Object, List, Nothing}
use Rattle.local_bounds.specs.Sights.{IsSeen}

-- why the write could not have found its revision, if it could not
abbrev pub IsFinding : History → Making → Option Reason → Type 0
IsFinding h m None = CouldHaveFound h m
IsFinding h m (Some code) = HasFoundFault h m code

abbrev pub IsFindingOf : History → ℕ → model.Event → Option Reason → Type 0
IsFindingOf h number event finding = (item : model.Item) (created : Bool) → event.answer ≡ model.Made item created
    → IsFinding h (record { number = number; event = event; item = item; created = created }) finding

abbrev pub IsFoundSight : Item → Option Reason → Sight → Type 0
IsFoundSight item None (Shown shown) = shown.now ≡ item
IsFoundSight item None Gone = ⊥
IsFoundSight item None There = ⊥
IsFoundSight item None (Refused asked) = ⊥
IsFoundSight item None Nowhere = ⊥
IsFoundSight item (Some code) sight = sight ≡ Nowhere

-- at each place the answer is right where the object's key is clouded or the object is so; or it is this list; or it
-- has no place
abbrev pub IsSubject : History → ℕ → model.Event → Subject → Type 0
IsSubject h number event (Object key sight) = (place : ℕ) (map : Map) → IsRight h number event place map ↔ (IsClouded h key.now place ⊎ IsSeen sight (map key.now))
IsSubject h number event (List listing) = event.answer ≡ model.Listed (listing_of listing.now)
IsSubject h number event Nothing = word h number event ≡ At → ⊥
