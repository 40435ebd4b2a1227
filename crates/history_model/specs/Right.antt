-- When an answer is right at a place, `map` having the objects that are there.
use Rattle.std.specs.Prelude.{◌≡◌, ◌≢◌, ℕ, ◌⊎◌, true, false, List, [], ◌∷◌, Option, Some, None, IsSome, IsNone, IsSomeAnd, AllPairs, Contains}
use Rattle.base_types.specs.declared.verdict.claim.Reason.{Reason}
use Rattle.base_types.specs.declared.verdict.claim.Reason.TheVariants.{U9, U10, U11, U12, U13}
use Rattle.base_types.specs.declared.kubernetes.key.ObjectKey.{ObjectKey}
use Rattle.history_model.specs.Clouds.{IsClouded}
use Rattle.history_model.specs.Events.{Text, Item, Conditions, Event, Listing, Answer, Made, Removed, Opaque, Saw, SawNone, SawSome, SawOther, Listed, Free, Aside}
use Rattle.history_model.specs.Histories.{History, Version}
use Rattle.history_model.specs.Making.{MeetsConditions, CouldHaveFound}
use Rattle.history_model.specs.States.{Map}

-- the object is the item: of that revision, uid and tree
abbrev pub IsShown : Item → Option Version → Type 0
IsShown item found = IsSomeAnd found (λ v. (v.revision ≡ item.revision) × (v.uid ≡ item.uid) × (v.tree ≡ item.tree))

-- a Conflict: the object doesn't meet the conditions, or is absent where a uid was given
abbrev pub IsRefused : Conditions → Option Version → Type 0
IsRefused conditions None = IsSome conditions.uid
IsRefused conditions (Some v) = MeetsConditions conditions (Some v) → ⊥

abbrev pub InNamespace : Text → Text → Type 0
InNamespace [] namespace = Unit {0}
InNamespace (byte ∷ bytes) namespace = namespace ≡ byte ∷ bytes

-- the keys that a list is about; the empty namespace stands for all
pub record InScope (listing : Listing) (key : ObjectKey) : Type 0 where
  pub of_group : key.group ≡ listing.group
  pub of_resource : key.resource ≡ listing.resource
  pub of_namespace : InNamespace listing.namespace key.namespace

-- the list rightly shows the item
abbrev pub IsListed : History → ℕ → ℕ → Item → Option Version → Type 0
IsListed h number place item found = IsClouded h item.key place ⊎ (IsShown item found × (h.listable number item.tree ≡ true))

abbrev pub IsUnlistable : History → ℕ → Option Version → Type 0
IsUnlistable h number None = Unit {0}
IsUnlistable h number (Some v) = h.listable number v.tree ≡ false

-- a whole list rightly lacks the key
abbrev pub IsLacked : History → ℕ → ℕ → ObjectKey → Option Version → Type 0
IsLacked h number place key found = IsClouded h key place ⊎ IsUnlistable h number found

abbrev pub IsAmong : List Item → ObjectKey → Type 0
IsAmong items key = (item : Item) × Contains items item × (item.key ≡ key)

pub record IsListRight (h : History) (number : ℕ) (listing : Listing) (place : ℕ) (map : Map) : Type 0 where
  pub at_revision : place ≡ listing.revision
  pub distinct : AllPairs (λ a b. a.key ≢ b.key) listing.items
  pub shows : (item : Item) → Contains listing.items item → IsListed h number place item (map item.key)
  pub lacks : listing.whole ≡ true → (key : ObjectKey) → InScope listing key → (IsAmong listing.items key → ⊥) → IsLacked h number place key (map key)

-- The answer of a write counts here where it found its revision, and that of a removal where it has no
-- range: it is right at clouded places alone.
abbrev pub IsRightAnswer : History → ℕ → Event → ℕ → Map → Answer → Type 0
IsRightAnswer h number event place map (Made item created) = IsClouded h item.key place
    ⊎ (IsShown item (map item.key) × CouldHaveFound h (record { number = number; event = event; item = item; created = created }))
IsRightAnswer h number event place map (Removed key uid) = IsClouded h key place
IsRightAnswer h number event place map (Opaque cover) = Unit {0}
IsRightAnswer h number event place map (Saw item) = IsClouded h item.key place ⊎ IsShown item (map item.key)
IsRightAnswer h number event place map (SawNone key) = IsClouded h key place ⊎ IsNone (map key)
IsRightAnswer h number event place map (SawSome key) = IsClouded h key place ⊎ IsSome (map key)
IsRightAnswer h number event place map (SawOther key) = IsClouded h key place ⊎ IsRefused event.conditions (map key)
IsRightAnswer h number event place map (Listed listing) = IsListRight h number listing place map
IsRightAnswer h number event place map Free = Unit {0}
IsRightAnswer h number event place map Aside = Unit {0}

abbrev pub IsRight : History → ℕ → Event → ℕ → Map → Type 0
IsRight h number event place map = IsRightAnswer h number event place map event.answer

-- the code of an answer that isn't right
abbrev pub answer_code : Answer → Reason
answer_code (Made item created) = U10
answer_code (Removed key uid) = U9
answer_code (Opaque cover) = U10
answer_code (Saw item) = U10
answer_code (SawNone key) = U11
answer_code (SawSome key) = U12
answer_code (SawOther key) = U12
answer_code (Listed listing) = U13
answer_code Free = U10
answer_code Aside = U10
