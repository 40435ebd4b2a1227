-- The groups of a history: who may have written each revision.
use Rattle.std.specs.Prelude.{◌≡◌, ◌≢◌, ◌<◌, ℕ, List, [], All, AllPairs, Any, Contains}
use Rattle.history_model.specs.Events.{Event}
use Rattle.history_model.specs.Groups.{Making, IsMaking, IsMember, IsKeyOf}
use Rattle.history_model.specs.Histories.{History, IsEvent}
use Rattle.history_model.specs.Judging.{IsJudgedBefore}
use Rattle.write_groups.specs.declared.groups.Group.{Group}

-- the numbers stand in the order of judgement
abbrev pub AreInOrder : History → List ℕ → Type 0
AreInOrder h numbers = AllPairs (λ a b. (x y : Event) → IsEvent h a x → IsEvent h b y → IsJudgedBefore x y) numbers

-- the group of a revision of the history
pub record IsGroupOf (h : History) (group : Group) : Type 0 where
  pub above : h.start < group.revision
  pub belongs : IsKeyOf h group.revision group.key
  pub known : (number : ℕ) → Contains group.members number → (m : Making) × IsMember h group.key group.revision m × (m.number ≡ number)
  pub full : (m : Making) → IsMember h group.key group.revision m → Contains group.members m.number
  pub order : AreInOrder h group.members
  pub some : group.members ≢ []

-- the groups of all revisions above the start, by revision
pub record AreGroupsOf (h : History) (groups : List Group) : Type 0 where
  pub rising : AllPairs (λ a b. a.revision < b.revision) groups
  pub sound : All (IsGroupOf h) groups
  pub full : (m : Making) → IsMaking h m → h.start < m.item.revision → Any (λ group. group.revision ≡ m.item.revision) groups
