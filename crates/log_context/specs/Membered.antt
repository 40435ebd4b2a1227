-- The group of a revision.
use Rattle.std.specs.Prelude.{◌≡◌, ◌≢◌, ◌<◌, ℕ, List, []}
use Rattle.history_model.specs.Groups.{Making, IsMaking}
use Rattle.history_model.specs.Histories.{History}
use Rattle.write_groups.specs.Members.{IsGroupOf}
use Rattle.write_groups.specs.declared.groups.Group.{Group}

-- These are the writes of the revision's group, in the order of judgement. There are none at the start and below, and
-- where no write was answered with the revision.
pub data AreMembersAt (h : History) (revision : ℕ) (numbers : List ℕ) : Type 0 where
  grouped : (group : Group) → group.revision ≡ revision → group.members ≡ numbers → IsGroupOf h group → AreMembersAt h revision numbers
  lacking : numbers ≡ [] → ((m : Making) → IsMaking h m → h.start < m.item.revision → m.item.revision ≢ revision) → AreMembersAt h revision numbers
