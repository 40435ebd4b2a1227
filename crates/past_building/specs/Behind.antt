-- The groups of a log's writes, behind the revision that it starts at.
use Rattle.std.specs.Prelude.{◌<◌, ℕ, List, All, AllPairs}
use Rattle.write_groups.specs.Grouped.{AreWrites}
use Rattle.write_groups.specs.declared.event.LogEvent.{LogEvent}
use Rattle.write_groups.specs.declared.groups.Group.{Group}

-- the groups rise by revision from above the start, and their members are writes of the log
pub record AreGroupsBehind (start : ℕ) (events : List LogEvent) (groups : List Group) : Type 0 where
  pub rising : AllPairs (λ a b. a.revision < b.revision) groups
  pub above : All (λ group. start < group.revision) groups
  pub members : All (λ group. AreWrites events group.members) groups
