-- Versions with what is known of each beside them.
use Rattle.std.specs.Prelude.{◌<◌, ℕ, Bool, List, Option, AllPairs}
use Rattle.past_building.specs.Growing.{AreFlagged, AreLinked}
use Rattle.object_past.specs.declared.version.Version.{Version}

-- the versions rise by revision; of each it is known whether its incarnation is the first of its key with its uid, and where its key's version before it is
pub record AreTraced (versions : List Version) (firsts : List Bool) (earlier : List (Option ℕ)) : Type 0 where
  pub rising : AllPairs (λ a b. a.revision < b.revision) versions
  pub flagged : AreFlagged versions firsts
  pub linked : AreLinked versions earlier
