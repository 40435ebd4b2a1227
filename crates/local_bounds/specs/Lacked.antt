-- The keys that a whole list lacks.
use Rattle.std.specs.Prelude.{◌≡◌, ◌≢◌, List, AllPairs, Contains}
use Rattle.base_types.specs.declared.kubernetes.key.ObjectKey.{ObjectKey}
use Rattle.history_model.specs.Bounding.{IsAsked, Lacks}
use Rattle.history_model.specs.Events.{Listing}
use Rattle.history_model.specs.Histories.{History, Version}

-- the keys that the list lacks, of those that have a version, each once
pub record AreLacked (h : History) (listing : Listing) (keys : List ObjectKey) : Type 0 where
  pub distinct : AllPairs (λ a b. a ≢ b) keys
  pub sound : (key : ObjectKey) → Contains keys key → IsAsked listing (Lacks key)
  pub full : (key : ObjectKey) (v : Version) → IsAsked listing (Lacks key) → Contains h.versions v → v.key ≡ key → Contains keys key
