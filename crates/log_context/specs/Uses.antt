-- At which revision each uid comes first.
use Rattle.std.specs.Prelude.{◌≡◌, ◌<◌, ◌↔◌, ℕ, Bool, false, List, Option, Some, None, Any, IsTrue, nat_lt}
use Rattle.std.specs.BTreeMap.{BTreeMap, get}
use Rattle.clouds.specs.Kept.{text_order}
use Rattle.history_model.specs.Groups.{Making}
use Rattle.history_model.specs.Histories.{History}
use Rattle.history_model.specs.Making.{IsUsedUid}
use Rattle.object_past.specs.declared.version.Version.{Version}
use Rattle.log_context.specs.declared.uses.FirstUses.{FirstUses}

-- the first revision is there, and is below this one
abbrev pub is_used_below : Option ℕ → ℕ → Bool
is_used_below None revision = false
is_used_below (Some first) revision = nat_lt first revision

abbrev pub UsesBelow : List ℕ → ℕ → Version → Type 0
UsesBelow uid revision version = (version.revision < revision) × (version.uid ≡ uid)

-- a version below the revision has the uid
abbrev pub IsUsedBelow : List Version → List ℕ → ℕ → Type 0
IsUsedBelow versions uid revision = Any (UsesBelow uid revision) versions

-- the map tells of each uid and revision whether a version below it has the uid
abbrev pub AreUses : List Version → BTreeMap (List ℕ) ℕ → Type 0
AreUses versions uses = (uid : List ℕ) (revision : ℕ) → IsTrue (is_used_below (get text_order uses uid) revision) ↔ IsUsedBelow versions uid revision

-- they tell of what a write may have made whether its uid was there before
abbrev pub AreUsesOf : History → FirstUses → Type 0
AreUsesOf h uses = (m : Making) → IsTrue (is_used_below (get text_order uses.revisions m.item.uid) m.item.revision) ↔ IsUsedUid h m
