-- What objects there are at a place, for each choice of the removals' places.
use Rattle.std.specs.Prelude.{◌≡◌, ◌<◌, ◌≤◌, ℕ, Bool, false, if◌then◌else◌, ◌&&◌, ◌||◌, nat_lt, nat_le, ◌==◌, List, [], ◌∷◌, Option, Some, None, Contains}
use Rattle.base_types.specs.declared.kubernetes.key.ObjectKey.{ObjectKey}
use Rattle.history_model.specs.Histories.{History, Version, Removal}
use Rattle.base_types.specs.Keys.{same_key}

-- the object of each key, if there is one
abbrev pub Map : Type 0
Map = ObjectKey → Option Version

abbrev pub newer : Option Version → Option Version → Option Version
newer None other = other
newer (Some v) None = Some v
newer (Some v) (Some w) = if nat_lt v.revision w.revision then Some w else Some v

-- the key's latest version at or below the place
abbrev pub latest : List Version → ObjectKey → ℕ → Option Version
latest [] key place = None
latest (v ∷ versions) key place = newer (if same_key v.key key && nat_le v.revision place then Some v else None) (latest versions key place)

-- the same as a relation
abbrev pub IsLatest : List Version → ObjectKey → ℕ → Option Version → Type 0
IsLatest versions key place None = (w : Version) → Contains versions w → w.key ≡ key → place < w.revision
IsLatest versions key place (Some v) = Contains versions v × (v.key ≡ key) × (v.revision ≤ place)
    × ((w : Version) → Contains versions w → w.key ≡ key → w.revision ≤ place → w.revision ≤ v.revision)

-- a removal with the place that a choice gives it
pub record Cut : Type 0 where
  pub removal : Removal
  pub place : ℕ

abbrev pub cuts : List Removal → List ℕ → List Cut
cuts [] places = []
cuts (removal ∷ removals) [] = []
cuts (removal ∷ removals) (place ∷ places) = record { removal = removal; place = place } ∷ cuts removals places

-- the incarnation with this last version was removed at or below the place
abbrev pub is_gone : List Cut → ℕ → ℕ → Bool
is_gone [] last place = false
is_gone (cut ∷ cuts') last place = (cut.removal.last == last && nat_le cut.place place) || is_gone cuts' last place

abbrev pub unless_gone : List Cut → ℕ → Option Version → Option Version
unless_gone removed place None = None
unless_gone removed place (Some v) = if is_gone removed v.revision place then None else Some v

abbrev pub state : History → List ℕ → ℕ → Map
state h choice place key = unless_gone (cuts h.removals choice) place (latest h.versions key place)
