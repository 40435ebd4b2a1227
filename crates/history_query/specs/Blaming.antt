-- What `blame` prints: the value at a pointer in the object that may be there, and which write it goes back to.
use Rattle.std.specs.Prelude.{◌≡◌, ◌≤◌, ℕ, List, [], ◌∷◌, ◌++◌, Option, Some, None, codes, decimal, option_and_then, option_map, slice_get, Contains}
use Rattle.audit_event.specs.declared.event.Event.{Event}
use Rattle.base_types.specs.declared.kubernetes.key.ObjectKey.{ObjectKey}
use Rattle.base_types.specs.Meaning.{Meaning}
use Rattle.base_types.specs.Pointers.{pointed}
use Rattle.object_past.specs.declared.version.Version.{Version}
use Rattle.verdict_text.specs.Words.{ended, spaced}
use Rattle.log_context.specs.Known.{Known}
use Rattle.write_groups.specs.declared.event.LogEvent.{LogEvent}
use Rattle.history_query.specs.Showing.{clouded_text}
use Rattle.history_query.specs.Sights.{IsSight}
use Rattle.history_query.specs.Telling.{IsToldText, IsUntold, json_text, user_text, who_text}
use Rattle.history_query.specs.declared.sight.ObjectSight.{ObjectSight}
use Rattle.history_query.specs.declared.sight.ObjectSight.TheVariants.{Clouded, Told}

-- the value that the pointer identifies in the version (RFC 6901 section 4)
abbrev pub value_pointed : List Meaning → List (List ℕ) → Version → Option Meaning
value_pointed trees pointer v = option_and_then (pointed pointer) (slice_get trees v.node.0)

-- another version of the same object with the same value there
pub record IsSameAt (trees : List Meaning) (pointer : List (List ℕ)) (v other : Version) : Type 0 where
  pub uid : other.uid ≡ v.uid
  pub value : value_pointed trees pointer other ≡ value_pointed trees pointer v

-- from this revision on, up to the version, each version of its key is one of the same object with the same value
abbrev pub StaysFrom : Known → List (List ℕ) → Version → ℕ → Type 0
StaysFrom known pointer v revision = (other : Version) → Contains known.versions other → other.key ≡ v.key → revision ≤ other.revision → other.revision ≤ v.revision
    → IsSameAt known.trees pointer v other

-- the first version from which on it stays so
pub record IsSince (known : Known) (pointer : List (List ℕ)) (v since : Version) : Type 0 where
  pub known_is : Contains known.versions since
  pub of_key : since.key ≡ v.key
  pub upto : since.revision ≤ v.revision
  pub stays : StaysFrom known pointer v since.revision
  pub least : (other : Version) → Contains known.versions other → other.key ≡ v.key → other.revision ≤ v.revision → StaysFrom known pointer v other.revision
      → since.revision ≤ other.revision

-- `value JSON`
abbrev pub value_text : Option Meaning → List ℕ
value_text None = ended (codes "no value")
value_text (Some tree) = ended (spaced (codes "value" ∷ json_text tree ∷ []))

-- `since M WHO USER`
abbrev pub since_text : List Event → List LogEvent → Version → List ℕ
since_text events log since =
    ended (spaced (codes "since" ∷ decimal since.revision ∷ who_text log since.maker ∷ user_text events since.maker ∷ []))

abbrev pub IsPresentBlame : Known → List (List ℕ) → Option Version → List ℕ → Type 0
IsPresentBlame known pointer None text = text ≡ ended (codes "absent")
IsPresentBlame known pointer (Some v) text = (since : Version) × IsSince known pointer v since
    × (text ≡ value_text (value_pointed known.trees pointer v) ++ since_text known.events known.log since)

abbrev pub IsBlameOf : Known → List (List ℕ) → ObjectSight → List ℕ → Type 0
IsBlameOf known pointer Clouded text = text ≡ clouded_text
IsBlameOf known pointer (Told present absent) text = IsPresentBlame known pointer (option_map (λ v. v.now) present) text

abbrev pub IsBlame : Known → ObjectKey → List (List ℕ) → ℕ → List ℕ → Type 0
IsBlame known key pointer place text = (sight : ObjectSight) × IsSight known key place sight × IsBlameOf known pointer sight text

abbrev pub IsBlameText : Known → ObjectKey → List (List ℕ) → ℕ → List ℕ → Type 0
IsBlameText known key pointer place text = IsToldText (IsUntold known key place) (IsBlame known key pointer place) text
