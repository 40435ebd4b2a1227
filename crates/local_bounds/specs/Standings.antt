-- What is known of an object at a place.
use Rattle.std.specs.Prelude.{◌≡◌, ◌⊎◌, ℕ, Bool, List, Option, Some, None, if◌then◌else◌}
use Rattle.base_types.specs.Choices.{IsChoice, Meets}
use Rattle.base_types.specs.declared.verdict.claim.Bound.{Bound}
use Rattle.base_types.specs.declared.kubernetes.key.ObjectKey.{ObjectKey}
use Rattle.history_model.specs.Histories.{History, ranges}
use Rattle.history_model.specs.States.{state}
use Rattle.object_past.specs.declared.version.Version.{Version}
use Rattle.object_past.specs.Modelled.{version_of}
use Rattle.local_bounds.specs.declared.asking.KeyDemand.{KeyDemand}
use Rattle.local_bounds.specs.declared.asking.KeyDemand.TheVariants.{Free, Under, Never}
use Rattle.local_bounds.specs.declared.standing.Standing.{Standing}
use Rattle.local_bounds.specs.declared.standing.Standing.TheVariants.{Absent, Present, Leaving}
use Rattle.local_bounds.specs.Asked.{IsDeciding, IsOnKey, settled}

-- under the choice the version is gone, and then the one bound is met, or it is there, and then the other
abbrev pub IsEither : History → ObjectKey → ℕ → List ℕ → Version → Bound → Bound → Type 0
IsEither h key place choice version gone there =
    ((state h choice place key ≡ None) × Meets choice gone × (Meets choice there → ⊥))
    ⊎ ((state h choice place key ≡ Some (version_of version)) × Meets choice there × (Meets choice gone → ⊥))

pub record IsLeaving (h : History) (key : ObjectKey) (place : ℕ) (version : Version) (gone there : Bound) : Type 0 where
  pub gone_decides : IsDeciding h gone
  pub gone_on : IsOnKey h key gone
  pub there_decides : IsDeciding h there
  pub there_on : IsOnKey h key there
  pub either : (choice : List ℕ) → IsChoice (ranges h) choice → IsEither h key place choice version gone there

abbrev pub IsStanding : History → ObjectKey → ℕ → Standing → Type 0
IsStanding h key place Absent = (choice : List ℕ) → IsChoice (ranges h) choice → state h choice place key ≡ None
IsStanding h key place (Present version) = (choice : List ℕ) → IsChoice (ranges h) choice → state h choice place key ≡ Some (version_of version.now)
IsStanding h key place (Leaving version gone there) = IsLeaving h key place version.now gone there

-- the version that is there, if any is
abbrev pub standing_version : Standing → Option Version
standing_version Absent = None
standing_version (Present version) = Some version.now
standing_version (Leaving version gone there) = Some version.now

abbrev pub ask_either : (if_absent if_present : Bool) → Bound → Bound → KeyDemand
ask_either if_absent if_present gone there = if if_absent then (if if_present then Free else Under gone) else (if if_present then Under there else Never)

-- what is asked where the absent object, and the present one, fit so
abbrev pub ask_of : Standing → (if_absent if_present : Bool) → KeyDemand
ask_of Absent if_absent if_present = settled if_absent
ask_of (Present version) if_absent if_present = settled if_present
ask_of (Leaving version gone there) if_absent if_present = ask_either if_absent if_present gone there
