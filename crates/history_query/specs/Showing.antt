-- What `show` prints: the object as it may be at a place, and that it may be absent.
use Rattle.std.specs.Prelude.{◌≡◌, ℕ, Bool, true, false, List, [], ◌∷◌, ◌++◌, Option, Some, None, codes, decimal, option_map}
use Rattle.base_types.specs.declared.kubernetes.key.ObjectKey.{ObjectKey}
use Rattle.base_types.specs.Meaning.{Meaning}
use Rattle.object_past.specs.declared.version.Version.{Version}
use Rattle.verdict_text.specs.Words.{ended, spaced}
use Rattle.log_context.specs.Known.{Known}
use Rattle.history_query.specs.Sights.{IsSight}
use Rattle.history_query.specs.Telling.{IsToldText, IsUntold, json_at}
use Rattle.history_query.specs.declared.sight.ObjectSight.{ObjectSight}
use Rattle.history_query.specs.declared.sight.ObjectSight.TheVariants.{Clouded, Told}

abbrev pub clouded_text : List ℕ
clouded_text = ended (codes "clouded")

-- `present M JSON`
abbrev pub present_text : List Meaning → Option Version → List ℕ
present_text trees None = []
present_text trees (Some v) = ended (spaced (codes "present" ∷ decimal v.revision ∷ json_at trees v.node.0 ∷ []))

abbrev pub absent_text : Bool → List ℕ
absent_text true = ended (codes "absent")
absent_text false = []

abbrev pub sight_text : List Meaning → ObjectSight → List ℕ
sight_text trees Clouded = clouded_text
sight_text trees (Told present absent) = present_text trees (option_map (λ v. v.now) present) ++ absent_text absent

abbrev pub IsSightText : Known → ObjectKey → ℕ → List ℕ → Type 0
IsSightText known key place text = (sight : ObjectSight) × IsSight known key place sight × (text ≡ sight_text known.trees sight)

abbrev pub IsShowText : Known → ObjectKey → ℕ → List ℕ → Type 0
IsShowText known key place text = IsToldText (IsUntold known key place) (IsSightText known key place) text
