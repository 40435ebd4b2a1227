-- What `state` prints: which objects there may be at a place, by key.
use Rattle.std.specs.Prelude.{◌≡◌, ℕ, Bool, true, false, List, [], ◌∷◌, Option, Some, None, codes, decimal, option_map}
use Rattle.std.specs.List.{AllZip, flat_map}
use Rattle.base_types.specs.Keys.{key_spelling}
use Rattle.base_types.specs.declared.kubernetes.key.ObjectKey.{ObjectKey}
use Rattle.object_past.specs.declared.version.Version.{Version}
use Rattle.verdict_text.specs.Words.{ended, spaced}
use Rattle.log_context.specs.Keyed.{AreKeys}
use Rattle.log_context.specs.Known.{Known}
use Rattle.history_query.specs.Sights.{IsSight}
use Rattle.history_query.specs.Telling.{IsBelowStart, IsToldText}
use Rattle.history_query.specs.declared.sight.ObjectSight.{ObjectSight}
use Rattle.history_query.specs.declared.sight.ObjectSight.TheVariants.{Clouded, Told}

abbrev pub presence_word : Bool → List ℕ
presence_word true = codes "maybe"
presence_word false = codes "present"

-- nothing where the object can only be absent
abbrev pub presence_text : ObjectKey → Option Version → Bool → List ℕ
presence_text key None absent = []
presence_text key (Some v) absent = ended (spaced (presence_word absent ∷ key_spelling key ∷ decimal v.revision ∷ []))

-- `clouded KEY`, `present KEY M` or `maybe KEY M`
abbrev pub key_text : ObjectKey → ObjectSight → List ℕ
key_text key Clouded = ended (spaced (codes "clouded" ∷ key_spelling key ∷ []))
key_text key (Told present absent) = presence_text key (option_map (λ v. v.now) present) absent

abbrev pub IsKeyText : Known → ℕ → ObjectKey → List ℕ → Type 0
IsKeyText known place key text = (sight : ObjectSight) × IsSight known key place sight × (text ≡ key_text key sight)

-- the texts of all keys that have a version or that an unrecorded write names, in order
pub record IsStateOf (known : Known) (place : ℕ) (text : List ℕ) : Type 0 where
  pub keys : List ObjectKey
  pub are_keys : AreKeys known.versions known.log keys
  pub texts : List (List ℕ)
  pub each : AllZip (IsKeyText known place) keys texts
  pub joined : text ≡ flat_map (λ one. one) texts

abbrev pub IsStateText : Known → ℕ → List ℕ → Type 0
IsStateText known place text = IsToldText (IsBelowStart known place) (IsStateOf known place) text
