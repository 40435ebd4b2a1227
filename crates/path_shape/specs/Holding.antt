-- How an answer stands to what is asked at a place.
use Rattle.std.specs.Prelude.{◌≡◌, Bool, true, false, Option, Some, None}
use Rattle.base_types.specs.Meaning.{Meaning, null, members, Fields}
use Rattle.path_shape.specs.declared.holding.Holding.{Holding}
use Rattle.path_shape.specs.declared.holding.Holding.TheVariants.{Silent, Held, Missing}
use Rattle.path_shape.specs.Forms.{says_nothing, is_held_by_child}

-- nothing is asked, or what is asked is held, or it isn't
abbrev pub IsHolding : Meaning → Option Meaning → Holding → Type 0
IsHolding asked holder Silent = says_nothing asked ≡ true
IsHolding asked holder Held = (says_nothing asked ≡ false) × (is_held_by_child asked holder ≡ true)
IsHolding asked holder Missing = (says_nothing asked ≡ false) × (is_held_by_child asked holder ≡ false)

abbrev pub is_missing : Holding → Bool
is_missing Silent = false
is_missing Held = false
is_missing Missing = true

-- an object that may be absent
abbrev pub object_or_null : Option Fields → Meaning
object_or_null None = null
object_or_null (Some ms) = members ms
