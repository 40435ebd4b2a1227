-- Chains of steps, each of which may break a rule.
use Rattle.std.specs.Prelude.{◌≡◌, ⊤, Bool, Option, Some, None, Result, Ok, Err, if◌then◌else◌}
use Rattle.setup_file.specs.declared.fault.SetupRule.{SetupRule}
use Rattle.setup_file.specs.declared.fault.SetupFault.{SetupFault}
use Rattle.setup_file.specs.declared.fault.SetupFault.TheVariants.{Rule, OutOfMemory}

-- the second step, where the first broke no rule
infixl 10 ◌>>=◌
abbrev pub ◌>>=◌ : {A B : Type 0} → Result A SetupRule → (A → Result B SetupRule) → Result B SetupRule
Ok value >>= next = next value
Err rule >>= next = Err rule

-- what was found; the rule is broken where nothing was
abbrev pub or_breaks : {A : Type 0} → SetupRule → Option A → Result A SetupRule
or_breaks rule None = Err rule
or_breaks rule (Some value) = Ok value

-- the rule is broken where a test fails
abbrev pub unless_breaks : {A : Type 0} → SetupRule → Bool → Result A SetupRule → Result A SetupRule
unless_breaks rule holds rest = if holds then rest else Err rule

-- a fault tells the rule that is broken; want of memory tells nothing
abbrev pub IsCause : {A : Type 0} → Result A SetupRule → SetupFault → Type 0
IsCause found (Rule rule) = found ≡ Err rule
IsCause found OutOfMemory = ⊤
