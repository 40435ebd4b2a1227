-- What an event does by what was drawn: a request and its answer, and what is there behind it.
use Rattle.std.specs.Prelude.{ℕ, ◌+◌, nat_le, if◌then◌else◌, Option, Some, None}
use Rattle.case_maker.specs.declared.exchange.Held.{Held}
use Rattle.case_maker.specs.declared.exchange.Exchange.{Exchange}
use Rattle.case_maker.specs.declared.exchange.Exchange.TheVariants.{Create, Miss, Update, Get, Delete, List}

-- what event `number` does where the revision so far is `revision`, by the object of the drawn name and
-- by the number from 0 to 7 that is drawn for it
abbrev pub exchange_of : Option Held → ℕ → ℕ → ℕ → Exchange
exchange_of None choice number revision =
    if nat_le choice 5 then Create (record { created = number; revision = revision + 1; written = number })
    else Miss
exchange_of (Some held) choice number revision =
    if nat_le choice 3 then Update (record { created = held.created; revision = revision + 1; written = number })
    else (if nat_le choice 5 then Get held else (if nat_le choice 6 then Delete held else List held))

-- a write takes the next revision
abbrev pub revision_after : Exchange → ℕ → ℕ
revision_after (Create held) revision = revision + 1
revision_after Miss revision = revision
revision_after (Update held) revision = revision + 1
revision_after (Get held) revision = revision
revision_after (Delete held) revision = revision + 1
revision_after (List held) revision = revision

-- the object of the drawn name
abbrev pub object_after : Exchange → Option Held
object_after (Create held) = Some held
object_after Miss = None
object_after (Update held) = Some held
object_after (Get held) = Some held
object_after (Delete held) = None
object_after (List held) = Some held
