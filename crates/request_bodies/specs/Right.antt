-- When the answer to a write is what its body asked of the object before.
use Rattle.std.specs.Prelude.{◌≡◌, ⊤, Bool, true, false, IfSome, Option, Some, None}
use Rattle.base_types.specs.Meaning.{Meaning}
use Rattle.audit_event.specs.declared.event.Event.{Event}
use Rattle.path_shape.specs.Agreement.{Agrees, Keeps}
use Rattle.path_shape.specs.declared.shape.Shape.{Shape}
use Rattle.setup_file.specs.declared.setup.Setup.{Setup}
use Rattle.setup_file.specs.declared.setup.Tracked.{Tracked}
use Rattle.request_bodies.specs.Agreeing.{does_agree, does_keep}
use Rattle.request_bodies.specs.Asked.{asked_of}
use Rattle.request_bodies.specs.Requests.{shape_of}
use Rattle.request_bodies.specs.declared.asked.Asking.{Asking}
use Rattle.request_bodies.specs.declared.asked.Asking.TheVariants.{NotJudged, Wrong, Whole, Finalizing}
use Rattle.setup_file.specs.Requests.{tracked_of}

-- the answer is what was asked of the old object, or of none, of which a delete leaves nothing to compare
abbrev pub IsAsked : Shape → Option Meaning → Meaning → Asking → Type 0
IsAsked shape old answered NotJudged = ⊤
IsAsked shape old answered Wrong = ⊥
IsAsked shape old answered (Whole asked) = Agrees shape old asked answered
IsAsked shape old answered Finalizing = IfSome old (λ object. Keeps shape object answered)

-- the answer is what was asked of the resource or subresource that the request is for, where it is known
abbrev pub IsBodyRight : Setup → Event → Meaning → Option Meaning → Type 0
IsBodyRight setup event answered old =
    (tracked : Tracked) (shape : Shape) → tracked_of setup event.attrs ≡ Some tracked → shape_of tracked event.attrs ≡ Some shape
    → IsAsked shape old answered (asked_of tracked event old)

-- the same as tests

abbrev pub does_keep_all : Shape → Option Meaning → Meaning → Bool
does_keep_all shape None answered = true
does_keep_all shape (Some old) answered = does_keep shape old answered

abbrev pub is_asked : Shape → Option Meaning → Meaning → Asking → Bool
is_asked shape old answered NotJudged = true
is_asked shape old answered Wrong = false
is_asked shape old answered (Whole asked) = does_agree shape old asked answered
is_asked shape old answered Finalizing = does_keep_all shape old answered

abbrev pub is_right_in : Option Shape → Tracked → Event → Meaning → Option Meaning → Bool
is_right_in None tracked event answered old = true
is_right_in (Some shape) tracked event answered old = is_asked shape old answered (asked_of tracked event old)

abbrev pub is_right_for : Option Tracked → Event → Meaning → Option Meaning → Bool
is_right_for None event answered old = true
is_right_for (Some tracked) event answered old = is_right_in (shape_of tracked event.attrs) tracked event answered old

abbrev pub is_body_right : Setup → Event → Meaning → Option Meaning → Bool
is_body_right setup event answered old = is_right_for (tracked_of setup event.attrs) event answered old
