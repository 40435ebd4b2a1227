-- The test of bodies is the relation.
use Rattle.std.proofs.Common.{◌≡◌, Option, Some, None, refl, subst}
use Rattle.std.specs.Bool.{Decides}
use Rattle.std.proofs.lemmas.Bool.{false≢true}
use Rattle.base_types.specs.Meaning.{Meaning}
use Rattle.audit_event.specs.declared.event.Event.{Event}
use Rattle.path_shape.specs.declared.shape.Shape.{Shape}
use Rattle.setup_file.specs.declared.setup.Setup.{Setup}
use Rattle.setup_file.specs.declared.setup.Tracked.{Tracked}
use Rattle.request_bodies.specs.Asked.{asked_of}
use Rattle.request_bodies.specs.Requests.{shape_of}
use Rattle.request_bodies.specs.Right.{IsAsked, IsBodyRight, is_asked, is_right_in, is_right_for, is_body_right}
use Rattle.request_bodies.specs.declared.asked.Asking.{Asking}
use Rattle.request_bodies.specs.declared.asked.Asking.TheVariants.{NotJudged, Wrong, Whole, Finalizing}
use Rattle.request_bodies.proofs.Tested.{agree-Decides, keep-Decides}
use Rattle.setup_file.specs.Requests.{tracked_of}

asked-Decides : (shape : Shape) (old : Option Meaning) (answered : Meaning) (asking : Asking) → Decides (is_asked shape old answered asking) (IsAsked shape old answered asking)
asked-Decides shape old answered NotJudged = (λ _. tt, λ _. refl)
asked-Decides shape old answered Wrong = (λ f. absurd (false≢true f), λ e. absurd e)
asked-Decides shape old answered (Whole asked) = agree-Decides shape old asked answered
asked-Decides shape None answered Finalizing = (λ _. tt, λ _. refl)
asked-Decides shape (Some object) answered Finalizing = keep-Decides shape object answered

-- the relation, of what was found
abbrev IsRightFor : Option Tracked → Event → Meaning → Option Meaning → Type 0
IsRightFor found event answered old = (tracked : Tracked) (shape : Shape) → found ≡ Some tracked → shape_of tracked event.attrs ≡ Some shape → IsAsked shape old answered (asked_of tracked event old)

abbrev IsRightIn : Option Shape → Tracked → Event → Meaning → Option Meaning → Type 0
IsRightIn found tracked event answered old = (shape : Shape) → found ≡ Some shape → IsAsked shape old answered (asked_of tracked event old)

in-Decides : (found : Option Shape) (tracked : Tracked) (event : Event) (answered : Meaning) (old : Option Meaning) → Decides (is_right_in found tracked event answered old) (IsRightIn found tracked event answered old)
in-Decides None tracked event answered old = (λ _ shape is. absurd (cc), λ _. refl)
in-Decides (Some found) tracked event answered old =
    let decided = asked-Decides found old answered (asked_of tracked event old) in
    (λ e shape is. let same : found ≡ shape = cc in subst (λ s. IsAsked s old answered (asked_of tracked event old)) same (decided.0 e), λ h. decided.1 (h found refl))

for-Decides : (found : Option Tracked) (event : Event) (answered : Meaning) (old : Option Meaning) → Decides (is_right_for found event answered old) (IsRightFor found event answered old)
for-Decides None event answered old = (λ _ tracked shape is. absurd (cc), λ _. refl)
for-Decides (Some found) event answered old =
    let decided = in-Decides (shape_of found event.attrs) found event answered old in (
      λ e tracked shape is.
          let same : found ≡ tracked = cc in
          subst (λ t. (s : Shape) → shape_of t event.attrs ≡ Some s → IsAsked s old answered (asked_of t event old)) same (decided.0 e) shape,
      λ h. decided.1 (λ shape. h found shape refl),
    )

pub body-Decides : (setup : Setup) (event : Event) (answered : Meaning) (old : Option Meaning) → Decides (is_body_right setup event answered old) (IsBodyRight setup event answered old)
body-Decides setup event answered old = for-Decides (tracked_of setup event.attrs) event answered old
