-- Whether two events are equal, by their fields.
use Rattle.std.proofs.Common.{◌≡◌, ℕ, List, Bool, true, false, Option, Some, None, bytes_eq, refl, ap, rules}
use Rattle.std.specs.Bool.{Decides}
use Rattle.std.specs.Option.{option_eq}
use lib.Pointwise.{pointwise}
use mathlib.Core.Bool.{beq}
use Rattle.std.proofs.lemmas.Bool.{false≢true}
use Rattle.std.proofs.lemmas.Bool.Decides.{Decides-and, Decides-eqb, Decides-like}
use Rattle.std.proofs.lemmas.Slice.Eq.{bytes_eq-Decides, slice_eq-Decides}
use Rattle.base_types.specs.Same.{same-Decides}
use Rattle.base_types.specs.declared.kubernetes.request.Pair.{Pair}
use Rattle.base_types.specs.declared.kubernetes.request.User.{User}
use Rattle.base_types.specs.declared.kubernetes.request.RequestAttrs.{RequestAttrs}
use Rattle.base_types.specs.declared.kubernetes.request.Level.{Level}
use Rattle.base_types.specs.declared.kubernetes.request.Stage.{Stage}
use Rattle.base_types.specs.declared.kubernetes.request.Decision.{Decision}
use Rattle.base_types.specs.declared.kubernetes.revision.Moment.{Moment}
use Rattle.audit_event.specs.declared.event.Event.{Event}
use Rattle.audit_event.specs.declared.event.Status.{Status}
use Rattle.audit_event.specs.declared.event.Body.{Body}
use Rattle.audit_event.specs.declared.event.Body.TheVariants.{Absent, Kept, Unread}
use Rattle.base_types.specs.contracts.kubernetes.request.PairPartialEq.TheImpl as same_pair
use Rattle.base_types.specs.contracts.kubernetes.request.LevelPartialEq.TheImpl as same_level
use Rattle.base_types.specs.contracts.kubernetes.request.StagePartialEq.TheImpl as same_stage
use Rattle.base_types.specs.contracts.kubernetes.request.DecisionPartialEq.TheImpl as same_decision
use Rattle.base_types.specs.contracts.kubernetes.revision.MomentPartialEq.TheImpl as same_moment
use Rattle.base_types.specs.contracts.kubernetes.request.UserPartialEq.TheImpl as same_user
use Rattle.base_types.specs.contracts.kubernetes.request.RequestAttrsPartialEq.TheImpl as same_attrs
use Rattle.audit_event.specs.contracts.event.StatusPartialEq.TheImpl as same_status
use Rattle.audit_event.specs.contracts.event.BodyPartialEq.TheImpl as same_body
use Rattle.audit_event.specs.contracts.event.EventPartialEq.TheImpl as same_event

option_decides : {A : Type 0} {E : A → A → Bool} → ((x y : A) → Decides (E x y) (x ≡ y)) → (a b : Option A) → Decides (option_eq E a b) (a ≡ b)
option_decides each None None = (λ _. refl, λ _. refl)
option_decides each None (Some y) = (λ e. absurd (false≢true e), λ e. absurd (cc))
option_decides each (Some x) None = (λ e. absurd (false≢true e), λ e. absurd (cc))
option_decides each (Some x) (Some y) = Decides-like _ (λ e. ap Some e) (λ e. cc) (each x y)

level_decides : (a b : Level) → Decides (same_level.eq-value.it a b) (a ≡ b)
level_decides a b = (λ e. search rules, λ e. search rules)

stage_decides : (a b : Stage) → Decides (same_stage.eq-value.it a b) (a ≡ b)
stage_decides a b = (λ e. search rules, λ e. search rules)

decision_decides : (a b : Decision) → Decides (same_decision.eq-value.it a b) (a ≡ b)
decision_decides a b = (λ e. search rules, λ e. search rules)

moment_decides : (a b : Moment) → Decides (same_moment.eq-value.it a b) (a ≡ b)
moment_decides a b = (λ e. search rules, λ e. search rules)

flag_decides : (a b : Bool) → Decides (beq a b) (a ≡ b)
flag_decides true true = (λ _. refl, λ _. refl)
flag_decides true false = (λ e. absurd (false≢true e), λ e. absurd (cc))
flag_decides false true = (λ e. absurd (false≢true e), λ e. absurd (cc))
flag_decides false false = (λ _. refl, λ _. refl)

pair_decides : (a b : Pair) → Decides (same_pair.eq-value.it a b) (a ≡ b)
pair_decides a b =
    Decides-like _
    (λ e. λ i. record { name = e.0 i; value = e.1 i })
    (λ e. (cc, cc))
    (Decides-and _ _ (bytes_eq-Decides a.name b.name)
    (bytes_eq-Decides a.value b.value))

texts_decide : (a b : List (List ℕ)) → Decides (pointwise bytes_eq a b) (a ≡ b)
texts_decide a b = slice_eq-Decides bytes_eq-Decides a b _ refl

query_decides : (a b : List Pair) → Decides (pointwise same_pair.eq-value.it a b) (a ≡ b)
query_decides a b = slice_eq-Decides pair_decides a b _ refl

user_decides : (a b : User) → Decides (same_user.eq-value.it a b) (a ≡ b)
user_decides a b =
    Decides-like _
    (λ e. λ i. record { name = e.0 i; groups = e.1 i })
    (λ e. (cc, cc))
    (Decides-and _ _ (bytes_eq-Decides a.name b.name)
    (texts_decide a.groups b.groups))

attrs_decide : (a b : RequestAttrs) → Decides (same_attrs.eq-value.it a b) (a ≡ b)
attrs_decide a b =
    Decides-like _
    (λ e.
    let more = e.1.1.1.1.1 in
    λ i. record {
      verb = e.0 i;
      path = e.1.0 i;
      is_resource = e.1.1.0 i;
      group = e.1.1.1.0 i;
      version = e.1.1.1.1.0 i;
      resource = more.0 i;
      subresource = more.1.0 i;
      namespace = more.1.1.0 i;
      name = more.1.1.1.0 i;
      query = more.1.1.1.1 i;
    })
    (λ e. (cc, (cc, (cc, (cc, (cc, (cc, (cc, (cc, (cc, cc))))))))))
    (Decides-and _ _ (bytes_eq-Decides a.verb b.verb)
    (Decides-and _ _ (bytes_eq-Decides a.path b.path)
    (Decides-and _ _ (flag_decides a.is_resource b.is_resource)
    (Decides-and _ _ (bytes_eq-Decides a.group b.group)
    (Decides-and _ _ (bytes_eq-Decides a.version b.version)
    (Decides-and _ _ (bytes_eq-Decides a.resource b.resource)
    (Decides-and _ _ (bytes_eq-Decides a.subresource b.subresource)
    (Decides-and _ _ (bytes_eq-Decides a.namespace b.namespace)
    (Decides-and _ _ (bytes_eq-Decides a.name b.name)
    (query_decides a.query b.query))))))))))

status_decides : (a b : Status) → Decides (same_status.eq-value.it a b) (a ≡ b)
status_decides a b =
    Decides-like _
    (λ e.
    λ i. record {
      code = e.0 i;
      reason = e.1.0 i;
      success = e.1.1.0 i;
      uid = e.1.1.1.0 i;
      name = e.1.1.1.1.0 i;
      kind = e.1.1.1.1.1 i;
    })
    (λ e. (cc, (cc, (cc, (cc, (cc, cc))))))
    (Decides-and _ _ (option_decides Decides-eqb a.code b.code)
    (Decides-and _ _ (bytes_eq-Decides a.reason b.reason)
    (Decides-and _ _ (flag_decides a.success b.success)
    (Decides-and _ _ (bytes_eq-Decides a.uid b.uid)
    (Decides-and _ _ (bytes_eq-Decides a.name b.name)
    (bytes_eq-Decides a.kind b.kind))))))

body_decides : (a b : Body) → Decides (same_body.eq-value.it a b) (a ≡ b)
body_decides Absent Absent = (λ _. refl, λ _. refl)
body_decides Absent (Kept y) = (λ e. absurd (false≢true e), λ e. absurd (cc))
body_decides Absent Unread = (λ e. absurd (false≢true e), λ e. absurd (cc))
body_decides (Kept x) Absent = (λ e. absurd (false≢true e), λ e. absurd (cc))
body_decides (Kept x) (Kept y) = Decides-like _ (λ e. ap Kept e) (λ e. cc) (same-Decides x y)
body_decides (Kept x) Unread = (λ e. absurd (false≢true e), λ e. absurd (cc))
body_decides Unread Absent = (λ e. absurd (false≢true e), λ e. absurd (cc))
body_decides Unread (Kept y) = (λ e. absurd (false≢true e), λ e. absurd (cc))
body_decides Unread Unread = (λ _. refl, λ _. refl)

pub event_decides : (a b : Event) → Decides (same_event.eq-value.it a b) (a ≡ b)
event_decides a b =
    Decides-like _
    (λ e.
    let more = e.1.1.1.1.1 in
    let rest = more.1.1.1.1.1 in
    λ i. record {
      line = e.0 i;
      level = e.1.0 i;
      audit_id = e.1.1.0 i;
      stage = e.1.1.1.0 i;
      attrs = e.1.1.1.1.0 i;
      user = more.0 i;
      impersonated = more.1.0 i;
      status = more.1.1.0 i;
      request = more.1.1.1.0 i;
      response = more.1.1.1.1.0 i;
      received = rest.0 i;
      staged = rest.1.0 i;
      decision = rest.1.1 i;
    })
    (λ e. (cc, (cc, (cc, (cc, (cc, (cc, (cc, (cc, (cc, (cc, (cc, (cc, cc)))))))))))))
    (Decides-and _ _ (Decides-eqb a.line b.line)
    (Decides-and _ _ (level_decides a.level b.level)
    (Decides-and _ _ (bytes_eq-Decides a.audit_id b.audit_id)
    (Decides-and _ _ (stage_decides a.stage b.stage)
    (Decides-and _ _ (attrs_decide a.attrs b.attrs)
    (Decides-and _ _ (user_decides a.user b.user)
    (Decides-and _ _ (option_decides user_decides a.impersonated b.impersonated)
    (Decides-and _ _ (status_decides a.status b.status)
    (Decides-and _ _ (body_decides a.request b.request)
    (Decides-and _ _ (body_decides a.response b.response)
    (Decides-and _ _ (moment_decides a.received b.received)
    (Decides-and _ _ (moment_decides a.staged b.staged)
    (option_decides decision_decides a.decision b.decision)))))))))))))
