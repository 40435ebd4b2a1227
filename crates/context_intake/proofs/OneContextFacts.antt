-- The bytes of a setup and a log are refused in one way, or tell one history.
use Rattle.std.proofs.Common.{◌≡◌, ◌≤◌, ℕ, List, Ok, Err, length, sym, ◌∙◌, subst, arith}
use Rattle.audit_event.specs.declared.event.Event.{Event}
use Rattle.log_intake.specs.declared.stop.LogStop.{LogStop}
use Rattle.log_intake.specs.declared.stop.LogStop.TheVariants as log_stop
use Rattle.log_intake.specs.declared.stop.SetupStop.{SetupStop}
use Rattle.log_intake.specs.declared.stop.SetupStop.TheVariants as setup_stop
use Rattle.log_intake.specs.Log.{IsLogRead}
use Rattle.log_intake.specs.Setup.{IsSetupRead}
use Rattle.log_intake.proofs.OneReadingFacts.{one_reading}
use Rattle.log_intake.proofs.OneSetupFacts.{one_setup}
use Rattle.setup_file.specs.declared.setup.Setup.{Setup}
use Rattle.log_context.specs.Histories.{history_of}
use Rattle.log_context.specs.Known.{Known}
use Rattle.log_context.specs.LogTrees.{pooled}
use Rattle.log_context.proofs.OneHistory.{one_history}
use Rattle.context_intake.specs.Contexts.{IsContextOf, IsRefused, most_nodes, of_log, of_pool, of_setup, with_chains}
use Rattle.context_intake.specs.Refusals.{IsLogRefused, IsSetupRefused, IsSetupStopOf, IsStopOf}
use Rattle.context_intake.specs.declared.refusal.Refusal.{Refusal}

one_setup_refusal : (stop : SetupStop) (a b : Refusal) → IsSetupStopOf stop a → IsSetupStopOf stop b → a ≡ b
one_setup_refusal (setup_stop.Rule rule) a b x y = x ∙ sym y
one_setup_refusal setup_stop.TooLong a b x y = x ∙ sym y
one_setup_refusal setup_stop.ReadFault a b x y = absurd x
one_setup_refusal setup_stop.OutOfMemory a b x y = absurd x

one_log_refusal : (stop : LogStop) (a b : Refusal) → IsStopOf stop a → IsStopOf stop b → a ≡ b
one_log_refusal (log_stop.Malformed line code) a b x y = x ∙ sym y
one_log_refusal log_stop.LineTooLong a b x y = x ∙ sym y
one_log_refusal log_stop.TooManyEvents a b x y = x ∙ sym y
one_log_refusal log_stop.TooLong a b x y = x ∙ sym y
one_log_refusal log_stop.ReadFault a b x y = absurd x
one_log_refusal log_stop.OutOfMemory a b x y = absurd x

same_setup_refusal : (bytes : List ℕ) (a b : Refusal) → IsSetupRefused bytes a → IsSetupRefused bytes b → a ≡ b
same_setup_refusal bytes a b (stop, read, of) (stop', read', of') =
    let both = one_setup bytes (Err stop) (Err stop') read read' in
    let same : stop ≡ stop' = cc in
    one_setup_refusal stop a b of (subst (λ s. IsSetupStopOf s b) (sym same) of')

same_log_refusal : (bytes : List ℕ) (a b : Refusal) → IsLogRefused bytes a → IsLogRefused bytes b → a ≡ b
same_log_refusal bytes a b (stop, read, of) (stop', read', of') =
    let both = one_reading bytes (Err stop) (Err stop') read read' in
    let same : stop ≡ stop' = cc in
    one_log_refusal stop a b of (subst (λ s. IsStopOf s b) (sym same) of')

pub setup_one_way : (bytes : List ℕ) (setup : Setup) (refusal : Refusal) → IsSetupRead bytes (Ok setup) → IsSetupRefused bytes refusal → ⊥
setup_one_way bytes setup refusal read (stop, refused, of) = let both = one_setup bytes (Ok setup) (Err stop) read refused in cc

log_one_way : (bytes : List ℕ) (events : List Event) (refusal : Refusal) → IsLogRead bytes (Ok events) → IsLogRefused bytes refusal → ⊥
log_one_way bytes events refusal read (stop, refused, of) = let both = one_reading bytes (Ok events) (Err stop) read refused in cc

same_setup : (bytes : List ℕ) (a b : Setup) → IsSetupRead bytes (Ok a) → IsSetupRead bytes (Ok b) → a ≡ b
same_setup bytes a b x y = let both = one_setup bytes (Ok a) (Ok b) x y in let same : a ≡ b = cc in same

same_events : (bytes : List ℕ) (a b : List Event) → IsLogRead bytes (Ok a) → IsLogRead bytes (Ok b) → a ≡ b
same_events bytes a b x y = let both = one_reading bytes (Ok a) (Ok b) x y in let same : a ≡ b = cc in same

pub one_refusal : (setup log : List ℕ) (a b : Refusal) → IsRefused setup log a → IsRefused setup log b → a ≡ b
one_refusal setup log a b (of_setup x) (of_setup y) = same_setup_refusal setup a b x y
one_refusal setup log a b (of_setup x) (of_log read is y) = absurd (setup_one_way setup read a is x)
one_refusal setup log a b (of_setup x) (of_pool read events is log_is many e) = absurd (setup_one_way setup read a is x)
one_refusal setup log a b (of_log read is x) (of_setup y) = absurd (setup_one_way setup read b is y)
one_refusal setup log a b (of_log read is x) (of_log read' is' y) = same_log_refusal log a b x y
one_refusal setup log a b (of_log read is x) (of_pool read' events is' log_is many e) = absurd (log_one_way log events a log_is x)
one_refusal setup log a b (of_pool read events is log_is many e) (of_setup y) = absurd (setup_one_way setup read b is y)
one_refusal setup log a b (of_pool read events is log_is many e) (of_log read' is' y) = absurd (log_one_way log events b log_is y)
one_refusal setup log a b (of_pool read events is log_is many e) (of_pool read' events' is' log_is' many' e') = e ∙ sym e'

-- setup and log of a context, as they were read
pooled_as : (setup log : List ℕ) (known : Known) (read : Setup) (events : List Event) → IsContextOf setup log known → IsSetupRead setup (Ok read) → IsLogRead log (Ok events)
    → length (pooled (with_chains read events) events) ≤ most_nodes
pooled_as setup log known read events context setup_is log_is =
    let setups = same_setup setup context.read read context.setup_is setup_is in
    let logs = same_events log known.events events context.log_is log_is in
    let chained : known.setup ≡ with_chains read events = context.chained ∙ (λ i. with_chains (setups i) (logs i)) in
    subst (λ s. length (pooled s events) ≤ most_nodes) chained (subst (λ e. length (pooled known.setup e) ≤ most_nodes) logs context.few)

pub one_way : (setup log : List ℕ) (refusal : Refusal) (known : Known) → IsRefused setup log refusal → IsContextOf setup log known → ⊥
one_way setup log refusal known (of_setup x) context = setup_one_way setup context.read refusal context.setup_is x
one_way setup log refusal known (of_log read is x) context = log_one_way log known.events refusal context.log_is x
one_way setup log refusal known (of_pool read events is log_is many e) context =
    let few = pooled_as setup log known read events context is log_is in
    omega (arith, many, few)

pub one_context : (setup log : List ℕ) (a b : Known) → IsContextOf setup log a → IsContextOf setup log b → (a.setup ≡ b.setup) × (a.events ≡ b.events) × (history_of a ≡ history_of b)
one_context setup log a b x y =
    let reads = same_setup setup x.read y.read x.setup_is y.setup_is in
    let logs = same_events log a.events b.events x.log_is y.log_is in
    let setups : a.setup ≡ b.setup = x.chained ∙ (λ i. with_chains (reads i) (logs i)) ∙ sym y.chained in
    (setups, logs, one_history a b x.told y.told setups logs)
