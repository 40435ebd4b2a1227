-- The selectors of events, one after another.
use Rattle.std.proofs.Common.{◌≡◌, ◌==◌, ℕ, zero, suc, ◌+◌, ◌<◌, Bool, true, false, List, [], ◌∷◌, ◌++◌, length, get_or, take, Option, Some, None, slice_get, option_and_then, if◌then◌else◌, refl, sym, ap, subst, ◌∙◌, arith}
use Rattle.std.specs.Bool.{Decides}
use Rattle.std.proofs.lemmas.Bool.{false≢true}
use Rattle.std.proofs.lemmas.Bool.Decides.{Decides-eqb}
use Rattle.std.proofs.lemmas.Option.{slice_get_past}
use Rattle.std.specs.BTreeMap.{get}
use Rattle.std.specs.Ordering.{nat_cmp}
use Rattle.label_select.specs.declared.selector.Requirement.{Requirement}
use Rattle.audit_event.specs.declared.event.Event.{Event}
use Rattle.setup_file.specs.declared.setup.Setup.{Setup}
use Rattle.node_number.proofs.Growing.{slice_get-last}
use Rattle.answer_class.specs.Classes.{class_of}
use Rattle.log_context.proofs.PoolLemmas.{more_taken, length_taken}
use Rattle.log_context.specs.LogSelectors.{Selectors, selector_in, selector_at, or_else, AddsSelector, AreSelectorsOf}

or_none : (selector : Option (List Requirement)) → or_else selector None ≡ selector
or_none None = refl
or_none (Some selector) = refl

-- an item behind others has a number of its own
pub other_place : {X : Type 0} (xs : List X) (x : X) (n : ℕ) → (n ≡ length xs → ⊥) → slice_get (xs ++ x ∷ []) n ≡ slice_get xs n
other_place [] x zero other = absurd (other refl)
other_place [] x (suc n) other = refl
other_place (y ∷ xs) x zero other = refl
other_place (y ∷ xs) x (suc n) other = other_place xs x n (λ e. other (ap suc e))

pub selectors_more : (setup : Setup) (events : List Event) (event : Event) (old new : Selectors) → AreSelectorsOf setup events old
    → AddsSelector (length events) (selector_in (class_of setup event)) old new → AreSelectorsOf setup (events ++ event ∷ []) new
selectors_more setup events event old new are adds = λ number. adds number ∙ go number (number == length events) (Decides-eqb number (length events))
  where
    go : (number : ℕ) (b : Bool) → Decides b (number ≡ length events)
        → (if b then or_else (selector_in (class_of setup event)) (get nat_cmp old number) else get nat_cmp old number) ≡ selector_at setup (events ++ event ∷ []) number
    go number true here =
        let last : number ≡ length events = here.0 refl in
        let none : get nat_cmp old number ≡ None = are number ∙ ap (option_and_then (λ e. selector_in (class_of setup e))) (slice_get_past events number (omega (arith, last))) in
        let found : slice_get (events ++ event ∷ []) number ≡ Some event = ap (slice_get (events ++ event ∷ [])) last ∙ slice_get-last events event in
        ap (or_else (selector_in (class_of setup event))) none ∙ or_none (selector_in (class_of setup event)) ∙ sym (ap (option_and_then (λ e. selector_in (class_of setup e))) found)
    go number false here =
        are number ∙ sym (ap (option_and_then (λ e. selector_in (class_of setup e))) (other_place events event number (λ e. false≢true (here.1 e))))

-- one more event of a list
pub selectors_next : (setup : Setup) (events : List Event) (i : ℕ) (event : Event) (selector : Option (List Requirement)) (old new : Selectors) → i < length events → event ≡ get_or events i event
    → selector ≡ selector_in (class_of setup event) → AddsSelector i selector old new → AreSelectorsOf setup (take i events) old → AreSelectorsOf setup (take (i + 1) events) new
selectors_next setup events i event selector old new within at is adds are =
    let here : i ≡ length (take i events) = sym (length_taken events i within) in
    let adds_here : AddsSelector (length (take i events)) (selector_in (class_of setup event)) old new = subst (λ n. AddsSelector n (selector_in (class_of setup event)) old new) here (subst (λ s. AddsSelector i s old new) is adds) in
    subst (λ l. AreSelectorsOf setup l new) (sym (more_taken events i event within at)) (selectors_more setup (take i events) event old new are adds_here)
