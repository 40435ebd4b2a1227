-- A number has one write.
use Rattle.std.proofs.Common.{◌≡◌, ℕ, Bool, List, Option, Some, None, option_map, option_and_then, slice_get, refl, sym, ap, ◌∙◌, subst}
use Rattle.std.specs.Prelude.{IsSome}
use Rattle.std.proofs.lemmas.Option.{same_Some, slice_get-map}
use Rattle.history_model.specs.Events as event
use Rattle.history_model.specs.Groups.{Making, IsMaking}
use Rattle.history_model.specs.Histories.{History, IsEvent}
use Rattle.write_groups.proofs.Belonging.{IsFound, item_from}
use Rattle.write_groups.specs.Grouped.{item_at, made_item, item_in as shown_item}
use Rattle.write_groups.specs.Modelled.{HasEvents, answer_of, event_of}
use Rattle.write_groups.specs.declared.event.LogEvent.{LogEvent}
use Rattle.write_groups.specs.declared.event.Shown.{Shown}
use Rattle.write_groups.specs.declared.event.Shown.TheVariants.{Made, Removed, Opaque, Saw, SawNone, SawSome, SawOther, Listed, Free, Aside}
use Rattle.past_building.specs.Written.{making_at, making_in}

pub making_is : (h : History) (events : List LogEvent) (number : ℕ) (m : Making) → HasEvents events h → making_at events number ≡ Some m → IsMaking h m × (m.number ≡ number)
making_is h events number m all at = go (slice_get events number) refl at
  where
    known : (e : LogEvent) → slice_get events number ≡ Some e → IsEvent h number (event_of e)
    known e here = subst (λ es. slice_get es number ≡ Some (event_of e)) (sym all) (slice_get-map event_of events number ∙ ap (option_map event_of) here)

    of : (e : LogEvent) → slice_get events number ≡ Some e → (shown : Shown) → e.answer ≡ shown → making_in number e shown ≡ Some m → IsMaking h m × (m.number ≡ number)
    of e here (Made item created) is made = subst (λ x. IsMaking h x × (x.number ≡ number)) (same_Some _ m made)
        (record { known = known e here; made = ap answer_of is }, refl)
    of e here (Removed key uid) is made = absurd (cc made)
    of e here (Opaque cover) is made = absurd (cc made)
    of e here (Saw item) is made = absurd (cc made)
    of e here (SawNone key) is made = absurd (cc made)
    of e here (SawSome key) is made = absurd (cc made)
    of e here (SawOther key) is made = absurd (cc made)
    of e here (Listed listing) is made = absurd (cc made)
    of e here Free is made = absurd (cc made)
    of e here Aside is made = absurd (cc made)

    go : (found : Option LogEvent) → slice_get events number ≡ found → option_and_then (λ e. making_in number e e.answer) found ≡ Some m → IsMaking h m × (m.number ≡ number)
    go None here made = absurd (cc made)
    go (Some e) here made = of e here e.answer refl made

abbrev item_in : event.Answer → event.Item → event.Item
item_in (event.Made item created) other = item
item_in (event.Removed key uid) other = other
item_in (event.Opaque cover) other = other
item_in (event.Saw item) other = other
item_in (event.SawNone key) other = other
item_in (event.SawSome key) other = other
item_in (event.SawOther key) other = other
item_in (event.Listed listing) other = other
item_in event.Free other = other
item_in event.Aside other = other

abbrev created_in : event.Answer → Bool → Bool
created_in (event.Made item created) other = created
created_in (event.Removed key uid) other = other
created_in (event.Opaque cover) other = other
created_in (event.Saw item) other = other
created_in (event.SawNone key) other = other
created_in (event.SawSome key) other = other
created_in (event.SawOther key) other = other
created_in (event.Listed listing) other = other
created_in event.Free other = other
created_in event.Aside other = other

abbrev making_of : ℕ → event.Event → event.Item → Bool → Making
making_of number e item created = record { number = number; event = e; item = item; created = created }

pub making_once : (h : History) (a b : Making) → IsMaking h a → IsMaking h b → a.number ≡ b.number → a ≡ b
making_once h a b x y same =
    let events : a.event ≡ b.event = same_Some a.event b.event (sym x.known ∙ ap (slice_get h.events) same ∙ y.known) in
    let answers : event.Made a.item a.created ≡ event.Made b.item b.created = sym x.made ∙ ap (λ (e : event.Event). e.answer) events ∙ y.made in
    let items : a.item ≡ b.item = ap (λ answer. item_in answer a.item) answers in
    let created : a.created ≡ b.created = ap (λ answer. created_in answer a.created) answers in
    λ i. making_of (same i) (events i) (items i) (created i)

-- a write is what its number says
pub number_is : (events : List LogEvent) (number : ℕ) (m : Making) → making_at events number ≡ Some m → m.number ≡ number
number_is events number m at = go (slice_get events number) at
  where
    of : (e : LogEvent) (shown : Shown) → making_in number e shown ≡ Some m → m.number ≡ number
    of e (Made item created) made = sym (ap (λ (x : Making). x.number) (same_Some _ m made))
    of e (Removed key uid) made = absurd (cc made)
    of e (Opaque cover) made = absurd (cc made)
    of e (Saw item) made = absurd (cc made)
    of e (SawNone key) made = absurd (cc made)
    of e (SawSome key) made = absurd (cc made)
    of e (SawOther key) made = absurd (cc made)
    of e (Listed listing) made = absurd (cc made)
    of e Free made = absurd (cc made)
    of e Aside made = absurd (cc made)

    go : (found : Option LogEvent) → option_and_then (λ e. making_in number e e.answer) found ≡ Some m → m.number ≡ number
    go None made = absurd (cc made)
    go (Some e) made = of e e.answer made

-- a write of the history is found at its number
pub making_from : (h : History) (events : List LogEvent) (m : Making) → HasEvents events h → IsMaking h m → making_at events m.number ≡ Some m
making_from h events m all making = go (item_from events h m all making)
  where
    go : IsFound events m → making_at events m.number ≡ Some m
    go found = ap (option_and_then (λ e. making_in m.number e e.answer)) found.at
        ∙ ap (making_in m.number found.logged) found.shown
        ∙ ap Some (λ i. making_of m.number (found.is i) (found.of_item i) m.created)

-- an event that is a write has one
pub write_found : (events : List LogEvent) (number : ℕ) → IsSome (item_at events number) → None ≡ making_at events number → ⊥
write_found events number some none = go (slice_get events number) some none
  where
    of : (e : LogEvent) (shown : Shown) → IsSome (shown_item shown) → None ≡ making_in number e shown → ⊥
    of e (Made item created) some none = cc none
    of e (Removed key uid) some none = cc some
    of e (Opaque cover) some none = cc some
    of e (Saw item) some none = cc some
    of e (SawNone key) some none = cc some
    of e (SawSome key) some none = cc some
    of e (SawOther key) some none = cc some
    of e (Listed listing) some none = cc some
    of e Free some none = cc some
    of e Aside some none = cc some

    go : (found : Option LogEvent) → IsSome (option_and_then made_item found) → None ≡ option_and_then (λ e. making_in number e e.answer) found → ⊥
    go None some none = cc some
    go (Some e) some none = of e e.answer some none
