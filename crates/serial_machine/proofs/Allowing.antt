-- Why steps aren't allowed, and the least code of each.
use Rattle.std.proofs.Common.{◌≡◌, ℕ, ◌≤◌, ◌⊎◌, Bool, Option, Some, None, Contains, inl, inr, refl, sym, ap, ◌∙◌, subst, arith}
use Rattle.std.specs.Prelude.{◌↔◌, IsTrue}
use Rattle.base_types.specs.Reasons.{code_number}
use Rattle.base_types.specs.declared.verdict.claim.Reason.{Reason}
use Rattle.base_types.specs.declared.verdict.claim.Reason.TheVariants.{U7}
use Rattle.history_model.proofs.Fits.{same_event}
use Rattle.history_model.proofs.WordLemmas.{IsMadeBy, made_version}
use Rattle.history_model.specs.Checking.{HasStepCode, at_put, at_remove, at_found, at_reply}
use Rattle.history_model.specs.Clouds.{IsClouded}
use Rattle.history_model.specs.Events.{Item, Event, Answer, Made, Removed, Opaque, Saw, SawNone, SawSome, SawOther, Listed, Free, Aside}
use Rattle.history_model.specs.Groups.{Making, IsMaking}
use Rattle.history_model.specs.Histories.{History, Version, ByEvent, IsEvent}
use Rattle.history_model.specs.Machine.{Put, Remove, Reply, MayRemove}
use Rattle.history_model.specs.Making.{HasFault, HasFoundFault, CouldHaveFound, IsLeastFault, creates, excludes, changes}
use Rattle.history_model.specs.Readable.{IsReadable}
use Rattle.history_model.specs.Right.{IsRight, IsRightAnswer, IsShown, answer_code}
use Rattle.history_model.specs.States.{Cut, Map}
use Rattle.history_model.specs.Words.{At, word}
use Rattle.object_past.specs.Faulted.{IsFaultBy, IsFaultOf, IsFindingFault, IsLeastFoundFault}
use Rattle.serial_machine.specs.Stepping.{IsVerdictOn}

same_number : (a b : ℕ) → ByEvent a ≡ ByEvent b → a ≡ b
same_number a b e = cc e

same_put : (v w : Version) → Put v ≡ Put w → v ≡ w
same_put v w e = cc e

same_cut : (c d : Cut) → Remove c ≡ Remove d → c ≡ d
same_cut c d e = cc e

-- a version that was there, or that has no maker, is always put
pub put_unjudged : (h : History) (map : Map) (v : Version) → ((number : ℕ) → v.maker ≡ ByEvent number → ⊥) → IsVerdictOn h map (Put v) None
put_unjudged h map v none = λ m making maker. absurd (none m.number maker)

-- the maker's least fault with the object before it
pub put_judged : (h : History) (map : Map) (v : Version) (number : ℕ) (found : Option Reason) → IsReadable h → Contains h.versions v → v.maker ≡ ByEvent number
    → ((m : Making) → IsMaking h m → m.number ≡ number → IsLeastFault h m (map v.key) found) → IsVerdictOn h map (Put v) found
put_judged h map v number None r c maker least = λ m making by. least m making (same_number m.number number (sym by ∙ maker))
put_judged h map v number (Some code) r c maker least = go (made_version h v number r c maker)
  where
    others : (other : Reason) → HasStepCode h map (Put v) other → code_number code ≤ code_number other
    others other (at_put w m e making by fault) = (least m making (same_number m.number number (sym by ∙ ap (λ (z : Version). z.maker) (sym (same_put v w e)) ∙ maker))).1 other
        (subst (λ (z : Version). HasFault h m (map z.key) other) (sym (same_put v w e)) fault)
    others other (at_remove cut event d e known none) = absurd (cc e)
    others other (at_found n event place item created e answer clear fault) = absurd (cc e)
    others other (at_reply n event place d e none) = absurd (cc e)

    go : (m : Making) × (m.number ≡ number) × IsMadeBy h m v → IsVerdictOn h map (Put v) (Some code)
    go (m, n, b) = (at_put v m refl b.making b.maker (least m b.making n).0, others)

-- a removal
pub removal_allowed : (h : History) (map : Map) (cut : Cut) (event : Event) → IsEvent h cut.removal.range.event event → MayRemove h event cut.removal (map cut.removal.key)
    → IsVerdictOn h map (Remove cut) None
removal_allowed h map cut event known may = λ other there. subst (λ z. MayRemove h z cut.removal (map cut.removal.key)) (same_event h cut.removal.range.event event other known there) may

pub removal_forbidden : (h : History) (map : Map) (cut : Cut) (event : Event) → IsEvent h cut.removal.range.event event → (MayRemove h event cut.removal (map cut.removal.key) → ⊥)
    → IsVerdictOn h map (Remove cut) (Some U7)
removal_forbidden h map cut event known not = (at_remove cut event refl refl known not, others)
  where
    others : (other : Reason) → HasStepCode h map (Remove cut) other → 7 ≤ code_number other
    others other (at_put w m e making by fault) = absurd (cc e)
    others other (at_remove d other_event c e there none) = subst (λ z. 7 ≤ code_number z) (sym c) (omega arith)
    others other (at_found n event place item created e answer clear fault) = absurd (cc e)
    others other (at_reply n event place d e none) = absurd (cc e)

-- an answer
module _ (h : History) (number : ℕ) (event : Event) (known : IsEvent h number event) (at : word h number event ≡ At) (fault : Option Reason) (of : IsFaultOf h number event fault) where
  finding : IsFindingFault h number event event.answer fault
  finding = subst (λ w. IsFaultBy h number event w fault) at of

  abbrev write_of : Item → Bool → Making
  write_of item created = record { number = number; event = event; item = item; created = created }

  pub could_have : (item : Item) (created : Bool) → event.answer ≡ Made item created → fault ≡ None → CouldHaveFound h (write_of item created)
  could_have item created answer none = subst (λ f. IsLeastFoundFault h (write_of item created) f) none (subst (λ a. IsFindingFault h number event a fault) answer finding)

  pub could_not : (item : Item) (created : Bool) (code : Reason) → event.answer ≡ Made item created → fault ≡ Some code → HasFoundFault h (write_of item created) code
      × ((other : Reason) → HasFoundFault h (write_of item created) other → code_number code ≤ code_number other)
  could_not item created code answer some = subst (λ f. IsLeastFoundFault h (write_of item created) f) some (subst (λ a. IsFindingFault h number event a fault) answer finding)

  pub no_fault : ((item : Item) (created : Bool) → event.answer ≡ Made item created → ⊥) → fault ≡ None
  no_fault none = go event.answer refl finding
    where
      go : (a : Answer) → event.answer ≡ a → IsFindingFault h number event a fault → fault ≡ None
      go (Made item created) e f = absurd (none item created e)
      go (Removed key uid) e f = f
      go (Opaque cover) e f = f
      go (Saw item) e f = f
      go (SawNone key) e f = f
      go (SawSome key) e f = f
      go (SawOther key) e f = f
      go (Listed listing) e f = f
      go Free e f = f
      go Aside e f = f

  found_low : (item : Item) (created : Bool) (code : Reason) → HasFoundFault h (write_of item created) code → code_number code ≤ 10
  found_low item created code (creates c e) = subst (λ z. code_number z ≤ 10) (sym c) (omega arith)
  found_low item created code (excludes c e) = subst (λ z. code_number z ≤ 10) (sym c) (omega arith)
  found_low item created code (changes c e) = subst (λ z. code_number z ≤ 10) (sym c) (omega arith)

  reply_parts : (n m : ℕ) (e f : Event) (x y : ℕ) → Reply n e x ≡ Reply m f y → (n ≡ m) × (e ≡ f) × (x ≡ y)
  reply_parts n m e f x y p = (cc p, cc p, cc p)

  module _ (place : ℕ) (map : Map) (wrong : IsRight h number event place map → ⊥) where
    by_answer : (item : Item) (created : Bool) → event.answer ≡ Made item created → IsClouded h item.key place → ⊥
    by_answer item created answer cloud = wrong (subst (λ a. IsRightAnswer h number event place map a) (sym answer) (inl cloud))

    same_write : (n : ℕ) (e : Event) (x : ℕ) (item : Item) (created : Bool) (code : Reason) → Reply number event place ≡ Reply n e x
        → HasFoundFault h (record { number = n; event = e; item = item; created = created }) code → HasFoundFault h (write_of item created) code
    same_write n e x item created code p f = subst (λ z. HasFoundFault h (record { number = z; event = event; item = item; created = created }) code) (sym parts.0)
        (subst (λ z. HasFoundFault h (record { number = n; event = z; item = item; created = created }) code) (sym parts.1) f)
      where
        parts : (number ≡ n) × (event ≡ e) × (place ≡ x)
        parts = reply_parts number n event e place x p

    answer_of_event : (n : ℕ) (e : Event) (x : ℕ) → Reply number event place ≡ Reply n e x → event.answer ≡ e.answer
    answer_of_event n e x p = ap (λ (z : Event). z.answer) (reply_parts number n event e place x p).1

    same_made : (a b : Item) (c d : Bool) → Made a c ≡ Made b d → (a ≡ b) × (c ≡ d)
    same_made a b c d e = (cc e, cc e)

    -- a write that couldn't have found its revision
    pub found_code : (item : Item) (created : Bool) (code : Reason) → event.answer ≡ Made item created → fault ≡ Some code → IsVerdictOn h map (Reply number event place) (Some code)
    found_code item created code answer some = (at_found number event place item created refl answer (by_answer item created answer) (could_not item created code answer some).0, others)
      where
        others : (other : Reason) → HasStepCode h map (Reply number event place) other → code_number code ≤ code_number other
        others other (at_put w m e making by f) = absurd (cc e)
        others other (at_remove d other_event c e there none) = absurd (cc e)
        others other (at_found n ev x it cr e ans clear f) = (could_not item created code answer some).1 other
            (subst (λ z. HasFoundFault h (write_of z created) other) (sym parts.0) (subst (λ z. HasFoundFault h (write_of it z) other) (sym parts.1) (same_write n ev x it cr other e f)))
          where
            parts : (item ≡ it) × (created ≡ cr)
            parts = same_made item it created cr (sym answer ∙ answer_of_event n ev x e ∙ ans)
        others other (at_reply n ev x c e none) = subst (λ z. code_number code ≤ code_number z) (sym (c ∙ ap answer_code (sym (answer_of_event n ev x e)) ∙ ap answer_code answer))
            (found_low item created code (could_not item created code answer some).0)

    -- another answer that isn't right
    pub wrong_code : fault ≡ None → IsVerdictOn h map (Reply number event place) (Some (answer_code event.answer))
    wrong_code none = (at_reply number event place refl refl wrong, others)
      where
        others : (other : Reason) → HasStepCode h map (Reply number event place) other → code_number (answer_code event.answer) ≤ code_number other
        others other (at_put w m e making by f) = absurd (cc e)
        others other (at_remove d other_event c e there none') = absurd (cc e)
        others other (at_found n ev x it cr e ans clear f) = absurd (could_have it cr (answer_of_event n ev x e ∙ ans) none other (same_write n ev x it cr other e f))
        others other (at_reply n ev x c e none') = subst (λ z. code_number (answer_code event.answer) ≤ code_number z) (sym (c ∙ ap answer_code (sym (answer_of_event n ev x e)))) (omega arith)

    -- either of them, by what the event's fault is
    pub code_by : (code : Reason) → fault ≡ Some code → IsVerdictOn h map (Reply number event place) (Some code)
    code_by code some = go event.answer refl
      where
        none_of : ((item : Item) (created : Bool) → event.answer ≡ Made item created → ⊥) → IsVerdictOn h map (Reply number event place) (Some code)
        none_of none = absurd (cc (no_fault none, some))

        go : (a : Answer) → event.answer ≡ a → IsVerdictOn h map (Reply number event place) (Some code)
        go (Made item created) e = found_code item created code e some
        go (Removed key uid) e = none_of (λ i c m. cc (e, m))
        go (Opaque cover) e = none_of (λ i c m. cc (e, m))
        go (Saw item) e = none_of (λ i c m. cc (e, m))
        go (SawNone key) e = none_of (λ i c m. cc (e, m))
        go (SawSome key) e = none_of (λ i c m. cc (e, m))
        go (SawOther key) e = none_of (λ i c m. cc (e, m))
        go (Listed listing) e = none_of (λ i c m. cc (e, m))
        go Free e = none_of (λ i c m. cc (e, m))
        go Aside e = none_of (λ i c m. cc (e, m))

  -- a write could have found its revision exactly where it has no fault
  pub none_if : (item : Item) (created : Bool) → event.answer ≡ Made item created → CouldHaveFound h (write_of item created) → fault ≡ None
  none_if item created answer could = go fault refl
    where
      go : (f : Option Reason) → fault ≡ f → fault ≡ None
      go None e = e
      go (Some code) e = absurd (could code (could_not item created code answer e).0)

  -- the test of a write's answer, by its fault
  pub found_told : (item : Item) (created : Bool) (place : ℕ) (map : Map) (b : Bool) → event.answer ≡ Made item created
      → IsTrue b ↔ (IsClouded h item.key place ⊎ (IsShown item (map item.key) × (fault ≡ None))) → IsTrue b ↔ IsRight h number event place map
  found_told item created place map b answer told = subst (λ a. IsTrue b ↔ IsRightAnswer h number event place map a) (sym answer) ((λ t. to (told.0 t)), λ right. told.1 (from right))
    where
      to : IsClouded h item.key place ⊎ (IsShown item (map item.key) × (fault ≡ None)) → IsRightAnswer h number event place map (Made item created)
      to (inl cloud) = inl cloud
      to (inr (shown, none)) = inr (shown, could_have item created answer none)

      from : IsRightAnswer h number event place map (Made item created) → IsClouded h item.key place ⊎ (IsShown item (map item.key) × (fault ≡ None))
      from (inl cloud) = inl cloud
      from (inr (shown, could)) = inr (shown, none_if item created answer could)
