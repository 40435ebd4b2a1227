-- The verdict on what an event is, by its recorded fault.
use Rattle.std.proofs.Common.{◌≡◌, ℕ, Bool, true, false, List, [], Option, Some, None, refl, sym, ◌∙◌, subst, arith, true≢false}
use Rattle.std.specs.Prelude.{◌↔◌, IsTrue}
use Rattle.base_types.specs.Choices.{IsChoice}
use Rattle.base_types.specs.declared.verdict.claim.Reason.{Reason}
use Rattle.history_model.proofs.MakingsLaw.{entry_exists}
use Rattle.history_model.proofs.Members.{not_in_none}
use Rattle.history_model.proofs.OpenBounds.{have_places, open_is}
use Rattle.history_model.proofs.WordLemmas.{IsMadeBy, word_makes}
use Rattle.history_model.specs.Clouds.{IsCloudedWithin}
use Rattle.history_model.specs.Events.{Item, Event, Answer, Made, Removed, Opaque, Saw, SawNone, SawSome, SawOther, Listed, Free, Aside}
use Rattle.history_model.specs.Groups.{Making}
use Rattle.history_model.specs.Histories.{History, Version, IsEvent, ranges}
use Rattle.history_model.specs.Local.{IsFixedBy}
use Rattle.history_model.specs.Making.{IsEntryBefore, IsLeastFault}
use Rattle.history_model.specs.Readable.{IsReadable}
use Rattle.history_model.specs.Windows.{low_end, high_end}
use Rattle.history_model.specs.Words.{Makes, At, word}
use Rattle.local_bounds.specs.Subjects.{IsFinding, IsFindingOf}
use Rattle.object_past.specs.Faulted.{IsFaultBy, IsFaultOf, IsFindingFault, IsLeastFoundFault}
use Rattle.event_claims.specs.Standing.{HasWordCode, HasFindingCode, HasFoundCode}
use Rattle.event_claims.specs.Verdicts.{IsVerdict}

-- there is a choice
pub some_choice : (h : History) → IsReadable h → (choice : List ℕ) × IsChoice (ranges h) choice
some_choice h r = let w = open_is (ranges h) [] (have_places h r) (λ i j d l m. absurd (omega arith)) (λ b c. absurd (not_in_none c)) in (w.0, w.1)

-- a maker
module _ (h : History) (number : ℕ) (event : Event) (m : Making) where
  making_entry : IsReadable h → IsEvent h number event → word h number event ≡ Makes m → (before : Option Version) × IsEntryBefore h m before
  making_entry r known w = go (word_makes h number event m r known w) (some_choice h r)
    where
      go : (v : Version) × IsMadeBy h m v × (m.number ≡ number) × (m.event ≡ event) → (choice : List ℕ) × IsChoice (ranges h) choice → (before : Option Version) × IsEntryBefore h m before
      go (v, b, n, x) (choice, chosen) = entry_exists h choice m v r chosen b

  verdict_on : (fault : Option Reason) → (before : Option Version) × IsEntryBefore h m before → ((before : Option Version) → IsEntryBefore h m before → IsLeastFault h m before fault)
      → IsVerdict (IsFixedBy h event (Makes m)) (HasWordCode h event (Makes m)) fault
  verdict_on None entry f = (f, λ code w. f w.0 w.1 code w.2)
  verdict_on (Some code) entry f = ((entry.0, entry.1, (f entry.0 entry.1).0), λ other w. (f w.0 w.1).1 other w.2)

  pub making_judged : (fault : Option Reason) → IsReadable h → IsEvent h number event → word h number event ≡ Makes m → IsFaultOf h number event fault
      → IsVerdict (IsFixedBy h event (word h number event)) (HasWordCode h event (word h number event)) fault
  making_judged fault r known w f =
      subst (λ said. IsVerdict (IsFixedBy h event said) (HasWordCode h event said) fault) (sym w)
      (verdict_on fault (making_entry r known w) (subst (λ said. IsFaultBy h number event said fault) w f))

-- a write that found its revision
module _ (h : History) (number : ℕ) (event : Event) (low high : ℕ) (l : low ≡ low_end h event) (m : high ≡ high_end h event) (hidden : Bool)
    (tells : (item : Item) (created : Bool) → event.answer ≡ Made item created → IsTrue hidden ↔ IsCloudedWithin h item.key low high) where
  clouds_are : (item : Item) → IsCloudedWithin h item.key low high → IsCloudedWithin h item.key (low_end h event) (high_end h event)
  clouds_are item w = subst (λ x. IsCloudedWithin h item.key x (high_end h event)) l (subst (λ x. IsCloudedWithin h item.key low x) m w)

  are_clouds : (item : Item) → IsCloudedWithin h item.key (low_end h event) (high_end h event) → IsCloudedWithin h item.key low high
  are_clouds item w = subst (λ x. IsCloudedWithin h item.key x high) (sym l) (subst (λ x. IsCloudedWithin h item.key (low_end h event) x) (sym m) w)

  hidden_none : hidden ≡ true → (code : Reason) (answer : Answer) → event.answer ≡ answer → HasFindingCode h number event answer code → ⊥
  hidden_none t code (Made item created) e w = w.0 (clouds_are item ((tells item created e).0 t))
  hidden_none t code (Removed key uid) e w = w
  hidden_none t code (Opaque cover) e w = w
  hidden_none t code (Saw item) e w = w
  hidden_none t code (SawNone key) e w = w
  hidden_none t code (SawSome key) e w = w
  hidden_none t code (SawOther key) e w = w
  hidden_none t code (Listed listing) e w = w
  hidden_none t code Free e w = w
  hidden_none t code Aside e w = w

  pub hidden_found : hidden ≡ true → IsVerdict (Unit {0}) (HasFoundCode h number event) None
  hidden_found t = (tt, λ code w. hidden_none t code event.answer refl w.1)

  verdict_on_write : hidden ≡ false → (item : Item) (created : Bool) → event.answer ≡ Made item created → (fault : Option Reason)
      → IsLeastFoundFault h (record { number = number; event = event; item = item; created = created }) fault → IsVerdict (Unit {0}) (HasFindingCode h number event (Made item created)) fault
  verdict_on_write t item created e None f = (tt, λ code w. f code w.1)
  verdict_on_write t item created e (Some code) f = (((λ w. true≢false (sym ((tells item created e).1 (are_clouds item w)) ∙ t)), f.0), λ other w. f.1 other w.1)

  no_write : (fault : Option Reason) (Has : Reason → Type 0) → ((code : Reason) → Has code → ⊥) → fault ≡ None → IsVerdict (Unit {0}) Has fault
  no_write fault Has none e = subst (λ f. IsVerdict (Unit {0}) Has f) (sym e) (tt, none)

  verdict_on_answer : hidden ≡ false → (fault : Option Reason) (answer : Answer) → event.answer ≡ answer → IsFindingFault h number event answer fault
      → IsVerdict (Unit {0}) (HasFindingCode h number event answer) fault
  verdict_on_answer t fault (Made item created) e f = verdict_on_write t item created e fault f
  verdict_on_answer t fault (Removed key uid) e f = no_write fault (HasFindingCode h number event (Removed key uid)) (λ code w. w) f
  verdict_on_answer t fault (Opaque cover) e f = no_write fault (HasFindingCode h number event (Opaque cover)) (λ code w. w) f
  verdict_on_answer t fault (Saw item) e f = no_write fault (HasFindingCode h number event (Saw item)) (λ code w. w) f
  verdict_on_answer t fault (SawNone key) e f = no_write fault (HasFindingCode h number event (SawNone key)) (λ code w. w) f
  verdict_on_answer t fault (SawSome key) e f = no_write fault (HasFindingCode h number event (SawSome key)) (λ code w. w) f
  verdict_on_answer t fault (SawOther key) e f = no_write fault (HasFindingCode h number event (SawOther key)) (λ code w. w) f
  verdict_on_answer t fault (Listed listing) e f = no_write fault (HasFindingCode h number event (Listed listing)) (λ code w. w) f
  verdict_on_answer t fault Free e f = no_write fault (HasFindingCode h number event Free) (λ code w. w) f
  verdict_on_answer t fault Aside e f = no_write fault (HasFindingCode h number event Aside) (λ code w. w) f

  placed_verdict : word h number event ≡ At → (fault : Option Reason) → IsVerdict (Unit {0}) (HasFindingCode h number event event.answer) fault → IsVerdict (Unit {0}) (HasFoundCode h number event) fault
  placed_verdict w None v = (tt, λ code x. v.1 code x.1)
  placed_verdict w (Some code) v = ((w, v.0), λ other x. v.1 other x.1)

  pub shown_found : hidden ≡ false → (fault : Option Reason) → word h number event ≡ At → IsFaultOf h number event fault → IsVerdict (Unit {0}) (HasFoundCode h number event) fault
  shown_found t fault w f = placed_verdict w fault (verdict_on_answer t fault event.answer refl (subst (λ said. IsFaultBy h number event said fault) w f))

-- at an answer the recorded fault tells why the write could not have found its revision
pub finding_is : (h : History) (number : ℕ) (event : Event) (fault : Option Reason) → word h number event ≡ At → IsFaultOf h number event fault → IsFindingOf h number event fault
finding_is h number event fault w f item created e = go fault (subst (λ answer. IsFindingFault h number event answer fault) e (subst (λ said. IsFaultBy h number event said fault) w f))
  where
    go : (o : Option Reason) → IsLeastFoundFault h (record { number = number; event = event; item = item; created = created }) o
        → IsFinding h (record { number = number; event = event; item = item; created = created }) o
    go None could = could
    go (Some code) least = least.0
