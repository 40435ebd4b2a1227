-- What gives an event its place, by what the event is in a placement.
use Rattle.std.proofs.Common.{◌≡◌, ℕ, ◌*◌, Bool, Option, Some, None, sym, subst}
use Rattle.std.specs.Prelude.{◌↔◌}
use Rattle.base_types.specs.declared.kubernetes.key.ObjectKey.{ObjectKey}
use Rattle.history_model.specs.Events.{Answer, Event, Item, Made, Removed, Text}
use Rattle.history_model.specs.Groups.{Making}
use Rattle.history_model.specs.Histories.{History, Removal}
use Rattle.history_model.specs.Words.{Word, Makes, At, Strays, answer_word, removal_word}
use Rattle.log_moments.specs.Things.{HasNumbers, ShowsList, ShowsVersion}
use Rattle.log_moments.specs.Views.{IsRevisionStanding}
use Rattle.log_moments.specs.declared.numbers.NumberRange.{NumberRange}
use Rattle.log_moments.specs.declared.standing.RevisionStanding.{RevisionStanding}
use Rattle.write_groups.specs.Modelled.{answer_of, item_of, listing_of}
use Rattle.write_groups.specs.declared.event.Item.{Item as Recorded}
use Rattle.write_groups.specs.declared.event.Listing.{Listing}
use Rattle.write_groups.specs.declared.event.Shown.{Shown}
use Rattle.write_groups.specs.declared.event.Shown.TheVariants.{Saw, Listed}

-- a write that found its version shows it
pub shows_at : (h : History) (event : Event) (item : Item) (created : Bool) (w : Word) → w ≡ At → (numbers : NumberRange)
    → HasNumbers h event (Made item created) w numbers ↔ ShowsVersion h event item numbers
shows_at h event item created w is numbers =
    subst (λ v. HasNumbers h event (Made item created) v numbers ↔ ShowsVersion h event item numbers) (sym is) (λ x. x, λ x. x)

pub stray_has_none : (h : History) (event : Event) (answer : Answer) (w : Word) → w ≡ Strays → (numbers : NumberRange) → HasNumbers h event answer w numbers → ⊥
stray_has_none h event answer w is numbers has = subst (λ v. HasNumbers h event answer v numbers) is has

-- a maker stands at its write
pub writes_at : (h : History) (event : Event) (answer : Answer) (w : Word) (m : Making) (revision : ℕ) → w ≡ Makes m → revision ≡ m.item.revision → (numbers : NumberRange)
    → HasNumbers h event answer w numbers ↔ ((numbers.least ≡ 2 * revision) × (numbers.greatest ≡ 2 * revision))
writes_at h event answer w m revision is e numbers =
    subst (λ v. HasNumbers h event answer v numbers ↔ ((numbers.least ≡ 2 * revision) × (numbers.greatest ≡ 2 * revision))) (sym is)
    (subst (λ r. ((numbers.least ≡ 2 * m.item.revision) × (numbers.greatest ≡ 2 * m.item.revision)) ↔ ((numbers.least ≡ 2 * r) × (numbers.greatest ≡ 2 * r))) (sym e) (λ x. x, λ x. x))

-- a removal has no number, with a range or without
pub removed_has_none : (h : History) (event : Event) (key : ObjectKey) (uid : Text) (found : Option Removal) (numbers : NumberRange) → HasNumbers h event (Removed key uid) (removal_word found) numbers → ⊥
removed_has_none h event key uid None numbers has = has
removed_has_none h event key uid (Some removal) numbers has = has

pub standing_is : (h : History) (event : Event) (number : ℕ) (found shown : Shown) (standing : RevisionStanding) → found ≡ shown
    → IsRevisionStanding h event (answer_of shown) (answer_word h number event (answer_of shown)) standing
    → IsRevisionStanding h event (answer_of found) (answer_word h number event (answer_of found)) standing
standing_is h event number found shown standing is at =
    subst (λ (a : Shown). IsRevisionStanding h event (answer_of a) (answer_word h number event (answer_of a)) standing) (sym is) at

-- a read that shows an object
pub saw_is : (h : History) (event : Event) (number : ℕ) (found : Shown) (item : Recorded) → found ≡ Saw item → (numbers : NumberRange)
    → HasNumbers h event (answer_of found) (answer_word h number event (answer_of found)) numbers ↔ ShowsVersion h event (item_of item) numbers
saw_is h event number found item is numbers =
    subst (λ (a : Shown). HasNumbers h event (answer_of a) (answer_word h number event (answer_of a)) numbers ↔ ShowsVersion h event (item_of item) numbers) (sym is) (λ x. x, λ x. x)

-- a list
pub listed_is : (h : History) (event : Event) (number : ℕ) (found : Shown) (listing : Listing) → found ≡ Listed listing → (numbers : NumberRange)
    → HasNumbers h event (answer_of found) (answer_word h number event (answer_of found)) numbers ↔ ShowsList event (listing_of listing) numbers
listed_is h event number found listing is numbers =
    subst (λ (a : Shown). HasNumbers h event (answer_of a) (answer_word h number event (answer_of a)) numbers ↔ ShowsList event (listing_of listing) numbers) (sym is) (λ x. x, λ x. x)
