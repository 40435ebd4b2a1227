-- The numbers of what an event shows.
use Rattle.std.proofs.Common.{◌≡◌, ◌≢◌, ℕ, ◌+◌, ◌*◌, ◌<◌, ◌≤◌, List, map, length, get_or, All, Any, Contains, Option, Some, None, option_and_then, slice_get, sym, ap, ◌∙◌, subst, arith}
use Rattle.std.specs.Prelude.{◌↔◌}
use Rattle.std.proofs.lemmas.Option.{slice_get-get_or, slice_get_within}
use Rattle.base_types.proofs.Quantifiers.{Any-contains}
use Rattle.history_model.proofs.Members.{all_at, at_in}
use Rattle.history_model.specs.Events.{Event, Item, Reading, MostRecent, AnyVersion, NotOlderThan, Exactly, Checkpoint}
use Rattle.history_model.specs.Histories as past
use Rattle.history_model.specs.Histories.{History}
use Rattle.history_model.specs.Clouds.{IsCloudedWithin}
use Rattle.history_model.specs.Windows.{low_end, high_end}
use Rattle.object_past.proofs.Looking.{from_map, in_map}
use Rattle.object_past.specs.Modelled.{version_of}
use Rattle.object_past.specs.declared.version.Version.{Version}
use Rattle.log_moments.proofs.Following.{last_behind, last_is}
use Rattle.log_moments.specs.Nexts.{AreNexts, IsNextOf, number_before}
use Rattle.log_moments.specs.Things.{IsLastNumber, ShowsVersion, greatest_for, no_end}
use Rattle.log_moments.specs.Views.{AreNumbers}
use Rattle.log_moments.specs.declared.numbers.NumberRange.{NumberRange}

-- a read's greatest number isn't below the one that it has anyway
pub greatest_behind : (reading : Reading) (low last : ℕ) → low ≤ last → low < no_end → low ≤ greatest_for reading last
greatest_behind MostRecent low last upto below = upto
greatest_behind AnyVersion low last upto below = omega (arith, below)
greatest_behind (NotOlderThan revision) low last upto below = omega (arith, below)
greatest_behind (Exactly revision) low last upto below = omega (arith, below)
greatest_behind (Checkpoint revision) low last upto below = upto

-- no such version is known, so it has no numbers
pub unknown_has_none : (h : History) (versions : List Version) (event : Event) (item : Item) → h.versions ≡ map version_of versions
    → All (λ (v : Version). v.key ≡ item.key → v.revision ≢ item.revision) versions → (numbers : NumberRange) → ShowsVersion h event item numbers → ⊥
unknown_has_none h versions event item are none numbers shows =
    let known = shows.known in
    let from = from_map version_of versions known.1 (subst (λ l. Contains l known.1) are (known.0, known.2, known.3)) in
    all_at (λ (v : Version). v.key ≡ item.key → v.revision ≢ item.revision) versions from.0 none from.1
    (ap (λ (x : past.Version). x.key) from.2 ∙ known.4.0) (ap (λ (x : past.Version). x.revision) from.2 ∙ known.4.1)

-- the version is known
module _ (h : History) (versions : List Version) (nexts : List (Option ℕ)) (event : Event) (item : Item) (are : h.versions ≡ map version_of versions) (found : AreNexts versions nexts)
    (position : ℕ) (v : Version) (at : slice_get versions position ≡ Some v) (of_key : v.key ≡ item.key) (of_revision : v.revision ≡ item.revision)
    (after : Option Version) (is_after : (next : Option ℕ) → slice_get nexts position ≡ Some next → after ≡ option_and_then (slice_get versions) next) where
  is_next : IsNextOf versions v after
  is_next =
      let within : position < length nexts = (let inside = slice_get_within versions position v at in omega (arith, inside, found.all)) in
      let here = slice_get-get_or nexts position None within in
      subst (IsNextOf versions v) (sym (is_after (get_or nexts position None) here)) (found.each position v (get_or nexts position None) at here)

  pub shows : (numbers : NumberRange) → (IsCloudedWithin h item.key (low_end h event) (high_end h event) → ⊥) → numbers.least ≡ 2 * item.revision + 1
      → numbers.greatest ≡ greatest_for event.reading (number_before after) → ShowsVersion h event item numbers
  shows numbers clear least greatest = record {
    known = subst (Any (λ (w : past.Version). (w.key ≡ item.key) × (w.revision ≡ item.revision))) (sym are)
        (Any-contains (λ (w : past.Version). (w.key ≡ item.key) × (w.revision ≡ item.revision)) (map version_of versions) (version_of v) (in_map version_of versions v (at_in versions position v at)) (of_key, of_revision));
    clear = clear;
    least = least;
    last = number_before after;
    is_last = subst (λ k. IsLastNumber h k item.revision (number_before after)) of_key
        (subst (λ r. IsLastNumber h v.key r (number_before after)) of_revision (last_is h versions v after are is_next));
    greatest = greatest;
  }

  pub in_turn : (numbers : NumberRange) → numbers.least ≡ 2 * item.revision + 1 → numbers.least < no_end → numbers.greatest ≡ greatest_for event.reading (number_before after)
      → numbers.least ≤ numbers.greatest
  in_turn numbers least below greatest =
      let gap : 2 * v.revision + 1 < no_end = omega (arith, of_revision, least, below) in
      let behind = last_behind versions v after is_next gap in
      let upto : numbers.least ≤ greatest_for event.reading (number_before after) = greatest_behind event.reading numbers.least (number_before after) (omega (arith, behind, least, of_revision)) below in
      subst (λ n. numbers.least ≤ n) (sym greatest) upto

-- numbers by an equal condition
pub numbers_by : (P Q : NumberRange → Type 0) (found : Option NumberRange) → ((numbers : NumberRange) → P numbers ↔ Q numbers) → AreNumbers Q found → AreNumbers P found
numbers_by P Q None same none = λ numbers has. none numbers ((same numbers).0 has)
numbers_by P Q (Some numbers) same are = ((same numbers).1 are.0, are.1)

-- the window's ends are those of the event
pub clouded_ends : (h : History) (event : Event) (item : Item) (low high : ℕ) → low ≡ low_end h event → high ≡ high_end h event
    → IsCloudedWithin h item.key low high ↔ IsCloudedWithin h item.key (low_end h event) (high_end h event)
clouded_ends h event item low high from upto =
    subst (λ l. IsCloudedWithin h item.key low high ↔ IsCloudedWithin h item.key l (high_end h event)) from
    (subst (λ u. IsCloudedWithin h item.key low high ↔ IsCloudedWithin h item.key low u) upto (λ x. x, λ x. x))
