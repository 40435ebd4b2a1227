-- The lower end of a window isn't below the start.
use Rattle.std.proofs.Common.{◌≡◌, ℕ, ℤ, ◌<◌, ◌≤◌, Bool, true, false, ◌⊎◌, inl, inr, nat_le, List, [], ◌∷◌, refl, sym, arith, true≢false}
use Rattle.std.proofs.lemmas.Bool.Decides.{leb_tells}
use Rattle.history_model.specs.Events.{Event, Reading, MostRecent, AnyVersion, NotOlderThan, Exactly, Checkpoint}
use Rattle.history_model.specs.Histories.{History, Span, IsEvent}
use Rattle.history_model.specs.Readable.{IsReadable}
use Rattle.history_model.specs.Windows.{lowest_of, highest_of, last_place, is_reachable, low_end_of, high_end_of, InWindow}

pub start_lowest : (start : ℕ) (spans : List Span) (at : ℤ) → start ≤ lowest_of start spans at
start_lowest start [] at = omega arith
start_lowest start (span ∷ spans) at = omega (arith, start_lowest start spans at)

pub highest_last : (spans : List Span) (at : ℤ) → highest_of spans at ≤ last_place
highest_last [] at = omega arith
highest_last (span ∷ spans) at = omega (arith, highest_last spans at)

reachable_start : (h : History) (event : Event) (revision : ℕ) → is_reachable h event revision ≡ true → h.start ≤ revision
reachable_start h event revision e = go (leb_tells h.start revision)
  where
    go : ((nat_le h.start revision ≡ true) × (h.start ≤ revision)) ⊎ ((nat_le h.start revision ≡ false) × (revision < h.start)) → h.start ≤ revision
    go (inl w) = w.1
    go (inr w) = let f : false ≡ true = rw w.0 at e in absurd (true≢false (sym f))

by_reading : (h : History) (event : Event) (place : ℕ) (reading : Reading) → ((revision : ℕ) → reading ≡ Checkpoint revision → h.start ≤ revision)
    → low_end_of h event reading ≤ place → place ≤ high_end_of h event reading → h.start ≤ place
by_reading h event place MostRecent c l m = omega (arith, start_lowest h.start h.spans event.lo, l)
by_reading h event place AnyVersion c l m = l
by_reading h event place (NotOlderThan revision) c l m = omega (arith, l)
by_reading h event place (Exactly revision) c l m = go (is_reachable h event revision) refl
  where
    go : (t : Bool) → is_reachable h event revision ≡ t → h.start ≤ place
    go true e = let low : revision ≤ place = rw e at l in omega (arith, low, reachable_start h event revision e)
    go false e = let low : 1 ≤ place = rw e at l in let high : place ≤ 0 = rw e at m in absurd (omega (arith, low, high))
by_reading h event place (Checkpoint revision) c l m = omega (arith, l, c revision refl)

-- a place of a window isn't below the start
pub in_window_start : (h : History) (number : ℕ) (event : Event) (place : ℕ) → IsReadable h → IsEvent h number event → InWindow h event place → h.start ≤ place
in_window_start h number event place r known w = by_reading h event place event.reading (λ revision e. r.checkpoints number event revision known e) w.0 w.1
