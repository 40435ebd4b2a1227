use Rattle.std.proofs.Common.{◌≡◌, ℕ, ◌<◌, length}
use Rattle.std.specs.Prelude.{slice_index}
use Rattle.page_chains.proofs.reaching.places_below.Given as goal

abbrev pub invariant-loop-place : goal.invariant-loop-place
invariant-loop-place l = record {
  each : length l.places.items ≡ l.place;
  same : (from : ℕ) → from < l.place → slice_index l.places.items from ≡ from;
}
