use Rattle.std.proofs.Common.{◌≡◌, ℕ, ◌<◌, length}
use Rattle.std.specs.Prelude.{All, slice_index}
use Rattle.page_chains.specs.Links.{IsLink}
use Rattle.page_chains.proofs.finding.links_of.Given as goal

abbrev pub invariant-loop-place : goal.invariant-loop-place
invariant-loop-place l = record {
  each : length l.links.items ≡ l.place;
  within : All (λ to. to < length l.pages) l.links.items;
  right : (from : ℕ) → from < l.place → IsLink l.pages from (slice_index l.links.items from);
}
