use Rattle.std.proofs.Common.{◌≡◌, ◌++◌, ◌-◌, ◌<◌, length, map}
use Rattle.std.specs.Prelude.{option_map, option_and_then, slice_get}
use Rattle.page_chains.specs.Chains.{chain_within}
use Rattle.page_chains.proofs.chain.chain_from.Given as goal

abbrev pub invariant-loop-step : goal.invariant-loop-step
invariant-loop-step l = record {
  within : l.here < length l.pages;
  left : option_and_then (chain_within (length l.pages) l.pages) (slice_get l.pages l.first)
      ≡ option_map (λ rest. map (λ page. page.now) l.chain.items ++ rest) (option_and_then (chain_within (length l.pages - l._step) l.pages) (slice_get l.pages l.here));
}
