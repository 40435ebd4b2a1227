use Rattle.std.proofs.Common.{◌≡◌, ◌≤◌, ◌++◌, drop, length}
use Rattle.std.specs.List.{filter_map}
use Rattle.page_chains.specs.Chains.{chain_of, chains_in}
use Rattle.page_chains.proofs.chain.chains_in.Given as goal

abbrev pub invariant-loop-first : goal.invariant-loop-first
invariant-loop-first l = record {
  found : chains_in l.pages ≡ l.found ++ filter_map (chain_of l.pages) (drop l.first l.pages);
  few : length l.found ≤ l.first;
}
