use Rattle.page_chains.specs.Chains.{chain_of, chains_in}
use Rattle.page_chains.proofs.PlaceLemmas.{placed, few_placed}
use Rattle.page_chains.proofs.chain.chains_in.Goals as goal

pub loop-first-preserved : goal.loop-first-preserved
loop-first-preserved c =
    let pages = c.args.pages.now in
    record {
      found = placed (chain_of pages) (chains_in pages) pages c.loop-first.first c.in_ok-chain_at.field-0 c.loop-first.found c.put.new.found c.loop-first-test.true c.in_ok-chain_at.ensures c.in_ok-put.ensures
          c.loop-first.invariant.found;
      few = few_placed (chain_of pages) (chains_in pages) pages c.loop-first.first c.in_ok-chain_at.field-0 c.loop-first.found c.put.new.found c.loop-first-test.true c.in_ok-chain_at.ensures c.in_ok-put.ensures
          c.loop-first.invariant.few;
    }
