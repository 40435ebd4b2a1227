use Rattle.std.proofs.Common.{Bor, sym, ◌∙◌}
use Rattle.std.proofs.lemmas.List.Folds.{flat_map-map}
use Rattle.page_chains.specs.declared.page.Page.{Page}
use Rattle.page_chains.proofs.chain.checkpoint_of.Goals as goal

pub returns : goal.returns
returns c =
    let items = c.in_ok-items_of.ensures ∙ sym (flat_map-map (λ (page : Page). page.items) (λ (page : Bor Page). page.now) c.args.chain.now) in
    λ i. record {
      name = c.in_ok-name_of.ensures i;
      group = c.in_ok-clone.ensures.cases i;
      resource = c.in_ok-clone-2.ensures.cases i;
      namespace = c.in_ok-clone-3.ensures.cases i;
      revision = c.args.first.now.revision;
      items = items i;
    }
