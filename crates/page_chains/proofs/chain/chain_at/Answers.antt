use Rattle.std.proofs.Common.{◌≡◌, true, false, Bor, List, map, Some, sym, ap, ◌∙◌, rules}
use Rattle.std.specs.Prelude.{is_some}
use Rattle.page_chains.specs.declared.page.Page.{Page}
use Rattle.page_chains.specs.Chains.{checkpoint_of, begins}
use Rattle.page_chains.proofs.StartLemmas.{not_begun, begun_with, endless}
use Rattle.page_chains.proofs.chain.chain_at.Goals as goal

pub returns-then-not-begins : goal.returns-then-not-begins
returns-then-not-begins c =
    let fails : begins c.index-pages-first.result ≡ false = search rules in
    not_begun c.args.pages.now c.args.first c.index-pages-first.result c.requires.within c.index-pages-first.is fails

pub returns-then-is_some : goal.returns-then-is_some
returns-then-is_some c =
    endless c.args.pages.now c.args.first c.index-pages-first.result c.requires.within c.index-pages-first.is
    c.args.links.now c.requires.links c.args.last c.index-pages-last.result c.requires.last_within c.index-pages-last.is c.requires.last
    (ap (λ (page : Page). is_some page.token) c.index-pages-last.is ∙ sym c.is_some.ensures ∙ c.if-is_some.true)

pub returns-in_ok-checkpoint_of-in-Some : goal.returns-in_ok-checkpoint_of-in-Some
returns-in_ok-checkpoint_of-in-Some c =
    let page = c.index-pages-first.result in
    let starts : begins page ≡ true = search rules in
    let chain = rw c.in-Some.is at c.in_ok-chain.ensures in
    let pages : List Page = map (λ (page : Bor Page). page.now) c.in-Some.chain.items in
    ap Some (c.in_ok-checkpoint_of-in-Some.ensures ∙ ap (λ (l : List (Bor Page)). checkpoint_of page (map (λ (page : Bor Page). page.now) l)) c.deref.ensures.value)
    ∙ begun_with c.args.pages.now c.args.first page c.requires.within c.index-pages-first.is starts (Some pages) chain
