use Rattle.std.proofs.Common.{◌≡◌, Some, sym, ◌∙◌}
use Rattle.page_chains.specs.Finding.{asked_key}
use Rattle.page_chains.proofs.FindingLemmas.{later, first}
use Rattle.page_chains.proofs.finding.keep_sooner.Goals as goal

pub returns-in_ok-insert-clause-first : goal.returns-in_ok-insert-clause-first
returns-in_ok-insert-clause-first c =
    let asked : Some c.in-Some.key ≡ asked_key c.index-pages-place.result = sym c.in-Some.is ∙ c.in_ok-key.ensures.key in
    first c.args.pages.now c.args.place c.index-pages-place.result c.requires.within c.index-pages-place.is
    c.args.places.now c.insert.new.self c.in-Some.key asked (sym c.is_sooner.ensures ∙ c.if-is_sooner.true) c.in_ok-insert.ensures.updates.0 c.requires.first

pub returns-else-is_sooner-clause-first : goal.returns-else-is_sooner-clause-first
returns-else-is_sooner-clause-first c =
    let asked : Some c.in-Some.key ≡ asked_key c.index-pages-place.result = sym c.in-Some.is ∙ c.in_ok-key.ensures.key in
    later c.args.pages.now c.args.place c.index-pages-place.result c.requires.within c.index-pages-place.is
    c.args.places.now c.in-Some.key asked (sym c.is_sooner.ensures ∙ c.if-is_sooner.false) c.requires.first
