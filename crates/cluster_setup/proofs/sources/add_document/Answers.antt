use Rattle.std.proofs.Common.{◌≡◌, ◌+◌, ◌-◌, ◌<◌, length, drop, rules, arith, sym, ap, subst, ◌∙◌, codes}
use Rattle.std.proofs.lemmas.List.{drop_all}
use Rattle.cluster_setup.specs.Files.{is_discovery, listed}
use Rattle.cluster_setup.specs.Indexed.{AreEntries}
use Rattle.cluster_setup.proofs.Gathered.{from_here}
use Rattle.cluster_setup.proofs.SourceFacts.{document_put, document_skipped}
use Rattle.cluster_setup.proofs.sources.add_document.Goals as goal

pub loop-at-init : goal.loop-at-init
loop-at-init c = λ behind held.
    let told = c.listed-told.result.now in
    subst (λ entries. AreEntries c.args.entries.now c.args.document.now entries behind) (sym (drop_all (length told) told (omega arith))) (λ list kind ends. held list kind ends)

pub loop-at-preserved : goal.loop-at-preserved
loop-at-preserved c = λ behind held.
    let told = c.listed-told.result.now in
    let at = c.loop-at.at - 1 in
    let within : at < length told = search (rules, arith) in
    let more : at + 1 ≡ c.loop-at.at = omega (arith, c.loop-at-test.true) in
    let later = subst (λ n. AreEntries c.loop-at.entries c.args.document.now (drop n told) behind) (sym more) (c.loop-at.invariant behind held) in
    from_here (λ entries. AreEntries c.add_entry.new.entries c.args.document.now entries behind) told at c.index-told-at.result within c.index-told-at.is
    (c.in_ok-add_entry.ensures (drop (at + 1) told) behind later)

pub returns-then-not-is_discovery : goal.returns-then-not-is_discovery
returns-then-not-is_discovery c = λ behind held.
    document_skipped c.args.entries.now c.args.document.now behind
    (sym (c.is_discovery.ensures ∙ ap is_discovery c.tree-tree.ensures) ∙ c.if-not-is_discovery.true) held

pub returns : goal.returns
returns c = λ behind held.
    let none : c.loop-at.at ≡ 0 = search (rules, arith) in
    let all = subst (λ n. AreEntries c.loop-at.entries c.args.document.now (drop n c.listed-told.result.now) behind) none (c.loop-at.invariant behind held) in
    document_put c.loop-at.entries c.args.document.now behind (sym (c.is_discovery.ensures ∙ ap is_discovery c.tree-tree.ensures) ∙ c.if-not-is_discovery.false)
    (subst (λ told. AreEntries c.loop-at.entries c.args.document.now told behind)
    (c.listed-told.ensures ∙ ap (listed (codes "resources")) c.tree-tree.ensures) all)
