use Rattle.std.proofs.Common.{◌≡◌, ◌+◌, ◌-◌, ◌<◌, length, drop, rules, arith, sym, subst}
use Rattle.std.proofs.lemmas.List.{drop_all}
use Rattle.cluster_setup.specs.Indexed.{AreSources}
use Rattle.cluster_setup.proofs.Gathered.{from_here}
use Rattle.cluster_setup.proofs.SourceFacts.{no_sources}
use Rattle.cluster_setup.proofs.sources.Sources.new.Goals as goal

pub loop-at-init : goal.loop-at-init
loop-at-init c =
    let documents = c.args.documents.now in
    subst (AreSources c.new-entries.result) (sym (drop_all (length documents) documents (omega arith))) (no_sources c.new-entries.result c.new-entries.ensures.empty)

pub loop-at-preserved : goal.loop-at-preserved
loop-at-preserved c =
    let documents = c.args.documents.now in
    let at = c.loop-at.at - 1 in
    let within : at < length documents = search (rules, arith) in
    let more : at + 1 ≡ c.loop-at.at = omega (arith, c.loop-at-test.true) in
    let held = subst (λ n. AreSources c.loop-at.entries (drop n documents)) (sym more) c.loop-at.invariant in
    from_here (AreSources c.add_document.new.entries) documents at c.index-documents-at.result within c.index-documents-at.is
    (c.in_ok-add_document.ensures (drop (at + 1) documents) held)

pub invariant_of-result : goal.invariant_of-result
invariant_of-result c =
    let none : c.loop-at.at ≡ 0 = search (rules, arith) in
    subst (λ n. AreSources c.loop-at.entries (drop n c.args.documents.now)) none c.loop-at.invariant
