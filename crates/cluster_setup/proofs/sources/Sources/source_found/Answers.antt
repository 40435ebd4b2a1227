use Rattle.std.proofs.Common.{◌≡◌, ◌++◌, codes, sym, ap, ◌∙◌}
use Rattle.std.specs.Prelude.{option_map}
use Rattle.cluster_setup.specs.Indexed.{AreSources, entry_at, pair_of, source_found}
use Rattle.cluster_setup.proofs.SourceFacts.{no_source}
use Rattle.cluster_setup.proofs.sources.Sources.source_found.Goals as goal

pub returns-in_default : goal.returns-in_default
returns-in_default c = sym (no_source c.args.self.now c.args.list.now (λ front ends. c.in_default.ensures.cases front (c.word.ensures ∙ ends)))

pub returns : goal.returns
returns c =
    let entries = c.self.inside.entries in
    let kind = c.in-Some.kind.now in
    let cut = c.in-Some.ensures.cases in
    let held : AreSources entries c.self.inside.documents.now = c.self.invariant in
    let all : c.self.inside.documents.now ≡ c.args.self.now = c.self.view_is in
    ap (option_map pair_of) (c.copied.ensures ∙ c.get.ensures.value)
    ∙ ap (λ version. entry_at entries version kind) c.word-2.ensures
    ∙ held c.args.list.now kind (sym c.word.ensures ∙ cut.1.1 ∙ ap (λ front. front ++ codes "List") (sym cut.2))
    ∙ ap (λ trees. source_found trees c.args.list.now) all
