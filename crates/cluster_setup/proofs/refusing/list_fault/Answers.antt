use Rattle.std.proofs.Common.{if◌then◌else◌, sym, ◌∙◌}
use Rattle.std.specs.Prelude.{is_none}
use Rattle.cluster_setup.specs.declared.fault.FileFault.TheVariants.{Unknown, Version}
use Rattle.cluster_setup.specs.Files.{has_more}
use Rattle.cluster_setup.specs.Found.{is_elsewhere, is_listed_again, source_of}
use Rattle.cluster_setup.specs.Refusing.{is_at_start}
use Rattle.cluster_setup.proofs.ListedFacts.{by_source, unfound_told}
use Rattle.cluster_setup.proofs.refusing.list_fault.Goals as goal

pub returns-then-is_none : goal.returns-then-is_none
returns-then-is_none c = λ later told.
    let trees = c.args.sources.now in
    let list = c.args.list.now in
    by_source (has_more list) (is_none (source_of trees list)) (is_listed_again later list) (is_at_start trees list) (if is_elsewhere trees list then Version else Unknown)
    (sym c.has_more.ensures ∙ c.if-has_more.false)
    (sym (unfound_told trees list c.source_found.result c.is_none.result c.is_none.ensures c.source_found.ensures) ∙ c.if-is_none.true)
