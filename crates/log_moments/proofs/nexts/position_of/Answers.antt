use Rattle.std.proofs.Common.{◌≡◌, ◌≢◌, ◌-◌, Some, get_or, leb, arith, rules, sym, ap, ◌∙◌, true≢false}
use Rattle.std.proofs.lemmas.List.Elements.{Contains-get_or}
use Rattle.std.proofs.lemmas.List.Sorted.{IsPartitionPoint-from_clause, IsPartitionedBy-leb}
use Rattle.std.proofs.lemmas.Option.{slice_get-get_or}
use Rattle.base_types.proofs.Upto.{none_upto}
use Rattle.history_model.proofs.KeyLemmas.{key_decides, key_is}
use Rattle.history_model.proofs.Members.{apart}
use Rattle.object_past.proofs.Searching.{in_order, unnumbered}
use Rattle.object_past.specs.declared.version.Version.{Version}
use Rattle.log_moments.proofs.nexts.position_of.Goals as goal

pub returns-then-upto-eq0-clause-none : goal.returns-then-upto-eq0-clause-none
returns-then-upto-eq0-clause-none c = λ k d within key is.
    let versions = c.args.versions.now in
    let order = in_order (λ (v : Version). v.revision) versions c.requires in
    let parted = IsPartitionedBy-leb (λ (v : Version). v.revision) versions c.get-revision.result order in
    let parts = IsPartitionPoint-from_clause (λ (v : Version). leb v.revision c.get-revision.result) _ _ c.partition_point-upto.ensures.partitioned parted (λ a r q k. search rules) in
    let above = none_upto (λ (v : Version). v.revision) versions c.get-revision.result _ parts c.if-upto-eq0.true (get_or versions k d) (Contains-get_or versions k d within) in
    omega (arith, above, is, c.get-revision.ensures.value)

pub returns-then-get-revision-clause-none : goal.returns-then-get-revision-clause-none
returns-then-get-revision-clause-none c = λ k d within key is.
    let versions = c.args.versions.now in
    let order = in_order (λ (v : Version). v.revision) versions c.requires in
    let parted = IsPartitionedBy-leb (λ (v : Version). v.revision) versions c.get-revision.result order in
    let parts = IsPartitionPoint-from_clause (λ (v : Version). leb v.revision c.get-revision.result) _ _ c.partition_point-upto.ensures.partitioned parted (λ a r q k. search rules) in
    let here : (get_or versions (c.partition_point-upto.result - 1) c.index-versions-upto.result).revision ≢ c.get-revision.result =
    λ same. c.if-get-revision.true (c.get.ensures.value ∙ ap (λ (v : Version). v.revision) c.index-versions-upto.is ∙ same) in
    unnumbered (λ (v : Version). v.revision) versions c.get-revision.result _ _ order parts (omega arith) c.partition_point-upto.ensures.bound here
    (get_or versions k d) (Contains-get_or versions k d within) (is ∙ sym c.get-revision.ensures.value)

pub returns-then-not-same_key-clause-none : goal.returns-then-not-same_key-clause-none
returns-then-not-same_key-clause-none c = λ k d within key is.
    let versions = c.args.versions.now in
    let v = c.index-versions-upto.result in
    let bound = c.partition_point-upto.ensures.bound in
    let revision : v.revision ≡ c.args.item.now.revision = sym c.get.ensures.value ∙ c.if-get-revision.false ∙ c.get-revision.ensures.value in
    let one = apart (λ (x : Version). x.revision) versions v (get_or versions k d) c.requires (c.partition_point-upto.result - 1, omega arith, sym c.index-versions-upto.is) (Contains-get_or versions k d within) (revision ∙ sym is) in
    true≢false (sym (key_is v.key c.args.item.now.key (ap (λ (x : Version). x.key) one ∙ key)) ∙ sym c.same_key.ensures ∙ c.if-not-same_key.true)

pub returns-clause-some : goal.returns-clause-some
returns-clause-some c =
    let v = c.index-versions-upto.result in
    let bound = c.partition_point-upto.ensures.bound in (
      v,
      slice_get-get_or c.args.versions.now (c.partition_point-upto.result - 1) v (omega arith) ∙ ap Some (sym c.index-versions-upto.is),
      (key_decides v.key c.args.item.now.key).0 (sym c.same_key.ensures ∙ c.if-not-same_key.false),
      sym c.get.ensures.value ∙ c.if-get-revision.false ∙ c.get-revision.ensures.value,
    )
