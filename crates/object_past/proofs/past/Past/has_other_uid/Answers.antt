use Rattle.std.proofs.Common.{◌≡◌, ◌-◌, ◌<◌, ◌≤◌, ⊎_elim, get_or, leb, ap, refl, sym, ◌∙◌, arith, rules}
use Rattle.std.proofs.lemmas.Bool.{both_ways, cases_lt, false≢true, lt-ltb, ltb-true}
use Rattle.std.proofs.lemmas.List.Sorted.{IsPartitionPoint-from_clause, IsPartitionedBy-leb}
use Rattle.object_past.specs.declared.incarnation.Incarnation.{Incarnation}
use Rattle.object_past.proofs.Uids.{first_order, no_other, other_before, other_last, other_nowhere}
use Rattle.object_past.proofs.past.Past.has_other_uid.Goals as goal

pub returns-then-begun-eq0 : goal.returns-then-begun-eq0
returns-then-begun-eq0 c =
    let past = c.args.self.now in
    let key = c.args.key.now in
    let incarnations = c.incarnations-incarnations.result.now in
    let are = c.incarnations-incarnations.ensures in
    let parted = IsPartitionedBy-leb (λ (i : Incarnation). i.first) incarnations c.args.high (first_order past key incarnations are) in
    let parts = IsPartitionPoint-from_clause (λ (i : Incarnation). leb i.first c.args.high) _ _ c.partition_point-begun.ensures.partitioned parted (λ a r q k. search rules) in (
      (λ no. absurd (false≢true no)),
      (λ some. absurd (no_other past key incarnations c.args.low c.args.high _ c.args.uid.now are parts c.if-begun-eq0.true some)),
    )

pub returns-then-not-has_uid : goal.returns-then-not-has_uid
returns-then-not-has_uid c =
    let past = c.args.self.now in
    let key = c.args.key.now in
    let incarnations = c.incarnations-incarnations.result.now in
    let are = c.incarnations-incarnations.ensures in
    let last = c.index-incarnations-begun.result in
    let parted = IsPartitionedBy-leb (λ (i : Incarnation). i.first) incarnations c.args.high (first_order past key incarnations are) in
    let parts = IsPartitionPoint-from_clause (λ (i : Incarnation). leb i.first c.args.high) _ _ c.partition_point-begun.ensures.partitioned parted (λ a r q k. search rules) in (
      (λ holds. other_last past key incarnations c.args.low c.args.high _ c.args.uid.now last are parts (omega arith) c.partition_point-begun.ensures.bound c.if-low-high.false
          (λ same. both_ways _ c.if-not-has_uid.true (c.has_uid.ensures.1 (ap (λ (i : Incarnation). i.uid) c.index-incarnations-begun.is ∙ same)))),
      (λ some. refl),
    )

pub returns-then-begun-gt1 : goal.returns-then-begun-gt1
returns-then-begun-gt1 c =
    let past = c.args.self.now in
    let key = c.args.key.now in
    let incarnations = c.incarnations-incarnations.result.now in
    let are = c.incarnations-incarnations.ensures in
    let last = c.index-incarnations-begun.result in
    let parted = IsPartitionedBy-leb (λ (i : Incarnation). i.first) incarnations c.args.high (first_order past key incarnations are) in
    let parts = IsPartitionPoint-from_clause (λ (i : Incarnation). leb i.first c.args.high) _ _ c.partition_point-begun.ensures.partitioned parted (λ a r q k. search rules) in
    let bound = c.partition_point-begun.ensures.bound in
    let same = ap (λ (i : Incarnation). i.uid) (sym c.index-incarnations-begun.is) ∙ c.has_uid.ensures.0 c.if-not-has_uid.false in
    let first : c.get.result ≡ (get_or incarnations (c.partition_point-begun.result - 1) last).first = c.get.ensures.value ∙ ap (λ (i : Incarnation). i.first) c.index-incarnations-begun.is in (
      (λ holds. let reaches : c.args.low < c.get.result = ltb-true c.args.low c.get.result holds in
          other_before past key incarnations c.args.low c.args.high _ c.args.uid.now last are parts c.if-begun-gt1.true bound same (omega arith)),
      (λ some. ⊎_elim
          (λ (less : c.args.low < c.get.result). lt-ltb c.args.low c.get.result less)
          (λ (le : c.get.result ≤ c.args.low). absurd (other_nowhere past key incarnations c.args.low c.args.high _ c.args.uid.now last are parts (omega arith) bound same (λ more. omega arith) some))
          (cases_lt c.args.low c.get.result)),
    )

pub returns-else-begun-gt1 : goal.returns-else-begun-gt1
returns-else-begun-gt1 c =
    let past = c.args.self.now in
    let key = c.args.key.now in
    let incarnations = c.incarnations-incarnations.result.now in
    let are = c.incarnations-incarnations.ensures in
    let last = c.index-incarnations-begun.result in
    let parted = IsPartitionedBy-leb (λ (i : Incarnation). i.first) incarnations c.args.high (first_order past key incarnations are) in
    let parts = IsPartitionPoint-from_clause (λ (i : Incarnation). leb i.first c.args.high) _ _ c.partition_point-begun.ensures.partitioned parted (λ a r q k. search rules) in
    let bound = c.partition_point-begun.ensures.bound in
    let one = c.if-begun-gt1.false in
    let same = ap (λ (i : Incarnation). i.uid) (sym c.index-incarnations-begun.is) ∙ c.has_uid.ensures.0 c.if-not-has_uid.false in (
      (λ holds. let more = ltb-true 1 c.partition_point-begun.result holds in absurd (omega arith)),
      (λ some. absurd (other_nowhere past key incarnations c.args.low c.args.high _ c.args.uid.now last are parts (omega arith) bound same (λ more. absurd (omega arith)) some)),
    )
