use Rattle.std.proofs.Common.{ℕ, ◌<◌, ◌≤◌, leb, arith, rules}
use Rattle.std.proofs.lemmas.Bool.{le-leb, leb-true, ltb-true}
use Rattle.std.proofs.lemmas.List.Sorted.{IsPartitionPoint-from_clause, IsPartitionedBy-leb}
use Rattle.base_types.proofs.Quantifiers.{Any-at}
use Rattle.object_past.proofs.Absent.{Within}
use Rattle.base_types.proofs.Upto.{greatest_upto, last_upto, none_upto}
use Rattle.object_past.proofs.past.has_within.Goals as goal

pub returns-then-upto-gt0 : goal.returns-then-upto-gt0
returns-then-upto-gt0 c =
    let places = c.args.places.now in
    let parted = IsPartitionedBy-leb (λ (n : ℕ). n) places c.args.high c.requires in
    let parts = IsPartitionPoint-from_clause (λ (n : ℕ). leb n c.args.high) _ _ c.partition_point-upto.ensures.partitioned parted (λ a r q k. search rules) in
    let bound = c.partition_point-upto.ensures.bound in
    let some = c.if-upto-gt0.true in (
      (λ yes. Any-at (Within c.args.low c.args.high) places _ 0 (omega arith) (leb-true c.args.low _ yes, last_upto (λ (n : ℕ). n) places c.args.high _ 0 parts some bound)),
      (λ any.
          let upto : any.1 ≤ _ = greatest_upto (λ (n : ℕ). n) places c.args.high _ 0 c.requires parts some bound any.1 (any.0, any.2, any.3) any.4.1 in
          let from : c.args.low ≤ any.1 = any.4.0 in
          le-leb c.args.low _ (omega arith)),
    )

pub returns-else-upto-gt0 : goal.returns-else-upto-gt0
returns-else-upto-gt0 c =
    let places = c.args.places.now in
    let parted = IsPartitionedBy-leb (λ (n : ℕ). n) places c.args.high c.requires in
    let parts = IsPartitionPoint-from_clause (λ (n : ℕ). leb n c.args.high) _ _ c.partition_point-upto.ensures.partitioned parted (λ a r q k. search rules) in
    let none = c.if-upto-gt0.false in (
      (λ yes. let some = ltb-true 0 c.partition_point-upto.result yes in absurd (omega arith)),
      (λ any.
          let above : c.args.high < any.1 = none_upto (λ (n : ℕ). n) places c.args.high _ parts (omega arith) any.1 (any.0, any.2, any.3) in
          let upto : any.1 ≤ c.args.high = any.4.1 in
          absurd (omega arith)),
    )
