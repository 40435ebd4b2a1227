use Rattle.std.proofs.Common.{Bor, rules}
use Rattle.std.specs.Ordering.{is_lt}
use Rattle.std.proofs.lemmas.List.Sorted.{answers_always}
use Rattle.base_types.specs.declared.kubernetes.key.ObjectKey.{ObjectKey}
use Rattle.clouds.specs.Kept.{key_order}
use Rattle.object_past.proofs.Repeated.{rising_is}
use Rattle.object_past.proofs.lacking.are_rising.Goals as goal

pub returns : goal.returns
returns c = rising_is c.args.keys.now c.is_sorted_by.result (c.is_sorted_by.ensures.cases (λ (a b : Bor ObjectKey). is_lt (key_order a.now b.now)) (answers_always _ _ _ (λ f a r q k. search rules)))
