use Rattle.std.proofs.Common.{◌≡◌, ap}
use Rattle.std.specs.Bool.{Decides}
use Rattle.std.proofs.lemmas.Bool.Decides.{Decides-and, Decides-like}
use Rattle.std.proofs.lemmas.Slice.Eq.{bytes_eq-Decides, slice_eq-Decides}
use Rattle.base_types.specs.declared.kubernetes.request.Pair.{Pair}
use Rattle.base_types.specs.contracts.kubernetes.request.PairPartialEq.TheImpl as same
use Rattle.audit_event.proofs.seen.is_same_query.Goals as goal

pair_decides : (a b : Pair) → Decides (same.eq-value.it a b) (a ≡ b)
pair_decides a b =
    Decides-like _ (λ e. λ i. record { name = e.0 i; value = e.1 i }) (λ e. (ap (λ (p : Pair). p.name) e, ap (λ (p : Pair). p.value) e))
    (Decides-and _ _ (bytes_eq-Decides a.name b.name) (bytes_eq-Decides a.value b.value))

pub returns : goal.returns
returns c = slice_eq-Decides pair_decides c.args.a.now c.args.b.now c.eq.result c.eq.ensures
