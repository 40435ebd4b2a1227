use Rattle.std.proofs.Common.{ℕ, Some}
use Rattle.std.specs.List.{Any}
use Rattle.clouds.specs.Hiding.{ReachesKey}
use Rattle.clouds.specs.Wide.{AnyIn, spans_by}
use Rattle.clouds.proofs.FirstPlaces.{IsFirstPlace-same}
use Rattle.clouds.proofs.Fronts.{Any-from_upto, Any-upto}
use Rattle.clouds.proofs.wide.Wide.first_in_scope.Goals as goal

pub returns : goal.returns
returns c =
    let P : ℕ → ℕ → Type 0 = λ place count. Any (ReachesKey c.args.key.now place c.args.revision) (spans_by c.args.self.now c.in_ok-scope.scope c.args.key.now count) in
    let upto = rw c.len.ensures at c.lengths_upto-counts.ensures in
    rw c.in_ok-scope.was
    (IsFirstPlace-same (λ n. Any (P n) c.lengths_upto-counts.result.now) (λ n. AnyIn c.args.self.now c.args.key.now (Some c.in_ok-scope.scope) (ReachesKey c.args.key.now n c.args.revision)) _ _ _
    (λ n any. Any-from_upto (P n) _ _ _ upto any) (λ n any. Any-upto (P n) _ _ _ upto any) c.first_of_fronts.ensures)
