use Rattle.std.proofs.Common.{ℕ, rules, tests}
use Rattle.std.specs.List.{Any}
use Rattle.std.proofs.lemmas.Iterator.{YieldsList-from_slice, cases_from_any}
use Rattle.clouds.specs.Hiding.{ReachesKey}
use Rattle.clouds.specs.Wide.{spans_by}
use Rattle.clouds.proofs.Quantified.{any_decides}
use Rattle.clouds.proofs.wide.Wide.some_front_reaches.Goals as goal

pub returns : goal.returns
returns c =
    let P : ℕ → Type 0 = λ count. Any (ReachesKey c.args.key.now c.args.place c.args.revision) (spans_by c.args.self.now c.args.scope c.args.key.now count) in
    any_decides P c.any.result c.args.counts.now
    (cases_from_any _ _ _ P (λ count. P count → ⊥) c.any.ensures.ran (YieldsList-from_slice c.args.counts.now (cc)) (λ x q k. search (rules, tests)) (λ x q k. search (rules, tests)))
