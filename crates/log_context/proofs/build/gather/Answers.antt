use Rattle.std.proofs.Common.{◌≡◌, ◌∙◌, ◌<◌, ◌≤◌, Err, ap, length, subst, sym}
use Rattle.node_pool.specs.Pooled.{Pooled}
use Rattle.log_context.specs.Log.{IsLogOf}
use Rattle.log_context.specs.LogTrees.{pooled}
use Rattle.log_context.specs.declared.log.fault.BuildFault.TheVariants.{PoolFull}
use Rattle.log_context.proofs.Assembling.{loggable}
use Rattle.log_context.proofs.Refusing.{same_fault}
use Rattle.log_context.proofs.build.gather.Goals as goal

pub log_of-requires-clause-loggable : goal.log_of-requires-clause-loggable
log_of-requires-clause-loggable g c κs _ = loggable _ _ c.requires

pub found_of-requires-clause-rising : goal.found_of-requires-clause-rising
found_of-requires-clause-rising g c κs _ = c.in-Ok.ensures.built.lines c.requires.lines

pub found_of-requires-clause-trees : goal.found_of-requires-clause-trees
found_of-requires-clause-trees g c κs _ = ap (λ (p : Pooled). p.trees) c.in_ok-pool.ensures.same ∙ c.in-Ok.ensures.built.trees

pub found_of-requires-clause-log : goal.found_of-requires-clause-log
found_of-requires-clause-log g c κs _ =
    subst (λ (p : Pooled). IsLogOf c.args.setup.now c.args.events.now p.trees c.in-Ok.log) (sym c.in_ok-pool.ensures.same) c.in-Ok.ensures.built.log

pub returns-in-Err-clause-full : goal.returns-in-Err-clause-full
returns-in-Err-clause-full g c = λ refused.
    let is : c.log_of.result ≡ Err PoolFull = c.in-Err.is ∙ ap Err (same_fault c.in-Err.fault PoolFull refused) in
    subst (λ n. n < length (pooled c.args.setup.now c.args.events.now)) c.in_ok-interner.ensures.limit (c.log_of.ensures.full is)

pub returns-clause-fits : goal.returns-clause-fits
returns-clause-fits g c = subst (λ n. length (pooled c.args.setup.now c.args.events.now) ≤ n) c.in_ok-interner.ensures.limit c.in-Ok.ensures.built.fits
