use Rattle.std.proofs.Common.{true≢false, sym}
use Rattle.local_bounds.proofs.Comers.{comes_so}
use Rattle.local_bounds.proofs.Refusals.{other_revision, by_revision, by_nothing}
use Rattle.local_bounds.proofs.seen.refused_comes.Goals as goal

pub returns-in-Some : goal.returns-in-Some
returns-in-Some c = λ h p. (
  (λ e. comes_so h c.args.key.now c.args.window.low c.args.window.high _ _ (λ v n. other_revision c.args.asked.now v c.in-Some.revision c.in-Some.is n) ((c.other_comes.ensures h p).0 e)),
  λ s. (c.other_comes.ensures h p).1 (comes_so h c.args.key.now c.args.window.low c.args.window.high _ _ (λ v n. by_revision c.args.asked.now v c.in-Some.revision c.in-Some.is c.requires n) s),
)

pub returns-in-None : goal.returns-in-None
returns-in-None c = λ h p. ((λ e. absurd (true≢false (sym e))), λ s. absurd (by_nothing c.args.asked.now s.0 c.in-None.is c.requires s.5))
