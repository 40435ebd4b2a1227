use Rattle.std.proofs.Common.{ℕ, pos, neg_ℤ, ◌≤ℤ◌, ◌<◌, ◌^◌, length, subst}
use Rattle.history_model.specs.Events as model
use Rattle.history_model.specs.Histories.{IsEvent}
use Rattle.history_model.specs.Readable.{IsReadable}
use Rattle.log_context.specs.Histories.{history_of}
use Rattle.log_context.specs.Known.{Known}
use Rattle.log_context.specs.Logged.{AreLogged}
use Rattle.log_context.proofs.context.Context.log.Goals as goal

pub returns-clause-few : goal.returns-clause-few
returns-clause-few c = subst (λ (k : Known). length k.log < 2 ^ 32) c.self.view_is c.self.invariant.count

pub returns-clause-logged : goal.returns-clause-logged
returns-clause-logged c = subst (λ (k : Known). AreLogged k.setup k.trees k.events k.log) c.self.view_is c.self.invariant.logged.logged

pub returns-clause-readable : goal.returns-clause-readable
returns-clause-readable c = subst (λ (k : Known). IsReadable (history_of k)) c.self.view_is c.self.invariant.readable

pub returns-clause-moments : goal.returns-clause-moments
returns-clause-moments c = subst (λ (k : Known). (number : ℕ) (e : model.Event) → IsEvent (history_of k) number e → neg_ℤ (pos (2 ^ 101)) ≤ℤ e.lo) c.self.view_is c.self.invariant.moments
