use Rattle.std.proofs.Common.{◌↔◌, Some, sym, ◌∙◌, subst, true≢false}
use Rattle.std.specs.Prelude.{IsTrue, IsSome}
use Rattle.history_model.specs.Bounding.{ComesIn}
use Rattle.object_past.specs.Modelled.{version_of}
use Rattle.local_bounds.proofs.Asks.{asks_same}
use Rattle.local_bounds.proofs.Comers.{comes_last}
use Rattle.local_bounds.proofs.Tests.{some_mapped}
use Rattle.local_bounds.proofs.Windows.{absent_seen}
use Rattle.local_bounds.proofs.seen.seen_within.Goals as goal

pub returns-in-Gone : goal.returns-in-Gone
returns-in-Gone c = λ h p. rw c.in-Gone.is
    (asks_same h c.args.key.now _ _ c.gone_within.result (λ choice chosen. absent_seen h choice c.args.key.now c.args.window.low c.args.window.high) (c.gone_within.ensures h p))

pub returns-in-There : goal.returns-in-There
returns-in-There c =
    let asked = rw c.in-There.is at c.there_within.ensures in
    let test = c.is_some-comes.ensures ∙ sym (some_mapped (λ v. version_of v.now) c.last_comer.result) in
    λ h p. rw c.in-There.is (asked h p (λ s. true≢false (sym s))
    (subst (λ b. IsTrue b ↔ ComesIn h c.args.key.now c.args.window.low c.args.window.high (λ v. IsSome (Some v))) (sym test)
    (comes_last h p.readable c.args.key.now c.args.window.low c.args.window.high _ (c.last_comer.ensures h p))))

pub returns-in-Shown : goal.returns-in-Shown
returns-in-Shown c =
    let asked = rw c.in-Shown.is at c.there_within-in-Shown.ensures in
    λ h p. rw c.in-Shown.is (asked h p (λ s. s) (c.item_comes-comes.ensures h p))

pub returns-in-Refused : goal.returns-in-Refused
returns-in-Refused c = λ h p. rw c.in-Refused.is (c.refused_within.ensures h p)
