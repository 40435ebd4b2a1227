use Rattle.std.proofs.Common.{◌≢◌, ◌↔◌, true≢false, sym, refl, subst, ◌∙◌}
use Rattle.std.specs.Prelude.{IsTrue}
use Rattle.history_model.specs.Bounding.{ComesIn}
use Rattle.object_past.specs.Modelled.{version_of}
use Rattle.local_bounds.proofs.Comers.{other_none, other_last, other_below}
use Rattle.local_bounds.proofs.Tests.{apart_by, same_by, some_mapped}
use Rattle.local_bounds.proofs.seen.other_comes.Goals as goal

pub returns-in_default : goal.returns-in_default
returns-in_default c = λ h p. ((λ e. absurd (true≢false (sym e))), λ s. absurd (other_none h p.readable c.args.key.now c.args.window.low c.args.window.high c.args.revision (c.in_default.ensures h p) s))

pub returns-then-ne : goal.returns-then-ne
returns-then-ne c = λ h p. (
  (λ e. other_last h p.readable c.args.key.now c.args.window.low c.args.window.high c.args.revision (version_of c.in-Some.version.now) (c.in-Some.ensures h p) (apart_by _ _ c.if-ne.ensures)),
  λ s. refl,
)

pub returns : goal.returns
returns c =
    let test = c.is_some.ensures ∙ sym (some_mapped (λ v. version_of v.now) c.last_comer-2.result) in
    let below = rw c.get.ensures.value at c.last_comer-2.ensures in
    λ h p. subst (λ b. IsTrue b ↔ ComesIn h c.args.key.now c.args.window.low c.args.window.high (λ w. w.revision ≢ c.args.revision)) (sym test)
    (other_below h p.readable c.args.key.now c.args.window.low c.args.window.high c.args.revision (version_of c.in-Some.version.now) _ (rw c.get.ensures.value at c.get.ensures.range).0
    (c.in-Some.ensures h p) (same_by _ _ c.if-ne.ensures) (below h p))
