use Rattle.std.proofs.Common.{◌≢◌, Some, None, IsSomeAnd, sym, subst}
use Rattle.object_past.specs.Modelled.{version_of}
use Rattle.history_model.specs.Histories.{Version}
use Rattle.local_bounds.proofs.Pasts.{latest_found}
use Rattle.local_bounds.proofs.Tests.{apart_by, same_by}
use Rattle.local_bounds.proofs.Windows.{by_coming, at_first}
use Rattle.local_bounds.proofs.seen.has_other_revision.Goals as goal

pub returns-in_default : goal.returns-in_default
returns-in_default c = λ h p. by_coming h p.readable c.args.key.now (λ v. v.revision ≢ c.args.revision) c.args.window.low c.args.window.high c.requires c.other_comes.result (c.other_comes.ensures h p)
    (λ s. subst (λ o. IsSomeAnd o (λ (v : Version). v.revision ≢ c.args.revision)) (latest_found c.args.past.now h p c.args.key.now c.args.window.low None c.in_default.ensures.latest) s)

pub returns-then-ne : goal.returns-then-ne
returns-then-ne c = λ h p. at_first h p.readable c.args.key.now (λ v. v.revision ≢ c.args.revision) c.args.window.low c.args.window.high c.requires
    (subst (λ o. IsSomeAnd o (λ (v : Version). v.revision ≢ c.args.revision)) (sym (latest_found c.args.past.now h p c.args.key.now c.args.window.low (Some (version_of c.in-Some.version.now)) c.in-Some.ensures.latest))
    (apart_by _ _ c.if-ne.ensures))

pub returns : goal.returns
returns c = λ h p. by_coming h p.readable c.args.key.now (λ v. v.revision ≢ c.args.revision) c.args.window.low c.args.window.high c.requires c.other_comes-2.result (c.other_comes-2.ensures h p)
    (λ s. subst (λ o. IsSomeAnd o (λ (v : Version). v.revision ≢ c.args.revision)) (latest_found c.args.past.now h p c.args.key.now c.args.window.low (Some (version_of c.in-Some.version.now)) c.in-Some.ensures.latest) s
    (same_by _ _ c.if-ne.ensures))
