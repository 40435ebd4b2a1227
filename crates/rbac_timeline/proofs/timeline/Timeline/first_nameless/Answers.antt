use Rattle.std.proofs.Common.{◌∙◌, sym, ℕ, ◌<◌, subst}
use Rattle.std.proofs.lemmas.Bool.{false≢true, lt-ltb, ltb-true}
use Rattle.clouds.proofs.FirstPlaces.{IsFirstPlace-same}
use Rattle.rbac_timeline.specs.Extents.{MayGrantNameless}
use Rattle.rbac_timeline.specs.Known.{Known}
use Rattle.rbac_timeline.specs.Nameless.{AreLows}
use Rattle.rbac_timeline.proofs.Unnamed.{may_unnamed}
use Rattle.rbac_timeline.proofs.timeline.Timeline.first_nameless.Goals as goal

pub returns-in-Some : goal.returns-in-Some
returns-in-Some c =
    let known = c.args.self.now in
    let attrs = c.args.attrs.now in
    let are = subst (λ (k : Known). AreLows c.self.inside.nameless k.spans) c.self.view_is c.self.invariant.unnamed in
    let told = rw c.bindings.ensures at c.in-Some.ensures in
    IsFirstPlace-same (λ (n : ℕ). c.in-Some.least < n) (λ (n : ℕ). MayGrantNameless known c.args.way n attrs) c.args.low c.args.high c.first_behind.result
    (λ n less. (may_unnamed known c.self.inside.nameless are n attrs c.args.way).0 (sym (told n) ∙ lt-ltb c.in-Some.least n less))
    (λ n may. ltb-true c.in-Some.least n (told n ∙ (may_unnamed known c.self.inside.nameless are n attrs c.args.way).1 may))
    c.first_behind.ensures

pub returns-in-None : goal.returns-in-None
returns-in-None c =
    let known = c.args.self.now in
    let attrs = c.args.attrs.now in
    let are = subst (λ (k : Known). AreLows c.self.inside.nameless k.spans) c.self.view_is c.self.invariant.unnamed in
    let told = rw c.bindings.ensures at c.in-None.ensures in
    λ n from upto may. false≢true (told n ∙ (may_unnamed known c.self.inside.nameless are n attrs c.args.way).1 may)
