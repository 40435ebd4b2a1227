use Rattle.std.proofs.Common.{◌≡◌, All, Bor, option_map, sym, subst, ◌∙◌, true≢false}
use Rattle.std.specs.Prelude.{IfSome}
use Rattle.object_past.specs.declared.removal.Removal.{Removal}
use Rattle.history_query.specs.Versions.{removal_behind}
use Rattle.history_query.proofs.SightFacts.{absence, none_absent, none_there, presence}
use Rattle.history_query.proofs.sight.sight_of.Goals as goal

pub returns-then-clouded : goal.returns-then-clouded
returns-then-clouded c = (c.clouds.ensures.clouded c.args.key.now c.args.place).0 (c.clouded.ensures.0 c.if-clouded.true)

pub returns-in-Some : goal.returns-in-Some
returns-in-Some c =
    let known = c.args.context.now in
    let key = c.args.key.now in
    let place = c.args.place in
    let v = c.in-Some.version.now in
    let removal = c.removal_behind-removal.result in
    let behind = subst (λ l. option_map (λ (r : Bor Removal). r.now) removal ≡ removal_behind l v) c.past.ensures.removals c.removal_behind-removal.ensures.behind in
    let alone = subst (λ l. IfSome removal (λ (r : Bor Removal). All (λ (other : Removal). other.last ≡ v.revision → other ≡ r.now) l)) c.past.ensures.removals c.removal_behind-removal.ensures.alone in (
      λ clouded. true≢false (sym (c.clouded.ensures.1 ((c.clouds.ensures.clouded key place).1 clouded)) ∙ c.if-clouded.false),
      presence known key place v removal c.present_at.result (sym c.in-Some.ensures.latest) c.in-Some.ensures.known behind alone c.present_at.ensures.some c.present_at.ensures.none,
      absence known key place v removal c.may_be_gone.result (sym c.in-Some.ensures.latest) behind alone c.may_be_gone.ensures,
    )

pub returns-in-None : goal.returns-in-None
returns-in-None c = (
  λ clouded. true≢false (sym (c.clouded.ensures.1 ((c.clouds.ensures.clouded c.args.key.now c.args.place).1 clouded)) ∙ c.if-clouded.false),
  none_there c.args.context.now c.args.key.now c.args.place (sym c.in-None.ensures.latest),
  none_absent c.args.context.now c.args.key.now c.args.place (sym c.in-None.ensures.latest),
)
