use Rattle.std.proofs.Common.{◌≡◌, ◌∙◌, sym, ap, Option, Some, None, slice_get, option_and_then, arith, ◌<◌, length, subst, refl}
use Rattle.std.proofs.lemmas.Option.{slice_get_read}
use Rattle.rbac_timeline.specs.declared.version.RbacVersion.{RbacVersion}
use Rattle.write_groups.proofs.Lists.{made_one, made_none}
use Rattle.log_context.specs.Roles.{rbac_version}
use Rattle.log_context.specs.declared.roles.RoleTurn.{RoleTurn}
use Rattle.log_context.proofs.roles.roles_at.Goals as goal
use Rattle.log_context.proofs.roles.roles_at.Goals.{in-Some+in_ok-push, in_default}

pub loop-turn-preserved : goal.loop-turn-preserved
loop-turn-preserved c =
    let f : RoleTurn → Option RbacVersion = λ turn. option_and_then (rbac_version c.args.pool.now.trees) (slice_get c.args.versions.now turn.position) in
    let within : c.turn-item.result.position < length c.args.versions.now =
    subst (λ (t : RoleTurn). t.position < length c.args.versions.now) (sym c.turn-item.is) (c.requires.within c.loop-turn.turn-index c.turn-item.result c.loop-turn-test.true) in
    let at : slice_get c.args.versions.now c.turn-item.result.position ≡ Some c.index-versions-turn.result =
    slice_get_read c.args.versions.now (length c.args.versions.now) c.turn-item.result.position c.index-versions-turn.result refl within c.index-versions-turn.is in
    elim c.match-branch-2.branch [
      | in-Some+in_ok-push w ↦
          let found : f c.turn-item.result ≡ Some w.in-Some.role = ap (option_and_then (rbac_version c.args.pool.now.trees)) at ∙ sym c.in_ok-role.ensures ∙ w.in-Some.is in
          rw w.roles-is (w.in_ok-push.ensures.ok
          ∙ made_one f c.args.turns.now c.loop-turn.turn-index c.turn-item.result w.in-Some.role c.loop-turn.roles (omega arith) c.turn-item.is found c.loop-turn.invariant)
      | in_default w ↦
          let found : f c.turn-item.result ≡ None = ap (option_and_then (rbac_version c.args.pool.now.trees)) at ∙ sym c.in_ok-role.ensures ∙ w.in_default.is in
          rw w.roles-is (made_none f c.args.turns.now c.loop-turn.turn-index c.turn-item.result c.loop-turn.roles (omega arith) c.turn-item.is found c.loop-turn.invariant)
    ]
