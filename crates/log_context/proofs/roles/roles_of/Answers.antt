use Rattle.std.proofs.Common.{◌<◌, subst, sym, All, length, rules}
use Rattle.std.specs.List.Sorted.{IsPermutation}
use Rattle.log_context.proofs.Ranked.{turns_within, roles_are}
use Rattle.log_context.specs.Roles.{turns_from}
use Rattle.log_context.specs.declared.roles.RoleTurn.{RoleTurn}
use Rattle.log_context.proofs.roles.roles_of.Goals as goal

pub roles_at-requires-clause-within : goal.roles_at-requires-clause-within
roles_at-requires-clause-within c =
    let same : IsPermutation (turns_from 0 c.args.versions.now) c.in_ok-turns.turns.items = subst (λ l. IsPermutation l c.in_ok-turns.turns.items) c.in_ok-turns_of.ensures c.in_ok-turns.ensures.same in
    subst (λ l. All (λ (turn : RoleTurn). turn.position < length c.args.versions.now) l) (sym c.deref.ensures.value)
    (turns_within c.args.pool.now.trees c.args.versions.now c.in_ok-turns.turns.items same c.in_ok-turns.ensures.sorted c.requires.rising c.requires.nodes)

pub returns : goal.returns
returns c =
    let same : IsPermutation (turns_from 0 c.args.versions.now) c.in_ok-turns.turns.items = subst (λ l. IsPermutation l c.in_ok-turns.turns.items) c.in_ok-turns_of.ensures c.in_ok-turns.ensures.same in
    let are = roles_are c.args.pool.now.trees c.args.versions.now c.in_ok-turns.turns.items same c.in_ok-turns.ensures.sorted c.requires.rising c.requires.nodes in
    search rules
