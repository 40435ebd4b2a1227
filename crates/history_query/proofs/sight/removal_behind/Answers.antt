use Rattle.std.proofs.Common.{◌≡◌, ◌≢◌, Bor, All, AllPairs, option_map, slice_get, ap, sym, subst, ◌∙◌}
use Rattle.object_past.specs.declared.removal.Removal.{Removal}
use Rattle.history_query.proofs.SightFacts.{alone_at, behind_at, lent, none_behind}
use Rattle.history_query.proofs.sight.removal_behind.Goals as goal

pub returns-in_err-position-clause-behind : goal.returns-in_err-position-clause-behind
returns-in_err-position-clause-behind c =
    ap (option_map (λ (removal : Bor Removal). removal.now)) c.from_residual.ensures
    ∙ sym (none_behind c.args.past.now.removals c.args.version.now
    (subst (λ n. All (λ (removal : Removal). removal.last ≢ n) c.args.past.now.removals) c.get.ensures.value c.in_err-position.ensures))

pub returns-clause-behind : goal.returns-clause-behind
returns-clause-behind c =
    let removals = c.args.past.now.removals in
    let there = c.in_ok-position.ensures in
    let apart = subst (AllPairs (λ (a b : Removal). a.last ≢ b.last)) c.removals.ensures.removals c.removals.ensures.ends.apart in
    c.removal_at.ensures ∙ ap (λ l. slice_get l c.in_ok-position.position) c.removals.ensures.removals ∙ there.1
    ∙ sym (behind_at removals c.args.version.now c.in_ok-position.position there.0 apart there.1 (there.2 ∙ c.get.ensures.value))

pub returns-clause-alone : goal.returns-clause-alone
returns-clause-alone c =
    let removals = c.args.past.now.removals in
    let there = c.in_ok-position.ensures in
    let apart = subst (AllPairs (λ (a b : Removal). a.last ≢ b.last)) c.removals.ensures.removals c.removals.ensures.ends.apart in
    lent (λ removal. All (λ other. other.last ≡ c.args.version.now.revision → other ≡ removal) removals) c.removal_at.result there.0
    (c.removal_at.ensures ∙ ap (λ l. slice_get l c.in_ok-position.position) c.removals.ensures.removals ∙ there.1)
    (alone_at removals c.args.version.now.revision c.in_ok-position.position there.0 apart there.1 (there.2 ∙ c.get.ensures.value))
