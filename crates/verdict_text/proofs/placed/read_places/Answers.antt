use Rattle.std.proofs.Common.{sym, ◌∙◌}
use Rattle.verdict_text.proofs.NumberTexts.{numbers_agree}
use Rattle.verdict_text.proofs.placed.read_places.Goals as goal

pub returns-in_err-cluster_roles-clause-none : goal.returns-in_err-cluster_roles-clause-none
returns-in_err-cluster_roles-clause-none c = rw c.from_residual-in_err-cluster_roles.ensures (λ places fits e.
    let small = c.in_ok-roles.ensures.fits in
    let behind = (numbers_agree c.in_ok-roles.roles places.roles c.in_ok-roles.rest.now _ small fits.roles (sym c.in_ok-roles.ensures.some ∙ e)).1 in
    c.in_err-cluster_roles.ensures.none places.cluster_roles _ fits.cluster_roles behind)

pub returns-in_err-bindings-clause-none : goal.returns-in_err-bindings-clause-none
returns-in_err-bindings-clause-none c = rw c.from_residual-in_err-bindings.ensures (λ places fits e.
    let small = c.in_ok-roles.ensures.fits in
    let small-2 = c.in_ok-cluster_roles.ensures.fits in
    let behind = (numbers_agree c.in_ok-roles.roles places.roles c.in_ok-roles.rest.now _ small fits.roles (sym c.in_ok-roles.ensures.some ∙ e)).1 in
    let behind-2 = (numbers_agree c.in_ok-cluster_roles.cluster_roles places.cluster_roles c.in_ok-cluster_roles.rest.now _ small-2 fits.cluster_roles (sym c.in_ok-cluster_roles.ensures.some ∙ behind)).1 in
    c.in_err-bindings.ensures.none places.bindings _ fits.bindings behind-2)

pub returns-in_err-cluster_bindings-clause-none : goal.returns-in_err-cluster_bindings-clause-none
returns-in_err-cluster_bindings-clause-none c = rw c.from_residual-in_err-cluster_bindings.ensures (λ places fits e.
    let small = c.in_ok-roles.ensures.fits in
    let small-2 = c.in_ok-cluster_roles.ensures.fits in
    let small-3 = c.in_ok-bindings.ensures.fits in
    let behind = (numbers_agree c.in_ok-roles.roles places.roles c.in_ok-roles.rest.now _ small fits.roles (sym c.in_ok-roles.ensures.some ∙ e)).1 in
    let behind-2 = (numbers_agree c.in_ok-cluster_roles.cluster_roles places.cluster_roles c.in_ok-cluster_roles.rest.now _ small-2 fits.cluster_roles (sym c.in_ok-cluster_roles.ensures.some ∙ behind)).1 in
    let behind-3 = (numbers_agree c.in_ok-bindings.bindings places.bindings c.in_ok-bindings.rest.now _ small-3 fits.bindings (sym c.in_ok-bindings.ensures.some ∙ behind-2)).1 in
    c.in_err-cluster_bindings.ensures.none places.cluster_bindings fits.cluster_bindings behind-3)
