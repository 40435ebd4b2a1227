use Rattle.std.proofs.Common.{◌≡◌, get_or, set, sym, ap, subst, ◌∙◌}
use Rattle.json_patch.specs.Joined.{joined}
use Rattle.json_patch.proofs.Joins.{read_at, written_at}
use Rattle.json_patch.proofs.chunks.replace_at.Goals as goal

pub returns-clause-value : goal.returns-clause-value
returns-clause-value c =
    let parts = c.args.parts.now.items in
    let all = c.part.inside.all.items in
    let is = subst (λ p. p ≡ get_or parts c.args.place.part p) (sym c.part.view_is) c.index_mut-part.ensures.value in
    let read = subst (λ t. t ≡ get_or all c.args.place.offset t) (sym c.replace.ensures.value) c.index_mut.ensures.value in
    read_at parts c.args.place all c.replace.result c.requires is read

pub returns-clause-items : goal.returns-clause-items
returns-clause-items c =
    let parts = c.args.parts.now.items in
    let all = c.part.inside.all.items in
    let is = subst (λ p. p ≡ get_or parts c.args.place.part p) (sym c.part.view_is) c.index_mut-part.ensures.value in
    ap (λ t. joined (set parts c.args.place.part (set all c.args.place.offset t))) c.replace.ensures.after ∙ written_at parts c.args.place all c.args.item c.requires is
