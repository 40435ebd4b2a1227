use Rattle.std.proofs.Common.{[], ◌∷◌, ◌++◌, sym, ap, ◌∙◌, append_assoc}
use Rattle.setup_file.proofs.values.values_of.Goals as goal

pub items-preserved : goal.items-preserved
items-preserved c =
    let all = c.items.values.items in
    let more = c.next.new.self in
    c.items.invariant ∙ ap (λ xs. all ++ xs) c.in-Some.ensures.item ∙ sym (append_assoc all (c.in-Some.value ∷ []) more) ∙ ap (λ xs. xs ++ more) (sym c.in_ok-push.ensures.items)
