use Rattle.std.proofs.Common.{◌≡◌, ℕ, List, get_or, refl, sym, ap, subst, ◌∙◌, rules}
use Rattle.base_types.specs.Meaning.{Meaning, fields_of}
use Rattle.base_types.specs.Names.{AreSorted}
use Rattle.base_types.specs.Parts.{lookup}
use Rattle.base_types.specs.Stored.{fields_without}
use Rattle.base_types.proofs.Ordered.{lookup_absent}
use Rattle.base_types.proofs.Placing.{lookup_changed, without_found, without_absent, sorted_removed}
use Rattle.json_patch.specs.Joined.{joined, number_of}
use Rattle.json_patch.proofs.Finding.{found_named, found_absent}
use Rattle.json_patch.proofs.draft.DraftMembers.take.Goals as goal

pub returns-in-Err-clause-left : goal.returns-in-Err-clause-left
returns-in-Err-clause-left c =
    let absent = found_absent c.args.name.now c.args.name.now c.deref.result.now c.self.inside.parts.items c.args.self.now c.in-Err.field-0 c.deref.ensures.value c.self.view_is refl c.in-Err.ensures.absent in
    sym (without_absent c.args.name.now c.args.self.now (number_of c.deref.result.now c.in-Err.field-0) absent)

pub returns-in-Err-clause-taken : goal.returns-in-Err-clause-taken
returns-in-Err-clause-taken c =
    let absent = found_absent c.args.name.now c.args.name.now c.deref.result.now c.self.inside.parts.items c.args.self.now c.in-Err.field-0 c.deref.ensures.value c.self.view_is refl c.in-Err.ensures.absent in
    sym (lookup_absent c.args.self.now c.args.name.now (number_of c.deref.result.now c.in-Err.field-0) absent)

pub invariant_of-self : goal.invariant_of-self
invariant_of-self c = subst AreSorted (sym c.remove_at.ensures.members) (sorted_removed (joined c.self.inside.parts.items) (number_of c.self.inside.parts.items c.in-Ok.place) c.self.invariant)

pub returns-in-Ok-clause-left : goal.returns-in-Ok-clause-left
returns-in-Ok-clause-left c =
    let parts = c.self.inside.parts.items in
    let named = found_named c.args.name.now c.args.name.now c.deref.result.now parts c.in-Ok.place c.deref.ensures.value refl c.in-Ok.ensures.named in
    ap fields_of c.remove_at.ensures.members ∙ sym (without_found c.args.name.now (joined parts) (number_of parts c.in-Ok.place) c.self.invariant named)
    ∙ ap (λ ms. fields_without c.args.name.now (fields_of ms)) c.self.view_is

pub returns-in-Ok-clause-taken : goal.returns-in-Ok-clause-taken
returns-in-Ok-clause-taken c =
    let parts = c.self.inside.parts.items in
    let n = number_of parts c.in-Ok.place in
    let m : List ℕ × Meaning = (c.value.inside.name, c.value.inside.value) in
    let named = found_named c.args.name.now c.args.name.now c.deref.result.now parts c.in-Ok.place c.deref.ensures.value refl c.in-Ok.ensures.named in
    let read : m ≡ get_or (joined parts) n m = subst (λ x. x ≡ get_or (joined parts) n x) (sym c.value.view_is) c.remove_at.ensures.value in
    lookup_changed c.args.name.now (joined parts) n m c.value.inside.value c.self.invariant named read (search rules)
    ∙ ap (λ ms. lookup c.args.name.now (fields_of ms)) c.self.view_is
