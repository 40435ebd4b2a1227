use Rattle.std.proofs.Common.{◌≡◌, ℕ, ◌≤◌, ◌↔◌, true, refl, Option, Some, None, arith}
use Rattle.std.specs.Option.{is_some}
use Rattle.std.proofs.lemmas.Bool.{false≢true}
use Rattle.rbac_timeline.specs.declared.lasting.Until.{Until}
use Rattle.rbac_timeline.specs.Extents.{MustGrantInWay}
use Rattle.rbac_timeline.specs.Lasting.{LastsUntil}
use Rattle.rbac_timeline.proofs.timeline.Timeline.must.Goals as goal

lasts_here : (P : ℕ → ℕ → Type 0) (first second high : ℕ) (until : Option Until) → LastsUntil P first second high until → (is_some until ≡ true) ↔ P first second
lasts_here P first second high None none = ((λ yes. absurd (false≢true yes)), (λ holds. absurd (none holds)))
lasts_here P first second high (Some until) lasts =
    let a : first ≤ until.first = lasts.first_from in
    let b : second ≤ until.second = lasts.second_from in
    ((λ yes. lasts.throughout first second (omega arith) a (omega arith) b), (λ holds. refl))

pub returns : goal.returns
returns c =
    let link = c.args.link in
    rw c.is_some.ensures (lasts_here (λ (r b : ℕ). MustGrantInWay c.args.self.now link.way r b c.args.who.now c.args.attrs.now) link.role_place link.binding_place _ c.granted_until.result c.granted_until.ensures)
