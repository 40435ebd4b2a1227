use Rattle.std.proofs.Common.{◌≡◌, ℕ, ◌/◌, List, map, sym, ap, subst, ◌∙◌}
use Rattle.std.specs.Prelude.{slice_index}
use Rattle.page_chains.proofs.StepLemmas.{AreUnderWay, even, odd}
use Rattle.page_chains.proofs.reaching.reached_after.Goals.{then-left-eq1+in_ok-reached-2, else-left-eq1}
use Rattle.page_chains.proofs.reaching.reached_after.Goals as goal

led : (first second places strides reached : List ℕ) → reached ≡ map (λ to. slice_index second to) first → first ≡ places → second ≡ strides → reached ≡ map (λ to. slice_index strides to) places
led first second places strides reached e f s = e ∙ (λ i. map (λ to. slice_index (s i) to) (f i))

pub doubling-preserved : goal.doubling-preserved
doubling-preserved c =
    let links = c.args.links.now in
    let steps = c.args.steps in
    let reached = c.doubling.reached.items in
    let stride = c.doubling.stride.items in
    let left = c.doubling.left in
    let made = led _ _ stride stride _ c.in_ok-stride-2.ensures c.deref-in-doubling.ensures.value c.deref-in-doubling-2.ensures.value in
    elim c.if-left-eq1.branch [
      | then-left-eq1+in_ok-reached-2 w ↦
          let moved = led _ _ reached stride _ w.in_ok-reached-2.ensures w.deref.ensures.value w.deref-then-left-eq1.ensures.value in
          subst (λ (places : List ℕ). AreUnderWay links steps places c.in_ok-stride-2.stride.items (left / 2)) (sym (ap (λ v. v.items) w.reached-is))
          (odd links steps reached stride left c.doubling.invariant c.in_ok-stride-2.stride.items made w.in_ok-reached-2.reached.items moved w.if-left-eq1.true)
      | else-left-eq1 w ↦
          subst (λ (places : List ℕ). AreUnderWay links steps places c.in_ok-stride-2.stride.items (left / 2)) (sym (ap (λ v. v.items) w.reached-is))
          (even links steps reached stride left c.doubling.invariant c.in_ok-stride-2.stride.items made w.if-left-eq1.false)
    ]
