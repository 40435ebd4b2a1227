use Rattle.std.proofs.Common.{◌≢◌, AllPairs, map, refl, sym, ap, subst, ◌∙◌}
use Rattle.std.proofs.lemmas.Result.{IfOk-weaker}
use Rattle.object_past.specs.Modelled.{version_of}
use Rattle.log_context.specs.Histories.{history_of}
use Rattle.write_groups.specs.declared.event.Item.{Item}
use Rattle.serial_machine.specs.Stepping.{scene_objects}
use Rattle.serial_machine.proofs.RightLists.{none_there, listed_of, distinct_of, right_of, others_of, lacked_of}
use Rattle.serial_machine.proofs.Telling.{not_so, told_by, untold}
use Rattle.serial_machine.proofs.listing.is_list_right.Goals as goal

pub returns-then-place-get : goal.returns-then-place-get
returns-then-place-get c = not_so (λ right. c.if-place-get.true (right.at_revision ∙ sym c.get.ensures.value))

pub returns-in_default : goal.returns-in_default
returns-in_default c =
    let none = rw c.in_default.is at c.in_ok-shown.ensures.none in
    not_so (λ right. none (subst (AllPairs (λ (a b : Item). a.key ≢ b.key)) (sym c.as_slice.ensures)
    (distinct_of (history_of c.args.scene.context.now) c.args.number c.args.place (scene_objects c.args.scene) c.args.listing.now right)))

pub returns-then-not-branch : goal.returns-then-not-branch
returns-then-not-branch c =
    let told = rw c.as_slice-2.ensures at c.in_ok-are_listed.ensures in
    not_so (λ right. untold _ told c.if-not-branch.true
    (listed_of (history_of c.args.scene.context.now) c.args.number c.args.place (scene_objects c.args.scene) c.args.listing.now right))

pub returns-then-not-listing : goal.returns-then-not-listing
returns-then-not-listing c =
    let told = rw c.as_slice-2.ensures at c.in_ok-are_listed.ensures in
    let some = rw c.in-Some.is at c.in_ok-shown.ensures.some in
    let distinct = rw c.as_slice.ensures at some.0 in (
      (λ t. right_of (history_of c.args.scene.context.now) c.args.number c.args.place (scene_objects c.args.scene) c.args.listing.now (c.if-place-get.false ∙ c.get.ensures.value) distinct
          (told.0 c.if-not-branch.false) (λ whole. absurd (cc (whole, c.if-not-listing.true)))),
      λ right. refl,
    )

pub returns : goal.returns
returns c =
    let told = rw c.as_slice-2.ensures at c.in_ok-are_listed.ensures in
    let some = rw c.in-Some.is at c.in_ok-shown.ensures.some in
    let distinct = rw c.as_slice.ensures at some.0 in
    let recorded = sym (ap (map version_of) c.past.ensures.versions) in
    let others = rw c.deref-2.ensures.value at c.are_lacked.ensures in
    IfOk-weaker c.are_lacked.result _ _ (λ right all. told_by right all
    (λ lacked. right_of (history_of c.args.scene.context.now) c.args.number c.args.place (scene_objects c.args.scene) c.args.listing.now (c.if-place-get.false ∙ c.get.ensures.value) distinct
    (told.0 c.if-not-branch.false)
    (λ whole. lacked_of (history_of c.args.scene.context.now) c.args.number c.args.place (scene_objects c.args.scene) c.args.listing.now c.past.result.now recorded
    (λ key n. none_there (history_of c.args.scene.context.now) c.args.scene.machine.now c.args.scene.upto key c.requires n)
    c.in_ok-lacked.lacked.items c.in_ok-lacked.ensures lacked))
    (λ list. others_of (history_of c.args.scene.context.now) c.args.number c.args.place (scene_objects c.args.scene) c.args.listing.now c.past.result.now recorded
    (λ key n. none_there (history_of c.args.scene.context.now) c.args.scene.machine.now c.args.scene.upto key c.requires n)
    c.in_ok-lacked.lacked.items c.in_ok-lacked.ensures (list.lacks c.if-not-listing.false))) others
