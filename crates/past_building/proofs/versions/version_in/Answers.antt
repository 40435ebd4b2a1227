use Rattle.std.proofs.Common.{◌≡◌, ℕ, Some, Option, refl, sym, ap, ◌∙◌, subst}
use Rattle.std.specs.Prelude.{IsSome}
use Rattle.base_types.specs.declared.verdict.claim.Reason.{Reason}
use Rattle.write_groups.specs.Grouped.{item_at}
use Rattle.past_building.proofs.Choosing.{IsChosen, chosen, first_find, made_version}
use Rattle.past_building.proofs.Writing.{shown_write}
use Rattle.past_building.specs.Chosen.{finding_at, maker_among, shown_by}
use Rattle.past_building.specs.Modelled.{making_of}
use Rattle.past_building.specs.Written.{making_at}
use Rattle.past_building.proofs.versions.version_in.Goals as goal

pub write_at-making-requires : goal.write_at-making-requires
write_at-making-requires g c =
    let events = c.args.log.events.now in
    let first = c.first_number-first.result in
    let may = c.may_make-may_be_unrecorded.result in
    let finding : ℕ → Option Reason = finding_at (g.B.Bodies.body c.args.bodies.now) events in
    let shown : c.shown_by.result ≡ shown_by first (maker_among finding c.args.judged.now first may) =
    c.shown_by.ensures ∙ ap (shown_by first) c.in_ok-maker.ensures in
    subst (λ n. IsSome (item_at events n)) (sym shown) (shown_write events finding c.args.judged.now first may c.requires.writes.1 (first_find c.args.judged.now ∙ c.first_number-first.ensures))

pub returns-clause-made : goal.returns-clause-made
returns-clause-made g c = λ h of.
    let events = c.args.log.events.now in
    let first = c.first_number-first.result in
    let told = of.clouds.unrecorded c.args.group.now.key c.args.group.now.revision in
    let may = c.may_make-may_be_unrecorded.ensures in
    let choice = chosen h events (g.B.Bodies.body c.args.bodies.now) c.args.group.now c.args.judged.now first c.may_make-may_be_unrecorded.result of.all of.bodies of.grouped of.members
    (first_find c.args.judged.now ∙ c.first_number-first.ensures) (λ t. told.0 (may.0 t), λ m. may.1 (told.1 m)) in
    made_version h events c.args.group.now _ (shown_by first c.in_ok-maker.maker) (making_of c.write_at-making.result)
    (subst (λ m. IsChosen h c.args.group.now m (shown_by first m)) (sym c.in_ok-maker.ensures) choice) of.all of.grouped
    (subst (λ n. making_at events n ≡ Some (making_of c.write_at-making.result)) c.shown_by.ensures c.write_at-making.ensures)
    c.in_ok-owner.ensures.key refl c.in_ok-owner.ensures.uid refl
