use Rattle.std.proofs.Common.{◌≡◌, sym, ◌∙◌, subst, true≢false}
use Rattle.std.specs.Prelude.{option_map}
use Rattle.std.specs.Cmp.Lexicographic.{bytes_decides}
use Rattle.history_model.specs.Incarnations.{IsRemovalBehind}
use Rattle.past_building.proofs.Ending.{end_none, end_some, next_none, next_some, recorded_is}
use Rattle.object_past.specs.Modelled.{recorded}
use Rattle.object_past.specs.declared.removal.Removal.{Removal}
use Rattle.past_building.specs.Ended.{IsEnd, revision_of}
use Rattle.object_past.specs.Modelled.{version_of}
use Rattle.past_building.proofs.removals.removal_after.Goals as goal
use Rattle.past_building.proofs.removals.removal_after.Goals.{in-Some+else-eq, in-None}

pub returns-in_default : goal.returns-in_default
returns-in_default c = λ ends h log first removal behind.
    let next : c.match-after.next ≡ revision_of (option_map (λ v. v.now) c.args.after) = elim c.match-after.branch [
      | in-Some+else-eq w ↦ w.next-is ∙ sym (next_some c.args.after w.in-Some.after w.in-Some.is)
      | in-None w ↦ w.next-is ∙ sym (next_none c.args.after w.in-None.is)
    ] in
    c.in_default.ensures.none h removal log first (subst (λ n. IsRemovalBehind h (version_of c.args.version.now) n removal) (sym next) behind)

pub returns : goal.returns
returns c =
    let next : c.match-after.next ≡ revision_of (option_map (λ v. v.now) c.args.after) = elim c.match-after.branch [
      | in-Some+else-eq w ↦ w.next-is ∙ sym (next_some c.args.after w.in-Some.after w.in-Some.is)
      | in-None w ↦ w.next-is ∙ sym (next_none c.args.after w.in-None.is)
    ] in
    let ends : IsEnd c.args.version.now (option_map (λ v. v.now) c.args.after) = elim c.match-after.branch [
      | in-Some+else-eq w ↦ end_some c.args.version.now c.args.after w.in-Some.after w.in-Some.is
          (λ same. true≢false (sym ((bytes_decides w.in-Some.after.now.uid c.args.version.now.uid).1 same) ∙ sym w.if-eq.ensures))
      | in-None w ↦ end_none c.args.version.now c.args.after w.in-None.is
    ] in
    let key = c.in_ok-owner.owner.key in
    let uid = c.in_ok-owner.owner.uid in
    let copy = recorded_is c.args.version.now c.in-Some-found.range key uid c.in_ok-owner.ensures.key c.in_ok-owner.ensures.uid in
    let made : Removal = record { key = key; uid = uid; last = c.args.version.now.revision; range = c.in-Some-found.range } in (
      ends,
      λ h log first. subst (λ n. IsRemovalBehind h (version_of c.args.version.now) n (recorded made)) next
          (subst (IsRemovalBehind h (version_of c.args.version.now) c.match-after.next) (sym copy) (c.in-Some-found.ensures.some h log first)),
    )
