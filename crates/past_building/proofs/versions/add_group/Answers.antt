use Rattle.std.proofs.Common.{◌<◌, ◌∙◌, List, sym, subst}
use Rattle.std.specs.Prelude.{All}
use Rattle.object_past.specs.declared.version.Version.{Version}
use Rattle.past_building.specs.Written.{AreJudged, IsAnsweredAt, IsOfGroup}
use Rattle.past_building.specs.declared.maker.JudgedWrite.{JudgedWrite}
use Rattle.past_building.proofs.versions.add_group.Goals as goal

pub with-requires : goal.with-requires
with-requires g c = record { above = subst (λ n. All (λ (v : Version). v.revision < n) c.args.grown) (sym c.in_ok-version.ensures.revision) c.requires.above }

pub returns : goal.returns
returns g c =
    let events = c.args.log.events.now in
    let group = c.args.group.now in
    let more = c.in_ok-members.members.items in (
      c.in_ok-version.version,
      more,
      c.in_ok-grown.ensures,
      c.in_ok-append.ensures.items,
      c.in_ok-version.ensures.key,
      c.in_ok-version.ensures.revision,
      c.in_ok-members.ensures.numbers ∙ c.as_slice-numbers.ensures,
      (λ h of further answered. subst (λ l. AreJudged h events l more) c.as_slice-numbers.ensures
          (c.in_ok-members.ensures.judged h group.key group.revision of further c.latest-latest.ensures.latest (subst (All (IsAnsweredAt events group.key group.revision)) (sym c.as_slice-numbers.ensures) answered))),
      (λ h of. c.in_ok-version.ensures.made h (subst (λ (l : List JudgedWrite). IsOfGroup c.args.log (g.B.Bodies.body c.args.bodies.now) group l h) (sym c.deref.ensures.value) of)),
    )
