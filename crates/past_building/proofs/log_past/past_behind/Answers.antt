use Rattle.std.proofs.Common.{sym, ap, ◌∙◌, subst}
use Rattle.history_model.specs.Histories.{History}
use Rattle.write_groups.specs.Modelled.{HasTimes}
use Rattle.past_building.proofs.Counted.{few_removals, few_versions}
use Rattle.past_building.proofs.Growth.{has_slots}
use Rattle.past_building.specs.Found.{HasFound, IsPastOf}
use Rattle.past_building.specs.Hidden.{slots_of}
use Rattle.past_building.specs.Surrounded.{IsJudgedBy}
use Rattle.past_building.specs.declared.log_past.LogPast.{LogPast}
use Rattle.past_building.proofs.log_past.past_behind.Goals as goal

pub returns-clause-start : goal.returns-clause-start
returns-clause-start g c = ap (λ (p : LogPast). p.windows.start) c.joined.ensures ∙ c.requires.timed.begins

pub returns-clause-past : goal.returns-clause-past
returns-clause-past g c =
    let events = c.args.events.now in
    let groups = c.args.timed.groups in
    let body = g.B.Bodies.body c.args.bodies.now in
    let given = c.requires.timed in
    subst (λ (past : LogPast). (h : History) → HasFound c.args.start c.args.snapshot.now events body past h → IsPastOf events past h) (sym c.joined.ensures) (λ h found.
    let timed = given.timed h found.all found.begins found.order found.spans in
    let times : HasTimes c.args.timed.windows h = record { start = found.begins ∙ sym given.begins; spans = found.spans } in
    let slots = has_slots h (slots_of c.args.snapshot.now groups) c.in_ok-ended.ended.written.versions c.in_ok-ended.ensures.slots found.versions in
    let clouds = given.clouds h times found.all slots in
    let judged : IsJudgedBy c.args.timed.clouds body h = record { clouds = clouds; bodies = found.bodies } in
    let ended = c.in_ok-ended.ensures.ended h times found.all found.order timed.0 judged timed.1 found.begins found.listed found.versions found.removals in
    record { order = timed.0; spans = timed.2; clouds = clouds; groups = timed.1; versions = ended.0; judged = ended.1; removals = ended.2 })

pub returns-clause-few_found : goal.returns-clause-few_found
returns-clause-few_found g c =
    let body = g.B.Bodies.body c.args.bodies.now in
    let right = returns-clause-past g c in record {
      versions = few_versions c.args.start c.args.snapshot.now c.args.events.now body c.joined.result right;
      removals = few_removals c.args.start c.args.snapshot.now c.args.events.now body c.joined.result right;
    }
