use Rattle.std.proofs.Common.{◌≡◌, ℕ, map, take}
use Rattle.std.specs.Prelude.{All}
use Rattle.base_types.specs.declared.kubernetes.key.ObjectKey.{ObjectKey}
use Rattle.history_model.specs.Histories.{History}
use Rattle.past_building.specs.Growing.{IsLatestIn}
use Rattle.past_building.specs.Written.{AreJudged, Extends, IsAnsweredAt, IsOfLog}
use Rattle.past_building.proofs.versions.judge_each.Given as goal

abbrev pub invariant-loop-number : goal.invariant-loop-number
invariant-loop-number g l = (map (λ one. one.number) l.judged.items ≡ take l.number-index l.members)
    × ((h : History) (key : ObjectKey) (revision : ℕ) → IsOfLog l.log (g.B.Bodies.body l.bodies) h → Extends h l.grown revision → IsLatestIn l.grown key l.latest → All (IsAnsweredAt l.log.events.now key revision) l.members
    → AreJudged h l.log.events.now (take l.number-index l.members) l.judged.items)
