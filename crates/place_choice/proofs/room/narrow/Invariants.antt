use Rattle.std.proofs.Common.{take}
use Rattle.base_types.specs.Choices.{HavePlaces}
use Rattle.place_choice.specs.Room.{Narrows}
use Rattle.place_choice.proofs.room.narrow.Given as goal

-- the ranges have just the choices that meet the bounds so far, and none became empty
abbrev pub invariant-loop-bound : goal.invariant-loop-bound
invariant-loop-bound l = Narrows l.initial.ranges l.ranges (take l.bound-index l.bounds) × (HavePlaces l.initial.ranges → HavePlaces l.ranges)
