use Rattle.std.proofs.Common.{◌≡◌, ℕ, ◌⊎◌, take}
use Rattle.std.specs.List.{Any}
use Rattle.clouds.specs.Clouds.{IsClouded}
use Rattle.clouds.specs.FirstPlace.{IsFirstPlace}
use Rattle.rbac_timeline.specs.Extents.{MayGrantByRole}
use Rattle.rbac_timeline.specs.Known.{writes_of}
use Rattle.rbac_timeline.proofs.search.Asked.first_role.Given as goal

-- the first of those at the first place, where it is clouded, and where the versions so far begin
abbrev pub invariant-loop-stored : goal.invariant-loop-stored
invariant-loop-stored l = IsFirstPlace
    (λ (n : ℕ). (((n ≡ l.self.low) × MayGrantByRole l.self.timeline.now l.role n l.self.attrs.now) ⊎ IsClouded (writes_of l.self.timeline.now) l.role n)
    ⊎ Any (λ s. (n ≡ s.revision) × MayGrantByRole l.self.timeline.now l.role n l.self.attrs.now) (take l.stored-index l.stored-items))
    l.self.low l.self.high l.first
