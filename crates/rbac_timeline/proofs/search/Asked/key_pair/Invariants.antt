use Rattle.std.proofs.Common.{◌≡◌, ℕ, ◌⊎◌, take}
use Rattle.std.specs.List.{Any}
use Rattle.clouds.specs.Clouds.{IsClouded}
use Rattle.rbac_timeline.specs.Found.{AreFirst}
use Rattle.rbac_timeline.specs.Kept.{MayGrantByListed}
use Rattle.rbac_timeline.specs.Known.{writes_of}
use Rattle.rbac_timeline.specs.Searched.{IsFirstPair}
use Rattle.rbac_timeline.proofs.search.Asked.key_pair.Given as goal

-- the first of those at the first place, where it is clouded, and where the versions so far begin
abbrev pub invariant-loop-stored : goal.invariant-loop-stored
invariant-loop-stored l = IsFirstPair
    (λ (r b : ℕ). (((b ≡ l.self.low) × MayGrantByListed l.self.timeline.now l.fn.way r b l.self.who.now l.self.attrs.now l.key)
    ⊎ (IsClouded (writes_of l.self.timeline.now) l.key b × MayGrantByListed l.self.timeline.now l.fn.way r b l.self.who.now l.self.attrs.now l.key))
    ⊎ Any (λ s. (b ≡ s.revision) × MayGrantByListed l.self.timeline.now l.fn.way r b l.self.who.now l.self.attrs.now l.key) (take l.stored-index l.stored-items))
    l.self.low l.self.high l.best
    × AreFirst l.self.timeline.now l.self.attrs.now l.self.low l.self.high l.firsts
