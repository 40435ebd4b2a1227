use Rattle.std.proofs.Common.{ℕ, take}
use Rattle.std.specs.List.{Any}
use Rattle.rbac_timeline.specs.Found.{AreFirst}
use Rattle.rbac_timeline.specs.Kept.{MayGrantByListed}
use Rattle.rbac_timeline.specs.Searched.{IsFirstPair}
use Rattle.rbac_timeline.proofs.search.Asked.keys_pair.Given as goal

-- the first of the keys so far
abbrev pub invariant-loop-key : goal.invariant-loop-key
invariant-loop-key l = IsFirstPair (λ (r b : ℕ). Any (λ key. MayGrantByListed l.self.timeline.now l.fn.way r b l.self.who.now l.self.attrs.now key) (take l.key-index l.keys)) l.self.low l.self.high l.best
    × AreFirst l.self.timeline.now l.self.attrs.now l.self.low l.self.high l.firsts
