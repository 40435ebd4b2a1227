use Rattle.std.proofs.Common.{◌-◌, ℕ}
use Rattle.rbac_timeline.specs.Searched.{IsFreeCluster}
use Rattle.rbac_timeline.proofs.Throughout.{AreBarred}
use Rattle.rbac_timeline.proofs.search.Asked.first_free_cluster_binding.Given as goal

-- they grant for certain at all places below this one, with the cluster roles up to `last`
abbrev pub invariant-places : goal.invariant-places
invariant-places l = AreBarred (λ (c b : ℕ). IsFreeCluster l.self.timeline.now l.self.who.now l.self.attrs.now c b → ⊥) l.cluster_roles l.self.low l.self.high l.place l.last

abbrev pub decreases-places : goal.decreases-places
decreases-places l = l.self.high - l.place
