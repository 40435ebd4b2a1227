use Rattle.rbac_timeline.specs.declared.way.Way.TheVariants.{ClusterBindings, ClusterRoles, Roles}
use Rattle.rbac_timeline.specs.Searched.{AreFirstOf, MayGrantBy}
use Rattle.rbac_timeline.proofs.Comparing.{AreFirstOf-lesser_places, OneOf}
use Rattle.rbac_timeline.proofs.Firsts.{by_cluster_bindings, by_cluster_roles, by_roles}
use Rattle.rbac_timeline.proofs.search.Asked.first_allowed.Goals as goal

pub returns : goal.returns
returns c =
    let s = c.args.self.now in
    let by = MayGrantBy s.timeline.now s.who.now s.attrs.now in
    let roles : AreFirstOf (by Roles) s.low s.high c.with_roles-by_roles.result =
    rw (c.with_roles-by_roles.ensures, c.lowest-lowest.ensures) (by_roles s.timeline.now s.who.now s.attrs.now s.low s.high c.requires c.first_pair.result c.first_pair.ensures) in
    let cluster_roles : AreFirstOf (by ClusterRoles) s.low s.high c.with_cluster_roles-by_cluster_roles.result =
    rw (c.with_cluster_roles-by_cluster_roles.ensures, c.lowest-lowest.ensures)
    (by_cluster_roles s.timeline.now s.who.now s.attrs.now s.low s.high c.requires c.first_pair-2.result c.first_pair-2.ensures) in
    let cluster_bindings : AreFirstOf (by ClusterBindings) s.low s.high c.with_cluster_bindings-by_cluster_bindings.result =
    rw (c.with_cluster_bindings-by_cluster_bindings.ensures, c.lowest-lowest.ensures)
    (by_cluster_bindings s.timeline.now s.who.now s.attrs.now s.low s.high c.requires c.first_pair-3.result c.first_pair-3.ensures) in
    rw (c.lesser_places-2.ensures, c.lesser_places.ensures)
    (AreFirstOf-lesser_places (by Roles) (OneOf (by ClusterRoles) (by ClusterBindings) s.low s.high) s.low s.high _ _ roles
    (AreFirstOf-lesser_places (by ClusterRoles) (by ClusterBindings) s.low s.high _ _ cluster_roles cluster_bindings))
