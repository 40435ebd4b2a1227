use Rattle.rbac_timeline.proofs.search.Asked.bar.Goals as goal

pub returns-in-Plain-clause-until : goal.returns-in-Plain-clause-until
returns-in-Plain-clause-until c = rw c.in-Plain.is c.granted_until.ensures

pub returns-in-Cluster-clause-until : goal.returns-in-Cluster-clause-until
returns-in-Cluster-clause-until c = rw c.in-Cluster.is c.cluster_role_bar.ensures.until
