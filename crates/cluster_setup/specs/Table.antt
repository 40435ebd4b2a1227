-- What is known of common resources: how their patches are sent, and what the server fills in.
use Rattle.std.specs.Prelude.{ℕ, List, [], bytes_eq, codes, if◌then◌else◌}
use Rattle.cluster_setup.specs.declared.table.Form.{Form}
use Rattle.cluster_setup.specs.declared.table.Form.TheVariants.{Merged, Plain, Bound, Pods, Usual}

abbrev pub core_form : List ℕ → Form
core_form resource =
    if bytes_eq resource (codes "configmaps") then Merged
    else (if bytes_eq resource (codes "secrets") then Plain
    else (if bytes_eq resource (codes "serviceaccounts") then Plain
    else (if bytes_eq resource (codes "endpoints") then Plain
    else (if bytes_eq resource (codes "events") then Plain
    else (if bytes_eq resource (codes "pods") then Pods else Usual)))))

abbrev pub rbac_form : List ℕ → Form
rbac_form resource =
    if bytes_eq resource (codes "roles") then Plain
    else (if bytes_eq resource (codes "clusterroles") then Plain
    else (if bytes_eq resource (codes "rolebindings") then Bound
    else (if bytes_eq resource (codes "clusterrolebindings") then Bound else Usual)))

abbrev pub lease_form : List ℕ → Form
lease_form resource = if bytes_eq resource (codes "leases") then Merged else Usual

abbrev pub event_form : List ℕ → Form
event_form resource = if bytes_eq resource (codes "events") then Plain else Usual

abbrev pub form_of : List ℕ → List ℕ → Form
form_of group resource =
    if bytes_eq group [] then core_form resource
    else (if bytes_eq group (codes "rbac.authorization.k8s.io") then rbac_form resource
    else (if bytes_eq group (codes "coordination.k8s.io") then lease_form resource
    else (if bytes_eq group (codes "events.k8s.io") then event_form resource else Usual)))

-- what an entry says of patches that are objects
abbrev pub patch_of : Form → List ℕ
patch_of Merged = codes "merge"
patch_of Plain = codes "recorded"
patch_of Bound = codes "recorded"
patch_of Pods = codes "recorded"
patch_of Usual = codes "recorded"
