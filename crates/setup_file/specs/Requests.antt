-- What a request is for, of what the setup tracks (Kubernetes API concepts, "Resource URIs"), and what a patch sends.
use Rattle.std.specs.Prelude.{ℕ, Bool, not, ◌&&◌, List, Option, None, find, bytes_eq, codes, is_some, if◌then◌else◌}
use Rattle.std.specs.List.{list_any}
use Rattle.base_types.specs.Meaning.{Meaning}
use Rattle.base_types.specs.Parts.{members_of}
use Rattle.base_types.specs.Texts.{text_at}
use Rattle.base_types.specs.declared.kubernetes.request.Pair.{Pair}
use Rattle.base_types.specs.declared.kubernetes.request.RequestAttrs.{RequestAttrs}
use Rattle.setup_file.specs.Resources.{tracked_as}
use Rattle.setup_file.specs.declared.setup.Setup.{Setup}
use Rattle.setup_file.specs.declared.setup.Subresource.{Subresource}
use Rattle.setup_file.specs.declared.setup.Tracked.{Tracked}

-- the tracked resource of a request for a resource
abbrev pub tracked_of : Setup → RequestAttrs → Option Tracked
tracked_of setup attrs = if attrs.is_resource then tracked_as setup.resources attrs.group attrs.resource else None

-- the resource's subresource of this name
abbrev pub subresource_named : List ℕ → Tracked → Option Subresource
subresource_named name tracked = find (λ (s : Subresource). bytes_eq s.name name) tracked.subresources

-- the query has a member of this name, the empty value among others
abbrev pub has_query : List ℕ → RequestAttrs → Bool
has_query name attrs = list_any (λ (p : Pair). bytes_eq p.name name) attrs.query

-- a patch's body is an apply configuration (Kubernetes "Server-Side Apply")
abbrev pub is_apply : RequestAttrs → Meaning → Bool
is_apply attrs body = is_some (text_at (codes "apiVersion") body) && is_some (text_at (codes "kind") body) && has_query (codes "fieldManager") attrs

-- a patch's body is a merge patch (RFC 7386, now RFC 7396): an object that is no apply configuration, where
-- the resource's patches that are objects are merge patches
abbrev pub is_merge_patch : Tracked → RequestAttrs → Meaning → Bool
is_merge_patch tracked attrs body = is_some (members_of body) && not (is_apply attrs body) && tracked.merges
