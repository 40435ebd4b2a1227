-- What an audited write is for, and what it sends (Kubernetes API concepts, "Resource URIs"; "Authorization", "Request
-- verbs").
use Rattle.std.specs.Prelude.{ℕ, ◌==◌, Bool, false, not, ◌||◌, List, length, Option, Some, None, bytes_eq, codes, option_map, if◌then◌else◌}
use Rattle.base_types.specs.Meaning.{Meaning}
use Rattle.base_types.specs.declared.kubernetes.request.RequestAttrs.{RequestAttrs}
use Rattle.path_shape.specs.declared.shape.Shape.{Shape}
use Rattle.base_types.specs.Texts.{text_at}
use Rattle.setup_file.specs.Objects.{api_version_of}
use Rattle.setup_file.specs.Requests.{subresource_named}
use Rattle.setup_file.specs.declared.setup.Subresource.{Subresource}
use Rattle.setup_file.specs.declared.setup.Tracked.{Tracked}
use Rattle.request_bodies.specs.declared.requests.Write.{Write}
use Rattle.request_bodies.specs.declared.requests.Write.TheVariants.{Put, Patch, Delete, Other}

-- the shape of what a request writes: that of the resource, or that of the subresource it is for
abbrev pub shape_of : Tracked → RequestAttrs → Option Shape
shape_of tracked attrs =
    if length attrs.subresource == 0 then Some tracked.shape
    else option_map (λ (s : Subresource). s.shape) (subresource_named attrs.subresource tracked)

-- what the body of a write with this verb is
abbrev pub write_of : List ℕ → Write
write_of verb =
    if bytes_eq verb (codes "create") then Put
    else (if bytes_eq verb (codes "update") then Put
    else (if bytes_eq verb (codes "patch") then Patch
    else (if bytes_eq verb (codes "delete") then Delete else Other)))

-- 201 Created (RFC 9110 section 15.3.2)
abbrev pub is_created : Option ℕ → Bool
is_created None = false
is_created (Some code) = code == 201

-- the text is there, and is another one
abbrev pub is_another : List ℕ → Option (List ℕ) → Bool
is_another text None = false
is_another text (Some found) = not (bytes_eq found text)

-- the body names another version or kind than those of the resource
abbrev pub is_of_another : Tracked → Meaning → Bool
is_of_another tracked body =
    is_another (api_version_of tracked.group tracked.version) (text_at (codes "apiVersion") body) || is_another tracked.kind (text_at (codes "kind") body)
