-- The parts of a resource request, read from the segments of its path step by step (Kubernetes "Request verbs and
-- URIs"; the API server's request info).
use Rattle.std.specs.Prelude.{ℕ, Bool, not, ◌&&◌, ◌||◌, List, [], ◌∷◌, Option, Some, None, option_map, unwrap_or, slice_get, bytes_eq, codes, if◌then◌else◌}

-- the group and the version of a path under `/api` or `/apis`, and the segments behind them, of which there is one
pub record ApiPath : Type 0 where
  pub group : List ℕ
  pub version : List ℕ
  pub rest : List (List ℕ)

abbrev pub in_group : List ℕ → List (List ℕ) → Option ApiPath
in_group group [] = None
in_group group (version ∷ []) = None
in_group group (version ∷ next ∷ more) = Some (record { group = group; version = version; rest = next ∷ more })

abbrev pub in_named_group : List (List ℕ) → Option ApiPath
in_named_group [] = None
in_named_group (group ∷ rest) = in_group group rest

-- `api` VERSION .. is of the core group, whose name is empty; `apis` GROUP VERSION .. is of that group
abbrev pub api_path : List (List ℕ) → Option ApiPath
api_path [] = None
api_path (root ∷ rest) =
    if bytes_eq root (codes "api") then in_group [] rest
    else (if bytes_eq root (codes "apis") then in_named_group rest else None)

-- a first segment `watch` is dropped where another one follows
abbrev pub without_watch : List (List ℕ) → List (List ℕ)
without_watch [] = []
without_watch (first ∷ []) = first ∷ []
without_watch (first ∷ second ∷ rest) = if bytes_eq first (codes "watch") then second ∷ rest else first ∷ second ∷ rest

-- `namespaces` NAMESPACE ..
abbrev pub namespace_of : List (List ℕ) → List ℕ
namespace_of [] = []
namespace_of (first ∷ []) = []
namespace_of (first ∷ second ∷ rest) = if bytes_eq first (codes "namespaces") then second else []

-- the subresources of a namespace itself
abbrev pub is_of_namespace : List ℕ → Bool
is_of_namespace segment = bytes_eq segment (codes "status") || bytes_eq segment (codes "finalize")

-- `namespaces` NAMESPACE before a resource is dropped; where nothing follows, or a subresource of the namespace, the
-- namespace is the resource
abbrev pub without_namespace : List (List ℕ) → List (List ℕ)
without_namespace [] = []
without_namespace (first ∷ []) = first ∷ []
without_namespace (first ∷ second ∷ []) = first ∷ second ∷ []
without_namespace (first ∷ second ∷ third ∷ rest) =
    if bytes_eq first (codes "namespaces") && not (is_of_namespace third) then third ∷ rest else first ∷ second ∷ third ∷ rest

-- the segment at a position, empty where there is none
abbrev pub segment_at : ℕ → List (List ℕ) → List ℕ
segment_at n segments = unwrap_or (slice_get segments n) []

pub record ResourceRequest : Type 0 where
  pub group : List ℕ
  pub version : List ℕ
  pub namespace : List ℕ
  pub resource : List ℕ
  pub name : List ℕ
  pub subresource : List ℕ

abbrev pub request_in : ApiPath → ResourceRequest
request_in path =
    let rest = without_watch path.rest in
    let words = without_namespace rest in
    record {
      group = path.group;
      version = path.version;
      namespace = namespace_of rest;
      resource = segment_at 0 words;
      name = segment_at 1 words;
      subresource = segment_at 2 words;
    }

-- none for a non-resource request
abbrev pub resource_request : List (List ℕ) → Option ResourceRequest
resource_request segments = option_map request_in (api_path segments)
