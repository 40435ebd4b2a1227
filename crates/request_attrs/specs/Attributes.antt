-- The attributes of a request (Kubernetes "Authorization", "Review your request attributes").
use Rattle.std.specs.Prelude.{ℕ, Bool, true, false, ◌&&◌, ◌||◌, ◌==◌, List, [], length, Option, Some, None, option_map, bytes_eq, codes, if◌then◌else◌}
use Rattle.base_types.specs.declared.kubernetes.request.Pair.{Pair}
use Rattle.base_types.specs.declared.kubernetes.request.RequestAttrs.{RequestAttrs}
use Rattle.request_attrs.specs.Paths.{path_of, raw_query, segments_of}
use Rattle.request_attrs.specs.Queries.{pairs_of, selected_name}
use Rattle.request_attrs.specs.Requests.{ResourceRequest, resource_request}

abbrev pub lists : List ℕ → Bool
lists verb = bytes_eq verb (codes "list") || bytes_eq verb (codes "watch")

-- a list or watch that has no name in its path takes that of its field selector
abbrev pub name_of : List ℕ → List ℕ → List Pair → List ℕ
name_of verb name query = if lists verb && (length name == 0) then selected_name query else name

abbrev pub named : List ℕ → List Pair → ResourceRequest → ResourceRequest
named verb query request = record request { name = name_of verb request.name query }

abbrev pub attributes_with : List ℕ → List ℕ → List Pair → Option ResourceRequest → RequestAttrs
attributes_with verb path query None = record {
  verb = verb;
  path = path;
  is_resource = false;
  group = [];
  version = [];
  resource = [];
  subresource = [];
  namespace = [];
  name = [];
  query = query;
}
attributes_with verb path query (Some request) = record {
  verb = verb;
  path = path;
  is_resource = true;
  group = request.group;
  version = request.version;
  resource = request.resource;
  subresource = request.subresource;
  namespace = request.namespace;
  name = request.name;
  query = query;
}

abbrev pub attributes : List ℕ → List ℕ → RequestAttrs
attributes verb uri =
    let query = pairs_of (raw_query uri) in
    let request = option_map (named verb query) (resource_request (segments_of (path_of uri))) in
    attributes_with verb (path_of uri) query request
