-- What an audited request asks for (Kubernetes API concepts, "Resource URIs"; "Authorization", "Request verbs").
use Rattle.std.specs.Prelude.{ℕ, ◌==◌, ◌&&◌, Bool, true, false, not, List, length, Option, Some, None, find, bytes_eq, codes, if◌then◌else◌, nat_le, option_map}
use Rattle.std.specs.List.{list_any}
use Rattle.base_types.specs.declared.kubernetes.request.Level.{Level}
use Rattle.base_types.specs.declared.kubernetes.request.Level.TheVariants.{Metadata, Request, RequestResponse}
use Rattle.base_types.specs.declared.kubernetes.request.Pair.{Pair}
use Rattle.base_types.specs.declared.kubernetes.request.RequestAttrs.{RequestAttrs}
use Rattle.base_types.specs.declared.kubernetes.request.Stage.{Stage}
use Rattle.base_types.specs.declared.kubernetes.request.Stage.TheVariants.{Received, Started, Complete, Panic}
use Rattle.setup_file.specs.Requests.{subresource_named}
use Rattle.setup_file.specs.declared.setup.Subresource.{Subresource}
use Rattle.setup_file.specs.declared.setup.Tracked.{Tracked}
use Rattle.answer_class.specs.declared.request.Verb.{Verb}
use Rattle.answer_class.specs.declared.request.Verb.TheVariants.{Create, Update, Patch, Delete, DeleteCollection, Get, Listing, Other}
use Rattle.answer_class.specs.declared.request.Effect.{Effect}
use Rattle.answer_class.specs.declared.request.Effect.TheVariants.{Own, Same, Nothing, Unknown}

abbrev pub is_empty : {X : Type 0} → List X → Bool
is_empty list = length list == 0

abbrev pub verb_of : List ℕ → Verb
verb_of text =
    if bytes_eq text (codes "create") then Create
    else (if bytes_eq text (codes "update") then Update
    else (if bytes_eq text (codes "patch") then Patch
    else (if bytes_eq text (codes "delete") then Delete
    else (if bytes_eq text (codes "deletecollection") then DeleteCollection
    else (if bytes_eq text (codes "get") then Get
    else (if bytes_eq text (codes "list") then Listing else Other))))))

abbrev pub is_write : Verb → Bool
is_write Create = true
is_write Update = true
is_write Patch = true
is_write Delete = true
is_write DeleteCollection = true
is_write Get = false
is_write Listing = false
is_write Other = false

abbrev pub is_read : Verb → Bool
is_read Create = false
is_read Update = false
is_read Patch = false
is_read Delete = false
is_read DeleteCollection = false
is_read Get = true
is_read Listing = true
is_read Other = false

-- nothing more is written of a request after this stage (Kubernetes "Auditing", stages)
abbrev pub is_completing : Stage → Bool
is_completing Received = false
is_completing Started = false
is_completing Complete = true
is_completing Panic = true

-- the event records the request's body and the answer's
abbrev pub is_full : Level → Bool
is_full Metadata = false
is_full Request = false
is_full RequestResponse = true

-- the request is for another version of the resource than the one that is judged
abbrev pub is_elsewhere : Tracked → RequestAttrs → Bool
is_elsewhere tracked attrs = not (bytes_eq attrs.version tracked.version)

-- what a request for a subresource does to the object
abbrev pub effect_by : Option Subresource → Effect
effect_by None = Unknown
effect_by (Some subresource) = if subresource.same then Same else Nothing

abbrev pub effect_of : Tracked → RequestAttrs → Effect
effect_of tracked attrs =
    if is_empty attrs.subresource then Own else effect_by (subresource_named attrs.subresource tracked)

abbrev pub is_own : Effect → Bool
is_own Own = true
is_own Same = false
is_own Nothing = false
is_own Unknown = false

abbrev pub is_nothing : Effect → Bool
is_nothing Own = false
is_nothing Same = false
is_nothing Nothing = true
is_nothing Unknown = false

abbrev pub is_unknown : Effect → Bool
is_unknown Own = false
is_unknown Same = false
is_unknown Nothing = false
is_unknown Unknown = true

-- the query has a member of this name with a value that isn't empty
abbrev pub is_filled : List ℕ → Pair → Bool
is_filled name p = bytes_eq p.name name && not (is_empty p.value)

abbrev pub has_filled : List ℕ → RequestAttrs → Bool
has_filled name attrs = list_any (is_filled name) attrs.query

-- the first value of this name, as the API server takes it
abbrev pub first_value : List ℕ → RequestAttrs → Option (List ℕ)
first_value name attrs = option_map (λ (p : Pair). p.value) (find (λ (p : Pair). bytes_eq p.name name) attrs.query)

-- the code lies between these two (RFC 9110 section 15)
abbrev pub code_within : ℕ → ℕ → Option ℕ → Bool
code_within low high None = false
code_within low high (Some code) = nat_le low code && nat_le code high

abbrev pub succeeds : Option ℕ → Bool
succeeds code = code_within 200 299 code

abbrev pub is_code : ℕ → Option ℕ → Bool
is_code number code = code_within number number code

-- 200 OK, 201 Created or 202 Accepted
abbrev pub is_done : Option ℕ → Bool
is_done code = code_within 200 202 code

-- whether the write was made can't be told: no code, or an error of the server
abbrev pub is_open : Option ℕ → Bool
is_open None = true
is_open (Some code) = nat_le 500 code
