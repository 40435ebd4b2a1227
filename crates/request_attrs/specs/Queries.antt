-- A URI's query (URL Standard section 5, `application/x-www-form-urlencoded`), and the name that a field selector
-- gives (Kubernetes "Field selectors").
use Rattle.std.specs.Prelude.{ℕ, ◌==◌, Bool, List, [], ◌∷◌, map, drop, Option, Some, None, option_and_then, unwrap_or, find, nat_eq, bytes_eq, codes, if◌then◌else◌}
use Rattle.std.specs.List.{slice_split, starts_with, filter_map}
use Rattle.std.specs.Str.Lossy.{utf8_lossy}
use Rattle.form_urlencoded.specs.Form.{raw_pairs, decode}
use Rattle.base_types.specs.declared.kubernetes.request.Pair.{Pair}

-- bytes that are no UTF-8 become U+FFFD
abbrev pub pair_of : List ℕ × List ℕ → Pair
pair_of raw = record { name = utf8_lossy (decode raw.0); value = utf8_lossy (decode raw.1) }

abbrev pub pairs_of : List ℕ → List Pair
pairs_of query = map pair_of (raw_pairs query)

-- the name X of a term `metadata.name==X` or `metadata.name=X`
abbrev pub term_name : List ℕ → Option (List ℕ)
term_name term =
    if starts_with nat_eq term (codes "metadata.name==") then Some (drop 15 term)
    else (if starts_with nat_eq term (codes "metadata.name=") then Some (drop 14 term) else None)

abbrev pub first_of : List (List ℕ) → Option (List ℕ)
first_of [] = None
first_of (x ∷ xs) = Some x

abbrev pub is_comma : ℕ → Bool
is_comma b = b == 44

-- the name in the first of a selector's terms that gives one
abbrev pub name_in : List ℕ → Option (List ℕ)
name_in selector = first_of (filter_map term_name (slice_split is_comma selector))

abbrev pub is_field_selector : Pair → Bool
is_field_selector pair = bytes_eq pair.name (codes "fieldSelector")

-- the name that the query's first field selector gives, empty where it gives none
abbrev pub selected_name : List Pair → List ℕ
selected_name query = unwrap_or (option_and_then (λ pair. name_in pair.value) (find is_field_selector query)) []
