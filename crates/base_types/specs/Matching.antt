-- How policies and roles compare texts.
use Rattle.std.specs.Prelude.{ℕ, ◌-◌, Bool, List, ◌∷◌, ◌++◌, length, take, nat_eq, bytes_eq, codes, if◌then◌else◌}
use Rattle.std.specs.List.{list_any, starts_with, ends_with}

-- the text is one of the list
abbrev pub has_text : List (List ℕ) → List ℕ → Bool
has_text texts text = list_any (λ item. bytes_eq item text) texts

-- an entry of `nonResourceURLs`: a path, or the front of paths and one `*`
abbrev pub path_matches : List ℕ → List ℕ → Bool
path_matches entry path =
    if ends_with nat_eq entry (codes "*") then starts_with nat_eq path (take (length entry - 1) entry) else bytes_eq entry path

-- RESOURCE/SUBRESOURCE
abbrev pub combined : List ℕ → List ℕ → List ℕ
combined resource subresource = resource ++ (47 ∷ subresource)
