-- A URI's path and its segments (Kubernetes "Request verbs and URIs").
use Rattle.std.specs.Prelude.{ℕ, ◌==◌, Bool, List, [], ◌∷◌, map, reverse, if◌then◌else◌}
use Rattle.std.specs.List.{before_first, after_first, slice_split}
use Rattle.std.specs.Borrow.{Bor}
use Rattle.percent_encoding.specs.Percent.{percent_decode}

abbrev pub is_slash : ℕ → Bool
is_slash b = b == 47

abbrev pub is_question : ℕ → Bool
is_question b = b == 63

-- the URI up to the first `?`, and what stands behind it
abbrev pub raw_path : List ℕ → List ℕ
raw_path uri = before_first is_question uri

abbrev pub raw_query : List ℕ → List ℕ
raw_query uri = after_first is_question uri

-- the path, percent-decoded as a whole
abbrev pub path_of : List ℕ → List ℕ
path_of uri = percent_decode (raw_path uri)

-- without the slashes that it begins with
abbrev pub without_leading : List ℕ → List ℕ
without_leading [] = []
without_leading (b ∷ bs) = if is_slash b then without_leading bs else b ∷ bs

-- without the slashes that it ends with
abbrev pub without_trailing : List ℕ → List ℕ
without_trailing bs = reverse (without_leading (reverse bs))

abbrev pub trimmed : List ℕ → List ℕ
trimmed path = without_trailing (without_leading path)

-- the parts between the slashes; none where nothing is left
abbrev pub split_at_slashes : List ℕ → List (List ℕ)
split_at_slashes [] = []
split_at_slashes (b ∷ bs) = slice_split is_slash (b ∷ bs)

abbrev pub segments_of : List ℕ → List (List ℕ)
segments_of path = split_at_slashes (trimmed path)

-- what a list of borrowed texts shows
abbrev pub texts_of : List (Bor (List ℕ)) → List (List ℕ)
texts_of texts = map (λ text. text.now) texts
