-- The target location of an operation (RFC 6902 section 3), and a document that is changed there.
use Rattle.std.specs.Prelude.{ℕ, Bool, true, false, ◌&&◌, List, [], ◌∷◌, option_map, unwrap_or, set, bytes_eq}
use Rattle.base_types.specs.Edits.{put}
use Rattle.base_types.specs.Meaning.{Meaning, null, flag, whole, words, items, members, kids_of, kids_list}
use Rattle.base_types.specs.Pointers.{index_of, child_of}

-- the pointer to the parent, and the last token, of a pointer with these tokens
abbrev pub parent_of : List ℕ → List (List ℕ) → List (List ℕ)
parent_of first [] = []
parent_of first (next ∷ rest) = first ∷ parent_of next rest

abbrev pub last_of : List ℕ → List (List ℕ) → List ℕ
last_of first [] = first
last_of first (next ∷ rest) = last_of next rest

-- whether one pointer begins another, longer one
abbrev pub is_proper_prefix : List (List ℕ) → List (List ℕ) → Bool
is_proper_prefix [] [] = false
is_proper_prefix [] (token ∷ rest) = true
is_proper_prefix (start ∷ from) [] = false
is_proper_prefix (start ∷ from) (token ∷ rest) = bytes_eq start token && is_proper_prefix from rest

-- a container whose value at a token, which is there, is replaced
abbrev pub with_child : List ℕ → Meaning → Meaning → Meaning
with_child token v null = null
with_child token v (flag b) = flag b
with_child token v (whole z) = whole z
with_child token v (words s) = words s
with_child token v (items ts) = unwrap_or (option_map (λ n. items (kids_of (set (kids_list ts) n v))) (index_of token)) (items ts)
with_child token v (members ms) = members (put token v ms)

-- the document whose value at a pointer, which is there, is replaced
abbrev pub put_at : List (List ℕ) → Meaning → Meaning → Meaning
put_at [] v t = v
put_at (token ∷ rest) v t = unwrap_or (option_map (λ child. with_child token (put_at rest v child) t) (child_of token t)) t
