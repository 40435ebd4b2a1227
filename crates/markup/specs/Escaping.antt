-- How a text of the input stands in a page, and that none of it is read as markup.
use Rattle.std.specs.Prelude.{◌≡◌, refl, ℕ, Bool, true, ◌==◌, ◌&&◌, ◌||◌, not, nat_eq, nat_lt, List, [], ◌∷◌, Option, Some, None, codes, is_none, unwrap_or, if◌then◌else◌}
use Rattle.std.specs.List.{flat_map, list_any, starts_with}

-- ASCII's control characters, but tab and newline
abbrev pub is_control : ℕ → Bool
is_control b = (nat_lt b 32 && not (b == 9) && not (b == 10)) || (b == 127)

-- what is written in place of a byte that can't stand for itself: HTML's character references
abbrev pub reference_of : ℕ → Option (List ℕ)
reference_of b =
    if b == 38 then Some (codes "&amp;")
    else if b == 60 then Some (codes "&lt;")
    else if b == 62 then Some (codes "&gt;")
    else if b == 34 then Some (codes "&quot;")
    else if b == 39 then Some (codes "&#39;")
    else if is_control b then Some (codes "&#xFFFD;")
    else None

abbrev pub escaped_byte : ℕ → List ℕ
escaped_byte b = unwrap_or (reference_of b) (b ∷ [])

-- a text as the text of an element or the value of an attribute in quotes
unfoldable pub escaped : List ℕ → List ℕ
escaped text = flat_map escaped_byte text

abbrev pub references : List (List ℕ)
references = codes "&amp;" ∷ codes "&lt;" ∷ codes "&gt;" ∷ codes "&quot;" ∷ codes "&#39;" ∷ codes "&#xFFFD;" ∷ []

abbrev pub begins_reference : List ℕ → Bool
begins_reference text = list_any (starts_with nat_eq text) references

-- the first byte stands for itself, or it is a `&` that begins a reference
abbrev pub is_passed : ℕ → List ℕ → Bool
is_passed b rest = if b == 38 then begins_reference (b ∷ rest) else is_none (reference_of b)

-- So is each byte: no `<`, `>`, `"` or `'` is among them.
abbrev pub is_inert : List ℕ → Bool
is_inert [] = true
is_inert (b ∷ rest) = is_passed b rest && is_inert rest

abbrev pub IsInert : List ℕ → Type 0
IsInert text = is_inert text ≡ true

no_markup_left : escaped (codes "</svg><script>") ≡ codes "&lt;/svg&gt;&lt;script&gt;"
unfolding escaped
no_markup_left = refl

no_way_out_of_an_attribute : escaped (codes "\" onload='a&b'") ≡ codes "&quot; onload=&#39;a&amp;b&#39;"
unfolding escaped
no_way_out_of_an_attribute = refl
