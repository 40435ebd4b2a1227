-- The entries of a shape, read one after another.
use Rattle.std.proofs.Common.{◌≡◌, ℕ, ◌+◌, ◌<◌, List, [], ◌∷◌, ◌++◌, length, get_or, drop, Some, Result, Ok, Err, refl, sym, ap, ◌∙◌, suc, add-one, drop-cons, append_assoc}
use Rattle.base_types.specs.Meaning.{Meaning}
use Rattle.path_shape.specs.declared.shape.ShapeEntry.{ShapeEntry}
use Rattle.path_shape.specs.Reading.{entry_of, entries_from, then_entries}

-- the entries that were read, before what comes of the others
abbrev pub behind : List ShapeEntry → Result (List ShapeEntry) ℕ → Result (List ShapeEntry) ℕ
behind entries (Ok rest) = Ok (entries ++ rest)
behind entries (Err index) = Err index

one_more : (index : ℕ) (entries : List ShapeEntry) (entry : ShapeEntry) (rest : Result (List ShapeEntry) ℕ) → behind entries (then_entries index (Some entry) rest) ≡ behind (entries ++ (entry ∷ [])) rest
one_more index entries entry (Ok rest) = ap Ok (sym (append_assoc entries (entry ∷ []) rest))
one_more index entries entry (Err broken) = refl

-- one more entry in its form
pub entries_step : (trees : List Meaning) (i : ℕ) (entries : List ShapeEntry) (entry : ShapeEntry) (tree : Meaning) → i < length trees → tree ≡ get_or trees i tree → entry_of tree ≡ Some entry
    → behind entries (entries_from i (drop i trees)) ≡ behind (entries ++ (entry ∷ [])) (entries_from (i + 1) (drop (i + 1) trees))
entries_step trees i entries entry tree within at read =
    let cut : drop i trees ≡ tree ∷ drop (i + 1) trees = rw (add-one, drop-cons trees i tree) (ap (λ x. x ∷ drop (suc i) trees) (sym at)) in
    ap (λ l. behind entries (entries_from i l)) cut
    ∙ ap (λ found. behind entries (then_entries i found (entries_from (i + 1) (drop (i + 1) trees)))) read
    ∙ one_more i entries entry (entries_from (i + 1) (drop (i + 1) trees))
