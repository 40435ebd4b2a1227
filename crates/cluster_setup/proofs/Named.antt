-- The name at a place.
use Rattle.std.proofs.Common.{◌≡◌, ℕ, ◌<◌, ◌≤◌, List, [], length, get_or, refl, sym, ap, ◌∙◌}
use Rattle.std.specs.Prelude.{map, option_map, unwrap_or}
use Rattle.std.specs.List.{slice_get}
use Rattle.std.proofs.lemmas.Option.{slice_get-map, slice_get_read, slice_get_past}

pub name_found : {A : Type 0} (bytes : A → List ℕ) (names : List A) (i : ℕ) (name : A)
    → i < length names → name ≡ get_or names i name → bytes name ≡ unwrap_or (slice_get (map bytes names) i) []
name_found bytes names i name within is =
    ap (λ n. unwrap_or n []) (ap (option_map bytes) (sym (slice_get_read names (length names) i name refl within is)) ∙ sym (slice_get-map bytes names i))

pub name_missed : {A : Type 0} (bytes : A → List ℕ) (names : List A) (i : ℕ) → length names ≤ i → [] ≡ unwrap_or (slice_get (map bytes names) i) []
name_missed bytes names i past = ap (λ n. unwrap_or n []) (ap (option_map bytes) (sym (slice_get_past names i past)) ∙ sym (slice_get-map bytes names i))
