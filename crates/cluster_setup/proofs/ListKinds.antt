-- Kinds of lists, told by the part that `strip_prefix` finds.
use Rattle.std.proofs.Common.{◌≡◌, ◌≢◌, ℕ, List, [], ◌∷◌, ◌++◌, false, sym, ap, ◌∙◌, bytes_eq}
use Rattle.std.proofs.lemmas.Bool.{false_from_ne_true}
use Rattle.std.proofs.lemmas.Bool.Decides.{same_from_decides}
use Rattle.std.proofs.lemmas.Slice.Eq.{bytes_eq-Decides}

same_behind : (front xs ys : List ℕ) → front ++ xs ≡ front ++ ys → xs ≡ ys
same_behind [] xs ys e = e
same_behind (b ∷ front) xs ys e = same_behind front xs ys (cc)

-- a kind that begins with the other, and how it goes on
pub told_by_rest : (kind rest behind list_kind : List ℕ) → list_kind ≡ kind ++ rest → bytes_eq rest behind ≡ bytes_eq list_kind (kind ++ behind)
told_by_rest kind rest behind list_kind begins =
    same_from_decides (bytes_eq rest behind) (bytes_eq list_kind (kind ++ behind))
    (λ same. begins ∙ ap (λ l. kind ++ l) ((bytes_eq-Decides rest behind).0 same), λ e. (bytes_eq-Decides rest behind).1 (same_behind kind rest behind (sym begins ∙ e)))
    (bytes_eq-Decides list_kind (kind ++ behind))

pub begins_otherwise : (kind behind list_kind : List ℕ) → ((rest : List ℕ) → list_kind ≢ kind ++ rest) → bytes_eq list_kind (kind ++ behind) ≡ false
begins_otherwise kind behind list_kind none = false_from_ne_true _ (λ e. none behind ((bytes_eq-Decides list_kind (kind ++ behind)).0 e))
