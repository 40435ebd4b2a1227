-- The user names of service accounts.
use Rattle.std.proofs.Common.{◌≡◌, ◌≢◌, ℕ, Bool, false, List, [], ◌∷◌, ◌++◌, Decides, sym, ap, ◌∙◌, bytes_eq}
use Rattle.std.proofs.lemmas.Slice.Eq.{bytes_eq-Decides}
use Rattle.rbac_rules.specs.Matching.{IsJoined}

same_behind : (front xs ys : List ℕ) → front ++ xs ≡ front ++ ys → xs ≡ ys
same_behind [] xs ys e = e
same_behind (b ∷ front) xs ys e = same_behind front xs ys (cc)

-- a text that begins with the namespace, and how it goes on
pub joined_by_rest : (text namespace name rest : List ℕ) (r : Bool) → text ≡ namespace ++ rest → Decides r (rest ≡ 58 ∷ name) → Decides r (IsJoined text namespace name)
joined_by_rest text namespace name rest r begins told = (
  λ is. begins ∙ ap (λ l. namespace ++ l) (told.0 is),
  λ e. told.1 (same_behind namespace rest (58 ∷ name) (sym begins ∙ e)),
)

-- what is behind the colon is the name
pub told_behind : (rest behind name : List ℕ) (r : Bool) → rest ≡ 58 ∷ behind → r ≡ bytes_eq behind name → Decides r (rest ≡ 58 ∷ name)
told_behind rest behind name r e same = (
  λ is. e ∙ ap (λ l. 58 ∷ l) ((bytes_eq-Decides behind name).0 (sym same ∙ is)),
  λ is. same ∙ (bytes_eq-Decides behind name).1 (same_behind (58 ∷ []) behind name (sym e ∙ is)),
)

pub told_none : (rest name : List ℕ) → ((behind : List ℕ) → rest ≢ 58 ∷ behind) → Decides false (rest ≡ 58 ∷ name)
told_none rest name none = (λ e. absurd (cc), λ e. absurd (none name e))
