-- The tests of the classes are what the classes want.
use Rattle.std.proofs.Common.{◌≡◌, ℕ, Bool, true, false, not, ◌||◌, IsTrue, List, Option, Some, None, refl, ap}
use Rattle.std.specs.Bool.{Decides}
use Rattle.std.proofs.lemmas.Bool.{false≢true}
use Rattle.std.proofs.lemmas.Bool.Decides.{Decides-like}
use Rattle.base_types.specs.Meaning.{Meaning}
use Rattle.base_types.specs.Same.{same, same-Decides}
use Rattle.path_shape.specs.declared.shape.FieldClass.{FieldClass}
use Rattle.path_shape.specs.declared.shape.FieldClass.TheVariants.{Asked, Defaulted, Owned, Kept}
use Rattle.path_shape.specs.Agreement.{kind_of, kind, Holds, HasKind, FitsClosed, FitsOpen, FitsHere, FitsAt}
use Rattle.path_shape.specs.Forms.{at}
use Rattle.path_shape.specs.Patterns.{Pattern, class_at, is_open}
use Rattle.request_bodies.specs.Agreeing.{is_same_part, holds, has_kind, fits_closed, fits_open, fits_here, fits_at}

same_part-Decides : (t u : Option Meaning) → Decides (is_same_part t u) (t ≡ u)
same_part-Decides None None = (λ _. refl, λ _. refl)
same_part-Decides None (Some u) = (λ f. absurd (false≢true f), λ e. absurd (cc))
same_part-Decides (Some t) None = (λ f. absurd (false≢true f), λ e. absurd (cc))
same_part-Decides (Some t) (Some u) = Decides-like _ (λ e. ap Some e) (λ e. cc) (same-Decides t u)

holds-Decides : (answered asked : Option Meaning) → Decides (holds answered asked) (Holds answered asked)
holds-Decides None None = (λ _. tt, λ _. refl)
holds-Decides (Some t) None = (λ _. tt, λ _. refl)
holds-Decides None (Some u) = (λ f. absurd (false≢true f), λ e. absurd e)
holds-Decides (Some t) (Some u) = (λ e. e, λ e. e)

has_kind-Decides : (answered asked : Option Meaning) → Decides (has_kind answered asked) (HasKind answered asked)
has_kind-Decides answered None = (λ _. tt, λ _. refl)
has_kind-Decides answered (Some u) = same-Decides (kind_of u) (kind answered)

-- what is wanted only where there is an old object
had-Decides : (P : Type 0) (had : Bool) (r : Bool) → Decides r P → Decides (not had || r) (IsTrue had → P)
had-Decides P true r d = (λ e _. d.0 e, λ h. d.1 (h refl))
had-Decides P false r d = (λ _ f. absurd (false≢true f), λ _. refl)

closed-Decides : (class : FieldClass) (had : Bool) (o a r : Option Meaning) → Decides (fits_closed class had o a r) (FitsClosed class had o a r)
closed-Decides Asked had o a r = same_part-Decides a r
closed-Decides Owned had o a r = (λ _. tt, λ _. refl)
closed-Decides Kept had o a r = had-Decides (o ≡ r) had (is_same_part o r) (same_part-Decides o r)
closed-Decides Defaulted had o a r = holds-Decides r a

open-Decides : (class : FieldClass) (had : Bool) (o a r : Option Meaning) → Decides (fits_open class had o a r) (FitsOpen class had o a r)
open-Decides Asked had o a r = same-Decides (kind a) (kind r)
open-Decides Owned had o a r = (λ _. tt, λ _. refl)
open-Decides Kept had o a r = had-Decides (kind o ≡ kind r) had (same (kind o) (kind r)) (same-Decides (kind o) (kind r))
open-Decides Defaulted had o a r = has_kind-Decides r a

here-Decides : (is_open : Bool) (class : FieldClass) (had : Bool) (o a r : Option Meaning) → Decides (fits_here is_open class had o a r) (FitsHere is_open class had o a r)
here-Decides true class had o a r = open-Decides class had o a r
here-Decides false class had o a r = closed-Decides class had o a r

pub fits_at-Decides : (root : FieldClass) (patterns : List Pattern) (had : Bool) (o a r : Option Meaning) (path : List (List ℕ))
    → Decides (fits_at root patterns had o a r path) (FitsAt root patterns had o a r path)
fits_at-Decides root patterns had o a r path = here-Decides (is_open patterns path) (class_at root patterns path) had (at path o) (at path a) (at path r)

-- where there is nothing, every class fits
pub nothing_fits : (is_open : Bool) (class : FieldClass) (had : Bool) → FitsHere is_open class had None None None
nothing_fits true Asked had = refl
nothing_fits true Owned had = tt
nothing_fits true Kept had = λ _. refl
nothing_fits true Defaulted had = tt
nothing_fits false Asked had = refl
nothing_fits false Owned had = tt
nothing_fits false Kept had = λ _. refl
nothing_fits false Defaulted had = tt
