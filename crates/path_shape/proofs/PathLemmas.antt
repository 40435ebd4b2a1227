-- Agreement at every path, one token at a time.
use Rattle.std.proofs.Common.{◌≡◌, ℕ, ◌⊎◌, inl, inr, Bool, true, false, IsTrue, IsSome, List, [], ◌∷◌, ◌++◌, map, Option, Some, None, refl, sym, subst, ◌∙◌, rules}
use Rattle.std.specs.Prelude.{unwrap_or, ◌↔◌}
use Rattle.std.proofs.lemmas.Bool.{false≢true}
use Rattle.base_types.specs.Meaning.{Meaning}
use Rattle.path_shape.specs.declared.shape.FieldClass.{FieldClass}
use Rattle.path_shape.specs.declared.shape.FieldClass.TheVariants.{Asked, Defaulted, Owned, Kept}
use Rattle.path_shape.specs.declared.part.Part.{Part}
use Rattle.path_shape.specs.declared.part.Part.TheVariants.{Absent, Member, Item}
use Rattle.path_shape.specs.declared.spot.Spot.{Spot}
use Rattle.path_shape.specs.Forms.{child_in, at}
use Rattle.path_shape.specs.Patterns.{Pattern, class_at, is_open}
use Rattle.path_shape.specs.Agreement.{FitsClosed, FitsOpen, FitsHere, FitsAt, Fits}
use Rattle.path_shape.specs.Walk.{form, whole, Going, pattern_from, patterns_in, is_any, narrow, ending, FitsSpot, FitsUnder, IsDone}
use Rattle.path_shape.proofs.FormLemmas.{left_none, child_none}
use Rattle.path_shape.proofs.ClassLemmas.{class_at-down, is_open-down, class_at-root, class_at-one, any_open}

module _ (class : FieldClass) (ps : List Going) (had : Bool) (o a r : Option Meaning) where
  abbrev Under : List ℕ → Type 0
  Under name = Fits (class_at class (map pattern_from ps) (name ∷ [])) (map pattern_from (narrow name ps)) had (child_in name o) (child_in name a) (child_in name r)

  abbrev Here : List ℕ → List (List ℕ) → Bool × FieldClass → Type 0
  Here name path z = FitsHere z.0 z.1 had (at path (child_in name o)) (at path (child_in name a)) (at path (child_in name r))

  one_down : (name : List ℕ) (path : List (List ℕ))
      → ◌≡◌ {A = Bool × FieldClass} (is_open (map pattern_from ps) (name ∷ path), class_at class (map pattern_from ps) (name ∷ path))
      (is_open (map pattern_from (narrow name ps)) path, class_at (class_at class (map pattern_from ps) (name ∷ [])) (map pattern_from (narrow name ps)) path)
  one_down name path = λ i. (is_open-down name path ps i, class_at-down class name path ps i)

  at_down : (name : List ℕ) (path : List (List ℕ)) → FitsAt class (map pattern_from ps) had o a r (name ∷ path)
      → FitsAt (class_at class (map pattern_from ps) (name ∷ [])) (map pattern_from (narrow name ps)) had (child_in name o) (child_in name a) (child_in name r) path
  at_down name path h = subst (Here name path) (one_down name path) h

  at_up : (name : List ℕ) (path : List (List ℕ))
      → FitsAt (class_at class (map pattern_from ps) (name ∷ [])) (map pattern_from (narrow name ps)) had (child_in name o) (child_in name a) (child_in name r) path
      → FitsAt class (map pattern_from ps) had o a r (name ∷ path)
  at_up name path h = subst (Here name path) (sym (one_down name path)) h

  pub Fits-under : is_open (map pattern_from ps) [] ≡ true → Fits class (map pattern_from ps) had o a r → (name : List ℕ) → Under name
  Fits-under past h name = record {
    here = at_down name [] (h.below [] name past);
    below = λ path token past'. at_down name (path ++ token ∷ []) (h.below (name ∷ path) token (is_open-down name path ps ∙ past'));
  }

  pub Fits-open : is_open (map pattern_from ps) [] ≡ true → Fits class (map pattern_from ps) had o a r → FitsOpen class had o a r
  Fits-open past h =
      subst (λ k. FitsOpen k had o a r) (class_at-root class ps) (subst (λ b. FitsHere b (class_at class (map pattern_from ps) []) had o a r) past h.here)

  pub Fits-up : is_open (map pattern_from ps) [] ≡ true → FitsOpen class had o a r → ((name : List ℕ) → Under name) → Fits class (map pattern_from ps) had o a r
  Fits-up past h under = record {
    here = subst (λ b. FitsHere b (class_at class (map pattern_from ps) []) had o a r) (sym past) (subst (λ k. FitsOpen k had o a r) (sym (class_at-root class ps)) h);
    below = deeper;
  }
    where
      deeper : (path : List (List ℕ)) (token : List ℕ) → IsTrue (is_open (map pattern_from ps) path) → FitsAt class (map pattern_from ps) had o a r (path ++ token ∷ [])
      deeper [] token past' = at_up token [] (under token).here
      deeper (name ∷ path) token past' = at_up name (path ++ token ∷ []) ((under name).below path token (sym (is_open-down name path ps) ∙ past'))

at_none : (path : List (List ℕ)) → at path None ≡ None
at_none [] = refl
at_none (name ∷ path) = at_none path

none_here : (past had : Bool) (class : FieldClass) → FitsHere past class had None None None
none_here true had Asked = refl
none_here true had Defaulted = tt
none_here true had Owned = tt
none_here true had Kept = λ _. refl
none_here false had Asked = refl
none_here false had Defaulted = tt
none_here false had Owned = tt
none_here false had Kept = λ _. refl

none_at : (class : FieldClass) (patterns : List Pattern) (had : Bool) (path : List (List ℕ)) → FitsAt class patterns had None None None path
none_at class patterns had path =
    subst (λ t. FitsHere (is_open patterns path) (class_at class patterns path) had t t t) (sym (at_none path)) (none_here (is_open patterns path) had (class_at class patterns path))

-- where all three are absent every class fits
pub Fits-none : (class : FieldClass) (patterns : List Pattern) (had : Bool) → Fits class patterns had None None None
Fits-none class patterns had = record { here = none_at class patterns had []; below = λ path token _. none_at class patterns had (path ++ token ∷ []) }

absent_form : (part : Part) (name : List ℕ) → child_in name (whole part) ≡ None → child_in name (form part) ≡ None
absent_form Absent name none = refl
absent_form (Member t) name none = left_none name t.now none
absent_form (Item t) name none = child_none name t.now none

some_or_none : (o : Option Meaning) → IsSome o ⊎ (o ≡ None)
some_or_none None = inr refl
some_or_none (Some t) = inl (search rules)

abbrev pub Fields3 : Type 0
Fields3 = Option Meaning × Option Meaning × Option Meaning

module _ (class : FieldClass) (ps : List Going) (spot : Spot) where
  every_name : ((name : List ℕ) → IsSome (child_in name (whole spot.old)) → IsDone Absent Absent class ps spot name)
      → ((name : List ℕ) → IsSome (child_in name (whole spot.asked)) → IsDone spot.old Absent class ps spot name)
      → ((name : List ℕ) → IsSome (child_in name (whole spot.answered)) → IsDone spot.old spot.asked class ps spot name)
      → (name : List ℕ) → FitsUnder class ps spot name
  every_name first second third name = of_old (some_or_none (child_in name (whole spot.old))) (some_or_none (child_in name (whole spot.asked))) (some_or_none (child_in name (whole spot.answered)))
    where
      by_old : IsSome (child_in name (whole spot.old)) → FitsUnder class ps spot name
      by_old some = elim (first name some) [ inl h ↦ absurd (no_child h) | inr h ↦ elim h [ inl h ↦ absurd (no_child h) | inr h ↦ h ] ]
        where
          no_child : IsSome (child_in name (whole Absent)) → ⊥
          no_child h = search rules

      by_asked : IsSome (child_in name (whole spot.asked)) → FitsUnder class ps spot name
      by_asked some = elim (second name some) [ inl h ↦ by_old h | inr h ↦ elim h [ inl h ↦ absurd (no_child h) | inr h ↦ h ] ]
        where
          no_child : IsSome (child_in name (whole Absent)) → ⊥
          no_child h = search rules

      by_answered : IsSome (child_in name (whole spot.answered)) → FitsUnder class ps spot name
      by_answered some = elim (third name some) [ inl h ↦ by_old h | inr h ↦ elim h [ inl h ↦ by_asked h | inr h ↦ h ] ]

      of_old : IsSome (child_in name (whole spot.old)) ⊎ (child_in name (whole spot.old) ≡ None) → IsSome (child_in name (whole spot.asked)) ⊎ (child_in name (whole spot.asked) ≡ None)
          → IsSome (child_in name (whole spot.answered)) ⊎ (child_in name (whole spot.answered) ≡ None) → FitsUnder class ps spot name
      of_old (inl some) a r = by_old some
      of_old (inr none) (inl some) r = by_asked some
      of_old (inr none) (inr none') (inl some) = by_answered some
      of_old (inr none) (inr none') (inr none'') =
          let three : ◌≡◌ {A = Fields3} (None, None, None) (child_in name (form spot.old), child_in name (form spot.asked), child_in name (form spot.answered)) =
          λ i. (sym (absent_form spot.old name none) i, sym (absent_form spot.asked name none') i, sym (absent_form spot.answered name none'') i) in
          let P : Fields3 → Type 0 = λ z. Fits (class_at class (patterns_in ps) (name ∷ [])) (patterns_in (narrow name ps)) spot.had z.0 z.1 z.2 in
          subst P three (Fits-none (class_at class (patterns_in ps) (name ∷ [])) (patterns_in (narrow name ps)) spot.had)

  pub fits_all : is_any ps ≡ true → FitsOpen class spot.had (form spot.old) (form spot.asked) (form spot.answered)
      → ((name : List ℕ) → IsSome (child_in name (whole spot.old)) → IsDone Absent Absent class ps spot name)
      → ((name : List ℕ) → IsSome (child_in name (whole spot.asked)) → IsDone spot.old Absent class ps spot name)
      → ((name : List ℕ) → IsSome (child_in name (whole spot.answered)) → IsDone spot.old spot.asked class ps spot name)
      → FitsSpot class (patterns_in ps) spot
  fits_all any here first second third =
      Fits-up class ps spot.had (form spot.old) (form spot.asked) (form spot.answered) (any_open ps any) here (every_name first second third)

  pub fits_open_part : is_any ps ≡ true → FitsSpot class (patterns_in ps) spot → FitsOpen class spot.had (form spot.old) (form spot.asked) (form spot.answered)
  fits_open_part any h = Fits-open class ps spot.had (form spot.old) (form spot.asked) (form spot.answered) (any_open ps any) h

  pub fits_child : is_any ps ≡ true → FitsSpot class (patterns_in ps) spot → (name : List ℕ) → FitsUnder class ps spot name
  fits_child any h = Fits-under class ps spot.had (form spot.old) (form spot.asked) (form spot.answered) (any_open ps any) h

-- where no pattern goes past a spot, the spot alone decides
pub fits_none_past : (class : FieldClass) (ps : List Going) (spot : Spot) → ps ≡ []
    → (FitsClosed class spot.had (form spot.old) (form spot.asked) (form spot.answered)) ↔ FitsSpot class (patterns_in ps) spot
fits_none_past class ps spot none = (
  λ h. subst (λ l. FitsSpot class (patterns_in l) spot) (sym none) (record { here = h; below = λ path token past. absurd (false≢true past) }),
  λ f. (subst (λ l. FitsSpot class (patterns_in l) spot) none f).here,
)

abbrev Six : Type 0
Six = FieldClass × List Pattern × Bool × Option Meaning × Option Meaning × Option Meaning

abbrev FitsSix : Six → Type 0
FitsSix z = Fits z.0 z.1 z.2 z.3 z.4 z.5

-- what the walk answers of a child
module _ (class under : FieldClass) (ps below : List Going) (spot child : Spot) (name : List ℕ)
    (found : under ≡ unwrap_or (ending name ps) class) (narrowed : below ≡ narrow name ps) (had : child.had ≡ spot.had)
    (old : form child.old ≡ child_in name (form spot.old)) (asked : form child.asked ≡ child_in name (form spot.asked)) (answered : form child.answered ≡ child_in name (form spot.answered)) where
  same_six : ◌≡◌ {A = Six} (under, patterns_in below, child.had, form child.old, form child.asked, form child.answered)
      (class_at class (patterns_in ps) (name ∷ []), patterns_in (narrow name ps), spot.had, child_in name (form spot.old), child_in name (form spot.asked), child_in name (form spot.answered))
  same_six = λ i. ((found ∙ sym (class_at-one class name ps)) i, patterns_in (narrowed i), had i, old i, asked i, answered i)

  pub to_under : FitsSpot under (patterns_in below) child → FitsUnder class ps spot name
  to_under h = subst FitsSix same_six h

  pub from_under : FitsUnder class ps spot name → FitsSpot under (patterns_in below) child
  from_under h = subst FitsSix (sym same_six) h
