-- The bounds of all that is asked.
use Rattle.std.proofs.Common.{◌≡◌, ◌≢◌, ℕ, ◌+◌, ◌<◌, List, [], ◌∷◌, ◌++◌, length, get_or, take, refl, sym, ap, ◌∙◌, subst}
use Rattle.std.proofs.lemmas.List.{take_more}
use Rattle.std.proofs.lemmas.List.Elements.{All-push}
use Rattle.base_types.specs.declared.verdict.claim.Bound.{Bound}
use Rattle.local_bounds.specs.declared.asking.KeyDemand.{KeyDemand}
use Rattle.local_bounds.specs.declared.asking.KeyDemand.TheVariants.{Free, Under, Never}
use Rattle.local_bounds.specs.Demands.{bounds_in, IsPossible}

bounds_push : (askings : List KeyDemand) (asking : KeyDemand) → bounds_in (askings ++ asking ∷ []) ≡ bounds_in askings ++ bounds_in (asking ∷ [])
bounds_push [] asking = refl
bounds_push (Free ∷ askings) asking = bounds_push askings asking
bounds_push (Under bound ∷ askings) asking = ap (λ bounds. bound ∷ bounds) (bounds_push askings asking)
bounds_push (Never ∷ askings) asking = bounds_push askings asking

-- one more that isn't impossible
pub bounds_more : (askings : List KeyDemand) (i : ℕ) (asking d : KeyDemand) (before after : List Bound) → i < length askings → get_or askings i d ≡ asking → asking ≢ Never
    → IsPossible (take i askings) × (before ≡ bounds_in (take i askings)) → after ≡ before ++ bounds_in (asking ∷ [])
    → IsPossible (take (i + 1) askings) × (after ≡ bounds_in (take (i + 1) askings))
bounds_more askings i asking d before after within at possible (p, b) e =
    let more : take (i + 1) askings ≡ take i askings ++ asking ∷ [] = take_more askings i d within ∙ ap (λ a. take i askings ++ a ∷ []) at in (
      subst IsPossible (sym more) (All-push (λ a. a ≢ Never) (take i askings) asking p possible),
      e ∙ ap (λ bounds. bounds ++ bounds_in (asking ∷ [])) b ∙ sym (bounds_push (take i askings) asking) ∙ ap bounds_in (sym more),
    )
