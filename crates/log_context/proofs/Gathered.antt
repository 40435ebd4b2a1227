-- What was answered to each item of a list.
use Rattle.std.proofs.Common.{◌≡◌, List, [], ◌∷◌, Ok, Err, IfOk, All, map, subst, sym}
use Rattle.std.specs.List.{AllZip, Contains}
use Rattle.std.specs.Result.{MatchResult}
use Rattle.std.specs.declared.result.Result.{Result}
use Rattle.history_model.proofs.Members.{all_from}
use Rattle.past_building.proofs.Mapped.{zip_left}

module _ {X Y : Type 0} (E : Type 0) (R : X → Y → Type 0) where
  -- an answer that gives a value gives a right one
  abbrev pub AnswersItem : X → Result Y E → Type 0
  AnswersItem x answer = IfOk answer (R x)

  answered : (xs : List X) (ys : List Y) → AllZip AnswersItem xs (map Ok ys) → AllZip R xs ys
  answered [] [] each = tt
  answered [] (y ∷ ys) each = absurd each
  answered (x ∷ xs) [] each = absurd each
  answered (x ∷ xs) (y ∷ ys) each = (each.0, answered xs ys each.1)

  -- all values, where each answer gave one
  pub all_answered : {V : Type 0} (items : V → List Y) (xs : List X) (answers : List (Result Y E)) (gathered : Result V E) → AllZip AnswersItem xs answers
      → MatchResult gathered (λ v. (ys : List Y) × (answers ≡ map Ok ys) × (items v ≡ ys)) (λ e. Contains answers (Err e)) → IfOk gathered (λ v. AllZip R xs (items v))
  all_answered items xs answers (Ok v) each gave = subst (AllZip R xs) (sym gave.2) (answered xs gave.0 (subst (AllZip AnswersItem xs) gave.1 each))
  all_answered items xs answers (Err e) each gave = tt

-- what each answer says alone holds of all of them
pub all_said : {X Y : Type 0} (P : Y → Type 0) (xs : List X) (ys : List Y) → AllZip (λ x y. P y) xs ys → All P ys
all_said {X} {Y} P xs ys zip = all_from P ys (λ y c. (zip_left (λ (x : X) (z : Y). P z) xs ys y zip c).2)
