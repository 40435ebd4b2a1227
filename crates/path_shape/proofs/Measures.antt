-- What the walk has left to do: tokens of patterns, not nodes of trees.
use Rattle.std.proofs.Common.{◌≡◌, ℕ, ◌+◌, ◌*◌, ◌≤◌, Bool, true, false, List, [], ◌∷◌, length, refl, arith}
use Rattle.std.specs.Prelude.{if◌then◌else◌}
use Rattle.std.proofs.lemmas.Bool.{false≢true}
use Rattle.path_shape.specs.declared.shape.FieldClass.{FieldClass}
use Rattle.path_shape.specs.Patterns.{covers}
use Rattle.path_shape.specs.Walk.{Going, is_any, goes_on, narrow}

abbrev pub weight : List Going → ℕ
weight [] = 0
weight (p ∷ ps) = 8 * length p.1.0 + 8 + weight ps

abbrev pub top : List Going → ℕ
top [] = 8
top (p ∷ ps) = weight (p ∷ ps)

pub top-weight : (ps : List Going) → is_any ps ≡ true → top ps ≡ weight ps
top-weight [] any = absurd (false≢true any)
top-weight (p ∷ ps) any = refl

goes_on-weight : (m : Bool) (tokens : List (List ℕ)) (class : FieldClass) (rest : List Going)
    → weight (if m then goes_on tokens class rest else rest) ≤ 8 * length tokens + weight rest
goes_on-weight true [] class rest = omega arith
goes_on-weight true (token ∷ tokens) class rest = omega arith
goes_on-weight false tokens class rest = omega arith

narrow-weight : (name : List ℕ) (ps : List Going) → weight (narrow name ps) ≤ weight ps
narrow-weight name [] = omega arith
narrow-weight name (p ∷ ps) = omega (arith, narrow-weight name ps, goes_on-weight (covers p.0 name) p.1.0 p.1.1 (narrow name ps))

pub narrow-top : (name : List ℕ) (ps : List Going) → weight (narrow name ps) + 8 ≤ top ps
narrow-top name [] = omega arith
narrow-top name (p ∷ ps) = omega (arith, narrow-weight name ps, goes_on-weight (covers p.0 name) p.1.0 p.1.1 (narrow name ps))
