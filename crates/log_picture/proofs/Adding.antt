-- Each event is of one kind, so that the counts of the kinds add up to all.
use Rattle.std.proofs.Common.{◌≡◌, ◌+◌, List, [], ◌∷◌, refl, arith}
use Rattle.std.specs.Prelude.{count_by, sum_by, cond}
use Rattle.std.proofs.lemmas.List.Sums.{sum_by-cons}
use Rattle.log_picture.specs.Counts.{KindsAddUp}
use Rattle.log_picture.specs.Kinds.{is_of, kind_of, kinds}
use Rattle.log_picture.specs.contracts.kind.AnswerKindPartialEq.TheImpl as same
use Rattle.log_picture.specs.declared.kind.AnswerKind.{AnswerKind}
use Rattle.log_picture.specs.declared.kind.AnswerKind.TheVariants as kind
use Rattle.write_groups.specs.declared.event.LogEvent.{LogEvent}

one_of : (known : AnswerKind) → sum_by (λ other. cond ((same.ghosts).eq known other) 1 0) kinds ≡ 1
unfolding kinds
one_of kind.Created = refl
one_of kind.Changed = refl
one_of kind.Removed = refl
one_of kind.Unrecorded = refl
one_of kind.Saw = refl
one_of kind.NotFound = refl
one_of kind.AlreadyExists = refl
one_of kind.Conflict = refl
one_of kind.Listed = refl
one_of kind.Free = refl
one_of kind.Aside = refl

of_one : (event : LogEvent) → sum_by (λ other. cond (is_of other event) 1 0) kinds ≡ 1
of_one event = one_of (kind_of event.answer)

of_none : sum_by (λ other. count_by (is_of other) []) kinds ≡ 0
unfolding kinds
of_none = refl

with_one : (event : LogEvent) (log : List LogEvent) (all : List AnswerKind)
    → sum_by (λ other. count_by (is_of other) (event ∷ log)) all ≡ sum_by (λ other. cond (is_of other event) 1 0) all + sum_by (λ other. count_by (is_of other) log) all
with_one event log [] = refl
with_one event log (first ∷ others) =
    let whole = sum_by-cons (λ other. count_by (is_of other) (event ∷ log)) first others in
    let one = sum_by-cons (λ other. cond (is_of other event) 1 0) first others in
    let rest = sum_by-cons (λ other. count_by (is_of other) log) first others in
    let first_one = sum_by-cons (λ x. cond (is_of first x) 1 0) event log in
    let next = with_one event log others in
    omega (arith, whole, one, rest, first_one, next)

pub add_up : KindsAddUp
add_up [] = of_none
add_up (event ∷ log) = let more = with_one event log kinds in let one = of_one event in let rest = add_up log in omega (arith, more, one, rest)
