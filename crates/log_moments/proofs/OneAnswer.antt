-- A log has one strict answer.
use Rattle.std.proofs.Common.{◌≡◌, ℕ, ◌<◌, ◌≤ℤ◌, ⊎_elim, List, [], ◌∷◌, AllPairs, Any, refl, sym, ap, ap₂, ◌∙◌, subst, arith}
use Rattle.std.specs.List.{AllZip}
use Rattle.std.proofs.lemmas.Int.{ints}
use Rattle.base_types.specs.declared.kubernetes.revision.Moment.{Moment}
use Rattle.history_model.proofs.Members.{all_at, apart}
use Rattle.history_model.proofs.SameSorted.{same_sorted}
use Rattle.history_model.specs.Histories.{History}
use Rattle.log_moments.specs.Answers.{IsAnswerFor, IsStrictAnswer, lines_of}
use Rattle.log_moments.specs.Things.{AreThings}
use Rattle.log_moments.specs.declared.answer.StrictAnswer.{StrictAnswer}
use Rattle.log_moments.specs.declared.answer.StrictAnswer.TheVariants.{Strict, Crossed}
use Rattle.strict_order.specs.Moments.{IsFirstCrossing}
use Rattle.strict_order.specs.Printed.{IsPrinted}
use Rattle.strict_order.specs.Things.{ComesBefore, Crosses, IsJudgedNoLater}
use Rattle.strict_order.specs.declared.thing.Thing.{Thing}

-- a log has one list of things
pub one_list : (h : History) (a b : List Thing) → AreThings h a → AreThings h b → a ≡ b
one_list h a b x y = same_sorted (λ (s t : Thing). s.line < t.line) a b (λ s t _ _ up down. omega (arith, up, down)) x.rising y.rising
    (λ t among. (y.exact t).1 ((x.exact t).0 among)) (λ t among. (x.exact t).1 ((y.exact t).0 among))

-- no moment that a thing can be printed with is later than another
printed_upto : (things : List Thing) (t : Thing) (m n : Moment) → IsPrinted things t m → IsPrinted things t n → m.0 ≤ℤ n.0
printed_upto things t m n x y = ⊎_elim
    (λ own. subst (λ (k : Moment). k.0 ≤ℤ n.0) (sym own) y.own)
    (λ any. subst (λ (k : Moment). k.0 ≤ℤ n.0) (sym any.4.1) (all_at (λ a. ComesBefore a t → a.lo.0 ≤ℤ n.0) things any.1 y.others (any.0, any.2, any.3) any.4.0))
    x.reached

printed_once : (things : List Thing) (t : Thing) (m n : Moment) → IsPrinted things t m → IsPrinted things t n → m ≡ n
printed_once things t m n x y =
    let up = printed_upto things t m n x y in
    let down = printed_upto things t n m y x in
    let same : m.0 ≡ n.0 = omega (arith, ints, up, down) in
    λ i. record { 0 = same i }

moments_once : (all things : List Thing) (a b : List Moment) → AllZip (IsPrinted all) things a → AllZip (IsPrinted all) things b → a ≡ b
moments_once all [] [] [] x y = refl
moments_once all [] [] (n ∷ b) x y = absurd y
moments_once all [] (m ∷ a) b x y = absurd x
moments_once all (t ∷ things) [] b x y = absurd x
moments_once all (t ∷ things) (m ∷ a) [] x y = absurd y
moments_once all (t ∷ things) (m ∷ a) (n ∷ b) x y = ap₂ (λ k l. k ∷ l) (printed_once all t m n x.0 y.0) (moments_once all things a b x.1 y.1)

-- of two things each of which isn't judged after the other, the lines are one
same_line : (a b : Thing) → IsJudgedNoLater a b → IsJudgedNoLater b a → a.line ≡ b.line
same_line a b up down = ⊎_elim
    (λ before. ⊎_elim (λ after. absurd (omega (arith, ints))) (λ tie. let same = tie.0 in absurd (omega (arith, ints))) down)
    (λ same. let at = same.0 in ⊎_elim (λ after. absurd (omega (arith, ints))) (λ tie. omega (arith, same.1, tie.1)) down)
    up

module _ (things : List Thing) (rising : AllPairs (λ (a b : Thing). a.line < b.line) things) where
  crossing_once : (a b c d : ℕ) → IsFirstCrossing things a b → IsFirstCrossing things c d → (a ≡ c) × (b ≡ d)
  crossing_once a b c d x y =
      let crosses_b : Any (λ s. Crosses s x.b) things = (x.a_stands.0, x.a, x.a_stands.1, x.a_stands.2, x.crosses) in
      let crosses_d : Any (λ s. Crosses s y.b) things = (y.a_stands.0, y.a, y.a_stands.1, y.a_stands.2, y.crosses) in
      let seconds : x.b.line ≡ y.b.line = same_line x.b y.b
      (all_at (λ t. Any (λ s. Crosses s t) things → IsJudgedNoLater x.b t) things y.b x.b_first y.b_stands crosses_d)
      (all_at (λ t. Any (λ s. Crosses s t) things → IsJudgedNoLater y.b t) things x.b y.b_first x.b_stands crosses_b) in
      let one : x.b ≡ y.b = apart (λ (t : Thing). t.line) things x.b y.b rising x.b_stands y.b_stands seconds in
      let firsts : x.a.line ≡ y.a.line = same_line x.a y.a
      (all_at (λ s. Crosses s x.b → IsJudgedNoLater x.a s) things y.a x.a_first y.a_stands (subst (Crosses y.a) (sym one) y.crosses))
      (all_at (λ s. Crosses s y.b → IsJudgedNoLater y.a s) things x.a y.a_first x.a_stands (subst (Crosses x.a) one x.crosses)) in
      (x.a_line ∙ firsts ∙ sym y.a_line, x.b_line ∙ seconds ∙ sym y.b_line)

  answer_once : (a b : StrictAnswer) → IsAnswerFor things a → IsAnswerFor things b → a ≡ b
  answer_once (Strict l) (Strict m) x y = ap Strict (x.3 ∙ ap (lines_of things) (moments_once things things x.0 y.0 x.2 y.2) ∙ sym y.3)
  answer_once (Strict l) (Crossed c d) x y = absurd (y.0 (x.0, x.1))
  answer_once (Crossed a b) (Strict m) x y = absurd (x.0 (y.0, y.1))
  answer_once (Crossed a b) (Crossed c d) x y = let same = crossing_once a b c d x.1 y.1 in ap₂ Crossed same.0 same.1

pub one_strict_answer : (h : History) (a b : StrictAnswer) → IsStrictAnswer h a → IsStrictAnswer h b → a ≡ b
one_strict_answer h a b x y =
    let one = one_list h x.things y.things x.are y.are in
    answer_once y.things y.are.rising a b (subst (λ l. IsAnswerFor l a) one x.answered) y.answered
