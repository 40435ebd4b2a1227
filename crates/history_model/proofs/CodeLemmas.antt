-- An event that is right has no code, and codes are told apart by their numbers.
use Rattle.std.proofs.Common.{◌≡◌, ℕ, zero, suc, ◌≤◌, List, inl, inr, refl, sym, ap, ◌∙◌, subst, arith, true≢false}
use Rattle.base_types.specs.Choices.{IsChoice}
use Rattle.base_types.specs.Reasons.{code_number}
use Rattle.base_types.specs.declared.verdict.claim.Reason.{Reason}
use Rattle.base_types.specs.declared.verdict.claim.Reason.TheVariants.{U1, U2, U3, U4, U5, U6, U7, U8, U9, U10, U11, U12, U13, U14}
use Rattle.base_types.specs.declared.verdict.placed.Places.{Places}
use Rattle.history_model.specs.Codes.{HasCode, level, stage, stray, making, removal, found, answer, decision}
use Rattle.history_model.specs.Decisions.{IsDecidedAt}
use Rattle.history_model.specs.Events.{Event, Made}
use Rattle.history_model.specs.Histories.{History, ranges}
use Rattle.history_model.specs.Local.{IsFixedBy, IsRightUnder}
use Rattle.history_model.specs.Right.{IsRight, IsRightAnswer}
use Rattle.history_model.specs.States.{state}
use Rattle.history_model.specs.Windows.{InWindow}
use Rattle.history_model.specs.Words.{Word, Makes, Removes, Strays, word}

abbrev code_of : ℕ → Reason
code_of zero = U1
code_of (suc zero) = U1
code_of (suc (suc zero)) = U2
code_of (suc (suc (suc zero))) = U3
code_of (suc (suc (suc (suc zero)))) = U4
code_of (suc (suc (suc (suc (suc zero))))) = U5
code_of (suc (suc (suc (suc (suc (suc zero)))))) = U6
code_of (suc (suc (suc (suc (suc (suc (suc zero))))))) = U7
code_of (suc (suc (suc (suc (suc (suc (suc (suc zero)))))))) = U8
code_of (suc (suc (suc (suc (suc (suc (suc (suc (suc zero))))))))) = U9
code_of (suc (suc (suc (suc (suc (suc (suc (suc (suc (suc zero)))))))))) = U10
code_of (suc (suc (suc (suc (suc (suc (suc (suc (suc (suc (suc zero))))))))))) = U11
code_of (suc (suc (suc (suc (suc (suc (suc (suc (suc (suc (suc (suc zero)))))))))))) = U12
code_of (suc (suc (suc (suc (suc (suc (suc (suc (suc (suc (suc (suc (suc zero))))))))))))) = U13
code_of (suc (suc (suc (suc (suc (suc (suc (suc (suc (suc (suc (suc (suc (suc n)))))))))))))) = U14

code_back : (c : Reason) → code_of (code_number c) ≡ c
code_back U1 = refl
code_back U2 = refl
code_back U3 = refl
code_back U4 = refl
code_back U5 = refl
code_back U6 = refl
code_back U7 = refl
code_back U8 = refl
code_back U9 = refl
code_back U10 = refl
code_back U11 = refl
code_back U12 = refl
code_back U13 = refl
code_back U14 = refl

pub same_code : (a b : Reason) → code_number a ≤ code_number b → code_number b ≤ code_number a → a ≡ b
same_code a b l m = sym (code_back a) ∙ ap code_of (omega (arith, l, m)) ∙ code_back b

by_word : (h : History) (number : ℕ) (event : Event) (w : Word) → IsFixedBy h event (word h number event) → word h number event ≡ w → IsFixedBy h event w
by_word h number event w f e = subst (λ z. IsFixedBy h event z) e f

pub right_no_code : (h : History) (choice : List ℕ) (number : ℕ) (event : Event) (code : Reason) → IsChoice (ranges h) choice → IsRightUnder h choice number event → HasCode h number event code → ⊥
right_no_code h choice number event code chosen r (level c t) = true≢false (sym t ∙ r.fixed.level)
right_no_code h choice number event code chosen r (stage c t) = true≢false (sym t ∙ r.fixed.stage)
right_no_code h choice number event code chosen r (stray c w) = by_word h number event Strays r.fixed.by_word w
right_no_code h choice number event code chosen r (making m before w e f) = by_word h number event (Makes m) r.fixed.by_word w before e code f
right_no_code h choice number event code chosen r (removal removed c w n) = n (by_word h number event (Removes removed) r.fixed.by_word w)
right_no_code h choice number event code chosen r (found item created w a clear f) = go (r.answer w)
  where
    go : (place : ℕ) × InWindow h event place × IsRight h number event place (state h choice place) → ⊥
    go (place, inside, right) = at (subst (λ z. IsRightAnswer h number event place (state h choice place) z) a right)
      where
        at : IsRightAnswer h number event place (state h choice place) (Made item created) → ⊥
        at (inl cloud) = clear (place, inside.0, inside.1, cloud)
        at (inr w) = w.1 code f
right_no_code h choice number event code chosen r (answer c w never) = never choice chosen r.answer
right_no_code h choice number event code chosen r (decision d c e none) = go (r.fixed.decision d e)
  where
    go : (places : Places) × IsDecidedAt h number event places → ⊥
    go (places, p) = none places p
