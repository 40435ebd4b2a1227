-- The least fault of a write.
use Rattle.std.proofs.Common.{◌≡◌, ◌≤◌, Bool, true, false, Option, Some, None, refl, sym, ap, ◌∙◌, arith, true≢false}
use Rattle.std.specs.Prelude.{◌↔◌, IsTrue, IsSome}
use Rattle.base_types.specs.declared.verdict.claim.Reason.{Reason}
use Rattle.base_types.specs.declared.verdict.claim.Reason.TheVariants.{U3, U4, U5, U6, U7, U8}
use Rattle.base_types.specs.Reasons.{code_number}
use Rattle.history_model.specs.Groups.{Making}
use Rattle.history_model.specs.Histories.{History, Version}
use Rattle.history_model.specs.Making.{AreMet, MeetsConditions, tree_of, IsClear, IsUsedUid, IsOtherObject, HasFault, outside, present, used, replaced, unmet, unasked, IsLeastFault, HasFoundFault, creates, excludes, changes}
use Rattle.past_building.proofs.Mapped.{no_true}
use Rattle.object_past.specs.Faulted.{IsLeastFoundFault}
use Rattle.past_building.specs.Faults.{asked_code, object_code, IsOutside}

-- a fault by its code
fault_cases : (h : History) (m : Making) (before : Option Version) (code : Reason) (P : Type 0) → HasFault h m before code
    → (code ≡ U3 → IsOutside h m → P)
    → (code ≡ U4 → IsClear h m → m.created ≡ true → IsSome before → P)
    → (code ≡ U5 → m.created ≡ true → IsUsedUid h m → P)
    → (code ≡ U6 → IsClear h m → m.created ≡ false → IsOtherObject m before → P)
    → (code ≡ U7 → IsClear h m → (MeetsConditions m.event.conditions before → ⊥) → P)
    → (code ≡ U8 → IsClear h m → h.body m.number (tree_of before) ≡ false → P)
    → P
fault_cases h m before code P (outside is out) a b c d e f = a is out
fault_cases h m before code P (present is clear made there) a b c d e f = b is clear made there
fault_cases h m before code P (used is made had) a b c d e f = c is made had
fault_cases h m before code P (replaced is clear made differs) a b c d e f = d is clear made differs
fault_cases h m before code P (unmet is clear not_met) a b c d e f = e is clear not_met
fault_cases h m before code P (unasked is clear wrong) a b c d e f = f is clear wrong

-- outside its moments a write has the least fault of all
pub outside_least : (h : History) (m : Making) (before : Option Version) → IsOutside h m → IsLeastFault h m before (Some U3)
outside_least h m before out = (
  outside refl out,
  λ other fault. fault_cases h m before other (3 ≤ code_number other) fault
      (λ is out. omega (arith, ap code_number is))
      (λ is clear made there. omega (arith, ap code_number is))
      (λ is made had. omega (arith, ap code_number is))
      (λ is clear made differs. omega (arith, ap code_number is))
      (λ is clear not_met. omega (arith, ap code_number is))
      (λ is clear wrong. omega (arith, ap code_number is)),
)

-- where the key is clouded, only a uid that was used is a fault
pub clouded_used : (h : History) (m : Making) (before : Option Version) → (IsOutside h m → ⊥) → (IsClear h m → ⊥) → m.created ≡ true → IsUsedUid h m
    → IsLeastFault h m before (Some U5)
clouded_used h m before inside cloudy made had = (
  used refl made had,
  λ other fault. fault_cases h m before other (5 ≤ code_number other) fault
      (λ is out. absurd (inside out))
      (λ is clear made there. absurd (cloudy clear))
      (λ is made had. omega (arith, ap code_number is))
      (λ is clear made differs. absurd (cloudy clear))
      (λ is clear not_met. absurd (cloudy clear))
      (λ is clear wrong. absurd (cloudy clear)),
)

pub clouded_none : (h : History) (m : Making) (before : Option Version) → (IsOutside h m → ⊥) → (IsClear h m → ⊥) → (m.created ≡ true → IsUsedUid h m → ⊥)
    → IsLeastFault h m before None
clouded_none h m before inside cloudy unused = λ code fault. fault_cases h m before code ⊥ fault
    (λ is out. inside out)
    (λ is clear made there. cloudy clear)
    (λ is made had. unused made had)
    (λ is clear made differs. cloudy clear)
    (λ is clear not_met. cloudy clear)
    (λ is clear wrong. cloudy clear)

-- what tests tell of a write whose key isn't clouded and which can have happened at its revision
pub record AreTold (h : History) (m : Making) (before : Option Version) (created used' present' other met right : Bool) : Type 0 where
  pub inside : IsOutside h m → ⊥
  pub clear : IsClear h m
  pub made : m.created ≡ created
  pub had : created ≡ true → IsTrue used' ↔ IsUsedUid h m
  pub there : IsTrue present' ↔ IsSome before
  pub differs : IsTrue other ↔ IsOtherObject m before
  pub meets : IsTrue met ↔ MeetsConditions m.event.conditions before
  pub asked : h.body m.number (tree_of before) ≡ right

pub clear_least : (h : History) (m : Making) (before : Option Version) (created used' present' other met right : Bool)
    → AreTold h m before created used' present' other met right → IsLeastFault h m before (object_code created used' present' other (asked_code met right))
clear_least h m before true used' true other met right t = (
  present refl t.clear t.made (t.there.0 refl),
  λ code fault. fault_cases h m before code (4 ≤ code_number code) fault
      (λ is out. absurd (t.inside out))
      (λ is clear made there. omega (arith, ap code_number is))
      (λ is made had. omega (arith, ap code_number is))
      (λ is clear made differs. omega (arith, ap code_number is))
      (λ is clear not_met. omega (arith, ap code_number is))
      (λ is clear wrong. omega (arith, ap code_number is)),
)
clear_least h m before true true false other met right t = (
  used refl t.made ((t.had refl).0 refl),
  λ code fault. fault_cases h m before code (5 ≤ code_number code) fault
      (λ is out. absurd (t.inside out))
      (λ is clear made there. absurd (no_true (t.there.1 there)))
      (λ is made had. omega (arith, ap code_number is))
      (λ is clear made differs. omega (arith, ap code_number is))
      (λ is clear not_met. omega (arith, ap code_number is))
      (λ is clear wrong. omega (arith, ap code_number is)),
)
clear_least h m before true false false other false right t = (
  unmet refl t.clear (λ met. no_true (t.meets.1 met)),
  λ code fault. fault_cases h m before code (7 ≤ code_number code) fault
      (λ is out. absurd (t.inside out))
      (λ is clear made there. absurd (no_true (t.there.1 there)))
      (λ is made had. absurd (no_true ((t.had refl).1 had)))
      (λ is clear made differs. absurd (true≢false (sym t.made ∙ made)))
      (λ is clear not_met. omega (arith, ap code_number is))
      (λ is clear wrong. omega (arith, ap code_number is)),
)
clear_least h m before true false false other true false t = (
  unasked refl t.clear t.asked,
  λ code fault. fault_cases h m before code (8 ≤ code_number code) fault
      (λ is out. absurd (t.inside out))
      (λ is clear made there. absurd (no_true (t.there.1 there)))
      (λ is made had. absurd (no_true ((t.had refl).1 had)))
      (λ is clear made differs. absurd (true≢false (sym t.made ∙ made)))
      (λ is clear not_met. absurd (not_met (t.meets.0 refl)))
      (λ is clear wrong. omega (arith, ap code_number is)),
)
clear_least h m before true false false other true true t = λ code fault. fault_cases h m before code ⊥ fault
    (λ is out. t.inside out)
    (λ is clear made there. no_true (t.there.1 there))
    (λ is made had. no_true ((t.had refl).1 had))
    (λ is clear made differs. true≢false (sym t.made ∙ made))
    (λ is clear not_met. not_met (t.meets.0 refl))
    (λ is clear wrong. true≢false (sym t.asked ∙ wrong))
clear_least h m before false used' present' true met right t = (
  replaced refl t.clear t.made (t.differs.0 refl),
  λ code fault. fault_cases h m before code (6 ≤ code_number code) fault
      (λ is out. absurd (t.inside out))
      (λ is clear made there. absurd (true≢false (sym made ∙ t.made)))
      (λ is made had. absurd (true≢false (sym made ∙ t.made)))
      (λ is clear made differs. omega (arith, ap code_number is))
      (λ is clear not_met. omega (arith, ap code_number is))
      (λ is clear wrong. omega (arith, ap code_number is)),
)
clear_least h m before false used' present' false false right t = (
  unmet refl t.clear (λ met. no_true (t.meets.1 met)),
  λ code fault. fault_cases h m before code (7 ≤ code_number code) fault
      (λ is out. absurd (t.inside out))
      (λ is clear made there. absurd (true≢false (sym made ∙ t.made)))
      (λ is made had. absurd (true≢false (sym made ∙ t.made)))
      (λ is clear made differs. absurd (no_true (t.differs.1 differs)))
      (λ is clear not_met. omega (arith, ap code_number is))
      (λ is clear wrong. omega (arith, ap code_number is)),
)
clear_least h m before false used' present' false true false t = (
  unasked refl t.clear t.asked,
  λ code fault. fault_cases h m before code (8 ≤ code_number code) fault
      (λ is out. absurd (t.inside out))
      (λ is clear made there. absurd (true≢false (sym made ∙ t.made)))
      (λ is made had. absurd (true≢false (sym made ∙ t.made)))
      (λ is clear made differs. absurd (no_true (t.differs.1 differs)))
      (λ is clear not_met. absurd (not_met (t.meets.0 refl)))
      (λ is clear wrong. omega (arith, ap code_number is)),
)
clear_least h m before false used' present' false true true t = λ code fault. fault_cases h m before code ⊥ fault
    (λ is out. t.inside out)
    (λ is clear made there. true≢false (sym made ∙ t.made))
    (λ is made had. true≢false (sym made ∙ t.made))
    (λ is clear made differs. no_true (t.differs.1 differs))
    (λ is clear not_met. not_met (t.meets.0 refl))
    (λ is clear wrong. true≢false (sym t.asked ∙ wrong))

found_cases : (h : History) (m : Making) (code : Reason) (P : Type 0) → HasFoundFault h m code
    → (code ≡ U4 → m.created ≡ true → P)
    → (code ≡ U7 → (AreMet m.event.conditions m.item.revision m.item.uid → ⊥) → P)
    → (code ≡ U8 → h.body m.number (Some m.item.tree) ≡ false → P)
    → P
found_cases h m code P (creates is made) a b c = a is made
found_cases h m code P (excludes is not_met) a b c = b is not_met
found_cases h m code P (changes is wrong) a b c = c is wrong

pub found_created : (h : History) (m : Making) → m.created ≡ true → IsLeastFoundFault h m (Some U4)
found_created h m made = (
  creates refl made,
  λ other fault. found_cases h m other (4 ≤ code_number other) fault
      (λ is made. omega (arith, ap code_number is)) (λ is not_met. omega (arith, ap code_number is)) (λ is wrong. omega (arith, ap code_number is)),
)

pub found_unmet : (h : History) (m : Making) → m.created ≡ false → (AreMet m.event.conditions m.item.revision m.item.uid → ⊥) → IsLeastFoundFault h m (Some U7)
found_unmet h m found not_met = (
  excludes refl not_met,
  λ other fault. found_cases h m other (7 ≤ code_number other) fault
      (λ is made. absurd (true≢false (sym made ∙ found))) (λ is not_met. omega (arith, ap code_number is)) (λ is wrong. omega (arith, ap code_number is)),
)

pub found_changed : (h : History) (m : Making) → m.created ≡ false → AreMet m.event.conditions m.item.revision m.item.uid
    → h.body m.number (Some m.item.tree) ≡ false → IsLeastFoundFault h m (Some U8)
found_changed h m found met wrong = (
  changes refl wrong,
  λ other fault. found_cases h m other (8 ≤ code_number other) fault
      (λ is made. absurd (true≢false (sym made ∙ found))) (λ is not_met. absurd (not_met met)) (λ is wrong. omega (arith, ap code_number is)),
)

pub found_there : (h : History) (m : Making) → m.created ≡ false → AreMet m.event.conditions m.item.revision m.item.uid
    → h.body m.number (Some m.item.tree) ≡ true → IsLeastFoundFault h m None
found_there h m found met right = λ code fault. found_cases h m code ⊥ fault
    (λ is made. true≢false (sym made ∙ found)) (λ is not_met. not_met met) (λ is wrong. true≢false (sym right ∙ wrong))
