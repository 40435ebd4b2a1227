-- The events that a log keeps, event after event.
use Rattle.std.proofs.Common.{◌≡◌, ℕ, zero, suc, ◌+◌, ◌-◌, ◌^◌, ◌<◌, ◌≤◌, List, [], ◌∷◌, ◌++◌, length, get_or, map, slice_get, Some, Result, Ok, Err, Bool, true, false, ◌||◌, refl, sym, ap, subst, ◌∙◌, inl, inr, arith, length-append, true≢false}
use Rattle.std.specs.List.{All, AllPairs, Contains, list_any}
use Rattle.std.proofs.Math.ListN.{get_or-append}
use Rattle.std.proofs.Math.Seq.{get_or-append_seam}
use Rattle.std.proofs.lemmas.Bool.{cases_lt}
use Rattle.std.proofs.lemmas.List.Elements.{All-nil, All-cons, All-push, Contains-get_or}
use Rattle.audit_event.specs.declared.event.Event.{Event}
use Rattle.audit_event.specs.declared.seen.Sighting.{Sighting}
use Rattle.audit_event.specs.declared.seen.Sighting.TheVariants.{Fresh, Repeat}
use Rattle.audit_event.specs.declared.seen.Identity.{Identity}
use Rattle.audit_event.specs.declared.fault.SeenFault.{SeenFault}
use Rattle.audit_event.specs.declared.fault.SeenFault.TheVariants.{Differs, OutOfMemory}
use Rattle.audit_event.specs.Keeping.{identity_of, AreOfOneStage, WasKept, Judges, KeepsFirst, AreKept}

pairs_push : {X : Type 0} (R : X → X → Type 0) (xs : List X) (y : X) → AllPairs R xs → All (λ x. R x y) xs → AllPairs R (xs ++ y ∷ [])
pairs_push R xs y pairs last i j d below within =
    let long = length-append xs (y ∷ []) in
    elim (cases_lt j (length xs)) [
      | inl inside ↦ (
          let first : get_or (xs ++ y ∷ []) i d ≡ get_or xs i d = get_or-append xs (y ∷ []) d i (omega arith) in
          let second : get_or (xs ++ y ∷ []) j d ≡ get_or xs j d = get_or-append xs (y ∷ []) d j inside in
          subst (λ a. R a (get_or (xs ++ y ∷ []) j d)) (sym first) (subst (λ b. R (get_or xs i d) b) (sym second) (pairs i j d below inside)))
      | inr past ↦ (
          let end : j ≡ length xs = omega arith in
          let first : get_or (xs ++ y ∷ []) i d ≡ get_or xs i d = get_or-append xs (y ∷ []) d i (omega arith) in
          let second : get_or (xs ++ y ∷ []) j d ≡ y = ap (λ n. get_or (xs ++ y ∷ []) n d) end ∙ get_or-append_seam xs y [] d in
          subst (λ a. R a (get_or (xs ++ y ∷ []) j d)) (sym first) (subst (λ b. R (get_or xs i d) b) (sym second) (last i d (omega arith))))
    ]

kept_push : (kept : List Event) (event : Event) → AreKept kept → All (λ other. other.line < event.line) kept → length kept < 2 ^ 32 - 1
    → All (λ other. ¬ AreOfOneStage other event) kept → AreKept (kept ++ event ∷ [])
kept_push kept event are later room fresh = record {
  distinct = pairs_push (λ a b. ¬ AreOfOneStage a b) kept event are.distinct fresh;
  rise = pairs_push (λ (a b : Event). a.line < b.line) kept event are.rise later;
  few = (let long = length-append kept (event ∷ []) in omega arith);
}

-- what `keep` leaves are the kept events of a log
pub kept_after : (kept : List Event) (event : Event) (answer : Result Sighting SeenFault) (after : List Event) → AreKept kept → All (λ other. other.line < event.line) kept
    → length kept < 2 ^ 32 - 1 → KeepsFirst kept event answer after → AreKept after
kept_after kept event (Ok Fresh) after are later room keeps = subst AreKept (sym keeps.1) (kept_push kept event are later room keeps.0)
kept_after kept event (Ok Repeat) after are later room keeps = subst AreKept (sym keeps.1) are
kept_after kept event (Err (Differs line)) after are later room keeps = subst AreKept (sym keeps.1) are
kept_after kept event (Err OutOfMemory) after are later room keeps = subst AreKept (sym keeps) are

left_false : (a b : Bool) → (a || b) ≡ false → a ≡ false
left_false true b is = absurd (true≢false is)
left_false false b is = refl

right_false : (a b : Bool) → (a || b) ≡ false → b ≡ false
right_false true b is = absurd (true≢false is)
right_false false b is = is

-- no kept event has an identity that isn't among theirs
pub none_of_stage : (eq : Identity → Identity → Bool) → ((x y : Identity) → x ≡ y → eq x y ≡ true)
    → (kept : List Event) (event : Event) → list_any (eq (identity_of event)) (map identity_of kept) ≡ false → All (λ other. ¬ AreOfOneStage other event) kept
none_of_stage eq tells [] event none = All-nil (λ other. ¬ AreOfOneStage other event)
none_of_stage eq tells (first ∷ rest) event none =
    let here : eq (identity_of event) (identity_of first) ≡ false = left_false (eq (identity_of event) (identity_of first)) _ none in
    All-cons (λ other. ¬ AreOfOneStage other event) first rest
    (λ same. true≢false (sym (tells (identity_of event) (identity_of first) (sym same)) ∙ here))
    (none_of_stage eq tells rest event (right_false (eq (identity_of event) (identity_of first)) _ none))

-- an identity stands where its event does
pub stands_at : (kept : List Event) (at : ℕ) (identity : Identity) → slice_get (map identity_of kept) at ≡ Some identity → (at < length kept) × ((d : Event) → identity_of (get_or kept at d) ≡ identity)
stands_at [] at identity is = absurd (cc)
stands_at (event ∷ rest) zero identity is = (omega arith, λ d. cc)
stands_at (event ∷ rest) (suc at) identity is = let later = stands_at rest at identity is in (omega arith, later.1)

-- what is judged of the event that was kept of an event's request and stage
pub judged : (kept : List Event) (event found : Event) (at : ℕ) (answer : Result Sighting SeenFault) (after : List Event)
    → at < length kept → found ≡ get_or kept at found → AreOfOneStage found event → Judges found event answer → after ≡ kept → KeepsFirst kept event answer after
judged kept event found at answer after within is one judges same = by answer judges
  where
    was : WasKept kept event found
    was = record { among = subst (λ e. Contains kept e) (sym is) (Contains-get_or kept at found within); one = one }

    by : (answer : Result Sighting SeenFault) → Judges found event answer → KeepsFirst kept event answer after
    by (Ok Fresh) judges = absurd judges
    by (Ok Repeat) judges = ((found, was, judges), same)
    by (Err (Differs line)) judges = ((found, was, judges.0, judges.1), same)
    by (Err OutOfMemory) judges = absurd judges

-- after an event whose line is below a number, all kept lines are below it where they were
pub lines_below : (number : ℕ) (kept : List Event) (event : Event) (answer : Result Sighting SeenFault) (after : List Event) → KeepsFirst kept event answer after
    → event.line < number → All (λ other. other.line < number) kept → All (λ other. other.line < number) after
lines_below number kept event (Ok Fresh) after keeps below all = subst (All (λ (other : Event). other.line < number)) (sym keeps.1) (All-push (λ (other : Event). other.line < number) kept event all below)
lines_below number kept event (Ok Repeat) after keeps below all = subst (All (λ (other : Event). other.line < number)) (sym keeps.1) all
lines_below number kept event (Err (Differs line)) after keeps below all = subst (All (λ (other : Event). other.line < number)) (sym keeps.1) all
lines_below number kept event (Err OutOfMemory) after keeps below all = subst (All (λ (other : Event). other.line < number)) (sym keeps) all

-- at most one event more is kept
pub one_more : (kept : List Event) (event : Event) (answer : Result Sighting SeenFault) (after : List Event) → KeepsFirst kept event answer after → length after ≤ length kept + 1
one_more kept event (Ok Fresh) after keeps = let long = length-append kept (event ∷ []) in let same = ap length keeps.1 in omega arith
one_more kept event (Ok Repeat) after keeps = let same = ap length keeps.1 in omega arith
one_more kept event (Err (Differs line)) after keeps = let same = ap length keeps.1 in omega arith
one_more kept event (Err OutOfMemory) after keeps = let same = ap length keeps in omega arith
