-- What is asked for objects of different keys is asked of different ranges.
use Rattle.std.proofs.Common.{◌≡◌, ◌≢◌, ℕ, suc, ◌⊎◌, List, [], ◌∷◌, AllPairs, Contains, slice_get, inl, inr, refl, sym, ap, ◌∙◌, subst, arith}
use Rattle.std.proofs.lemmas.List.Sorted.{Contains-permutation, All-permutation, IsPermutation-sym}
use Rattle.base_types.specs.Choices.{IsChoice, Meets, MeetsAll}
use Rattle.base_types.specs.declared.verdict.claim.Bound.{Bound}
use Rattle.history_model.proofs.Members.{not_in_none, here, there, in_cons, all_at, all_from, pairs_head, pairs_tail, pairs_cons}
use Rattle.history_model.specs.Bounding.{Demand, demand_key}
use Rattle.history_model.specs.Histories.{History, ranges}
use Rattle.local_bounds.specs.declared.asking.BoundDemand.{BoundDemand}
use Rattle.local_bounds.specs.declared.asking.BoundDemand.TheVariants as whole
use Rattle.local_bounds.specs.declared.asking.KeyDemand.{KeyDemand}
use Rattle.local_bounds.specs.declared.asking.KeyDemand.TheVariants.{Free, Under, Never}
use Rattle.local_bounds.specs.Asked.{IsDeciding, IsOnKey, IsAsking}
use Rattle.local_bounds.specs.Demands.{IsMetUnder, IsDemandAsking, AreAsked, bounds_in, IsPossible, IsTogether}
use Rattle.local_bounds.proofs.Strict.{strict_by}

possible_tail : (asking : KeyDemand) (askings : List KeyDemand) → IsPossible (asking ∷ askings) → IsPossible askings
possible_tail asking askings p = λ k d l. p (suc k) d (omega arith)

meets_cons : (choice : List ℕ) (bound : Bound) (bounds : List Bound) → Meets choice bound → MeetsAll choice bounds → MeetsAll choice (bound ∷ bounds)
meets_cons choice bound bounds m rest = all_from (Meets choice) (bound ∷ bounds) (λ x c. go x (in_cons bound bounds x c))
  where
    go : (x : Bound) → (bound ≡ x) ⊎ Contains bounds x → Meets choice x
    go x (inl e) = subst (Meets choice) e m
    go x (inr c) = all_at (Meets choice) bounds x rest c

module _ (h : History) (number place : ℕ) where
  abbrev AllMet : List ℕ → List Demand → Type 0
  AllMet choice demands = (d : Demand) → Contains demands d → IsMetUnder h number place choice d

  met_bounds : (choice : List ℕ) → IsChoice (ranges h) choice → (demands : List Demand) (askings : List KeyDemand) → AreAsked h number place demands askings → IsPossible askings
      → AllMet choice demands → MeetsAll choice (bounds_in askings)
  met_bounds choice chosen [] [] a p met = λ k d l. absurd (omega arith)
  met_bounds choice chosen [] (asking ∷ askings) a p met = absurd a
  met_bounds choice chosen (d ∷ demands) [] a p met = absurd a
  met_bounds choice chosen (d ∷ demands) (Free ∷ askings) a p met = met_bounds choice chosen demands askings a.1 (possible_tail Free askings p) (λ e c. met e (there d e demands c))
  met_bounds choice chosen (d ∷ demands) (Under bound ∷ askings) a p met = meets_cons choice bound (bounds_in askings)
      ((a.0.2 choice chosen).0 (met d (here d demands)))
      (met_bounds choice chosen demands askings a.1 (possible_tail (Under bound) askings p) (λ e c. met e (there d e demands c)))
  met_bounds choice chosen (d ∷ demands) (Never ∷ askings) a p met = absurd (p 0 Never (omega arith) refl)

  either_met : (choice : List ℕ) (d : Demand) (demands : List Demand) → IsMetUnder h number place choice d → AllMet choice demands → AllMet choice (d ∷ demands)
  either_met choice d demands first rest = λ e c. go e (in_cons d demands e c)
    where
      go : (e : Demand) → (d ≡ e) ⊎ Contains demands e → IsMetUnder h number place choice e
      go e (inl s) = subst (IsMetUnder h number place choice) s first
      go e (inr c) = rest e c

  bounds_met : (choice : List ℕ) → IsChoice (ranges h) choice → (demands : List Demand) (askings : List KeyDemand) → AreAsked h number place demands askings → IsPossible askings
      → MeetsAll choice (bounds_in askings) → AllMet choice demands
  bounds_met choice chosen [] [] a p m = λ e c. absurd (not_in_none c)
  bounds_met choice chosen [] (asking ∷ askings) a p m = absurd a
  bounds_met choice chosen (d ∷ demands) [] a p m = absurd a
  bounds_met choice chosen (d ∷ demands) (Free ∷ askings) a p m = either_met choice d demands (a.0 choice chosen) (bounds_met choice chosen demands askings a.1 (possible_tail Free askings p) m)
  bounds_met choice chosen (d ∷ demands) (Under bound ∷ askings) a p m = either_met choice d demands
      ((a.0.2 choice chosen).1 (all_at (Meets choice) (bound ∷ bounds_in askings) bound m (here bound (bounds_in askings))))
      (bounds_met choice chosen demands askings a.1 (possible_tail (Under bound) askings p)
      (all_from (Meets choice) (bounds_in askings) (λ x k. all_at (Meets choice) (bound ∷ bounds_in askings) x m (there bound x (bounds_in askings) k))))
  bounds_met choice chosen (d ∷ demands) (Never ∷ askings) a p m = absurd (p 0 Never (omega arith) refl)

  abbrev IsOfDemand : List Demand → Bound → Type 0
  IsOfDemand demands bound = (d : Demand) × Contains demands d × IsDeciding h bound × IsOnKey h (demand_key d) bound

  of_more : (e : Demand) (demands : List Demand) (bound : Bound) → IsOfDemand demands bound → IsOfDemand (e ∷ demands) bound
  of_more e demands bound (d, c, x, k) = (d, there e d demands c, x, k)

  of_demand : (demands : List Demand) (askings : List KeyDemand) → AreAsked h number place demands askings → (bound : Bound) → Contains (bounds_in askings) bound → IsOfDemand demands bound
  of_demand [] [] a bound c = absurd (not_in_none c)
  of_demand [] (asking ∷ askings) a bound c = absurd a
  of_demand (d ∷ demands) [] a bound c = absurd a
  of_demand (d ∷ demands) (Free ∷ askings) a bound c = of_more d demands bound (of_demand demands askings a.1 bound c)
  of_demand (d ∷ demands) (Under first ∷ askings) a bound c = go (λ k. of_demand demands askings a.1 bound k) (in_cons first (bounds_in askings) bound c)
    where
      go : (Contains (bounds_in askings) bound → IsOfDemand demands bound) → (first ≡ bound) ⊎ Contains (bounds_in askings) bound → IsOfDemand (d ∷ demands) bound
      go rest (inl e) = subst (IsOfDemand (d ∷ demands)) e (d, here d demands, a.0.0, a.0.1)
      go rest (inr k) = of_more d demands bound (rest k)
  of_demand (d ∷ demands) (Never ∷ askings) a bound c = of_more d demands bound (of_demand demands askings a.1 bound c)

  -- bounds of different keys are on different ranges
  other_range : (a b : Demand) (x y : Bound) → demand_key a ≢ demand_key b → IsOnKey h (demand_key a) x → IsDeciding h y → IsOnKey h (demand_key b) y → x.range ≢ y.range
  other_range a b x y n k d l e = n (sym (k d.removal (ap (λ i. slice_get h.removals i) e ∙ d.known)) ∙ l d.removal d.known)

  ranges_apart : (demands : List Demand) (askings : List KeyDemand) → AreAsked h number place demands askings → AllPairs (λ a b. demand_key a ≢ demand_key b) demands
      → AllPairs (λ x y. x.range ≢ y.range) (bounds_in askings)
  ranges_apart [] [] a n = λ i j d l m. absurd (omega arith)
  ranges_apart [] (asking ∷ askings) a n = absurd a
  ranges_apart (d ∷ demands) [] a n = absurd a
  ranges_apart (d ∷ demands) (Free ∷ askings) a n = ranges_apart demands askings a.1 (pairs_tail (λ a b. demand_key a ≢ demand_key b) d demands n)
  ranges_apart (d ∷ demands) (Under bound ∷ askings) a n = pairs_cons (λ x y. x.range ≢ y.range) bound (bounds_in askings)
      (all_from (λ y. bound.range ≢ y.range) (bounds_in askings) (λ y c. go y (of_demand demands askings a.1 y c)))
      (ranges_apart demands askings a.1 (pairs_tail (λ a b. demand_key a ≢ demand_key b) d demands n))
    where
      go : (y : Bound) → IsOfDemand demands y → bound.range ≢ y.range
      go y (e, c, x, k) = other_range d e bound y (all_at (λ b. demand_key d ≢ demand_key b) demands e (pairs_head (λ a b. demand_key a ≢ demand_key b) d demands n) c) a.0.1 x k
  ranges_apart (d ∷ demands) (Never ∷ askings) a n = ranges_apart demands askings a.1 (pairs_tail (λ a b. demand_key a ≢ demand_key b) d demands n)

  never_met : (demands : List Demand) (askings : List KeyDemand) → AreAsked h number place demands askings → Contains askings Never
      → (choice : List ℕ) → IsChoice (ranges h) choice → AllMet choice demands → ⊥
  never_met [] [] a c choice chosen met = absurd (not_in_none c)
  never_met [] (asking ∷ askings) a c choice chosen met = absurd a
  never_met (d ∷ demands) [] a c choice chosen met = absurd a
  never_met (d ∷ demands) (asking ∷ askings) a c choice chosen met =
      go asking a.0 (λ k. never_met demands askings a.1 k choice chosen (λ e l. met e (there d e demands l))) (in_cons asking askings Never c)
    where
      go : (asking : KeyDemand) → IsDemandAsking h number place d asking → (Contains askings Never → ⊥) → (asking ≡ Never) ⊎ Contains askings Never → ⊥
      go Free x rest (inl e) = absurd (cc e)
      go (Under bound) x rest (inl e) = absurd (cc e)
      go Never x rest (inl e) = x choice chosen (met d (here d demands))
      go other x rest (inr k) = rest k

  -- all that is asked of different keys
  pub asked_together : (demands : List Demand) (askings : List KeyDemand) (asking : BoundDemand) → AreAsked h number place demands askings → AllPairs (λ a b. demand_key a ≢ demand_key b) demands
      → IsTogether askings asking → IsAsking h (λ choice. (d : Demand) → Contains demands d → IsMetUnder h number place choice d) asking
  asked_together demands askings whole.Free a n t = λ choice chosen. bounds_met choice chosen demands askings a t.0 (subst (MeetsAll choice) (sym t.1) (λ k d l. absurd (omega arith)))
  asked_together demands askings (whole.Under bounds) a n t = (
    record {
      rising = strict_by (bounds_in askings) bounds t.1 t.2 (ranges_apart demands askings a n);
      deciding = λ bound c. deciding bound (of_demand demands askings a bound (Contains-permutation bounds (bounds_in askings) bound (IsPermutation-sym (bounds_in askings) bounds t.1) c));
    },
    λ choice chosen. (
      (λ met. All-permutation (Meets choice) (bounds_in askings) bounds t.1 (met_bounds choice chosen demands askings a t.0 met)),
      λ m. bounds_met choice chosen demands askings a t.0 (All-permutation (Meets choice) bounds (bounds_in askings) (IsPermutation-sym (bounds_in askings) bounds t.1) m),
    ),
  )
    where
      deciding : (bound : Bound) → IsOfDemand demands bound → IsDeciding h bound
      deciding bound (d, c, x, k) = x
  asked_together demands askings whole.Never a n t = λ choice chosen met. never_met demands askings a t choice chosen met
