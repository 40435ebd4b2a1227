-- From what is known of an object at a place to what is asked there.
use Rattle.std.proofs.Common.{◌≡◌, ℕ, ◌↔◌, Bool, true, false, List, Option, Some, None, inl, inr, refl, sym, subst, true≢false}
use Rattle.std.specs.Prelude.{IsTrue}
use Rattle.base_types.specs.Choices.{IsChoice, Meets}
use Rattle.base_types.specs.declared.verdict.claim.Bound.{Bound}
use Rattle.base_types.specs.declared.kubernetes.key.ObjectKey.{ObjectKey}
use Rattle.history_model.specs.Histories as model
use Rattle.history_model.specs.Histories.{History, ranges}
use Rattle.history_model.specs.States.{state}
use Rattle.object_past.specs.declared.version.Version.{Version}
use Rattle.object_past.specs.Modelled.{version_of}
use Rattle.local_bounds.specs.declared.asking.KeyDemand.{KeyDemand}
use Rattle.local_bounds.specs.declared.asking.KeyDemand.TheVariants.{Free, Under, Never}
use Rattle.local_bounds.specs.declared.standing.Standing.{Standing}
use Rattle.local_bounds.specs.declared.standing.Standing.TheVariants.{Absent, Present, Leaving}
use Rattle.local_bounds.specs.declared.asking.BoundDemand.{BoundDemand}
use Rattle.local_bounds.specs.declared.asking.BoundDemand.TheVariants as whole
use Rattle.local_bounds.specs.Asked.{IsKeyAsking, IsAsking, settled}
use Rattle.local_bounds.specs.Standings.{IsStanding, IsLeaving, IsEither, standing_version, ask_of, ask_either}

-- what is asked stays, where the same choices are meant
pub asks_same : (h : History) (key : ObjectKey) (P Q : List ℕ → Type 0) (asking : KeyDemand) → ((choice : List ℕ) → IsChoice (ranges h) choice → P choice ↔ Q choice)
    → IsKeyAsking h key P asking → IsKeyAsking h key Q asking
asks_same h key P Q Free same a = λ choice chosen. (same choice chosen).0 (a choice chosen)
asks_same h key P Q (Under bound) same a =
    (a.0, a.1, λ choice chosen. ((λ q. (a.2 choice chosen).0 ((same choice chosen).1 q)), (λ m. (same choice chosen).0 ((a.2 choice chosen).1 m))))
asks_same h key P Q Never same a = λ choice chosen q. a choice chosen ((same choice chosen).1 q)

pub asking_same : (h : History) (P Q : List ℕ → Type 0) (asking : BoundDemand) → ((choice : List ℕ) → IsChoice (ranges h) choice → P choice ↔ Q choice)
    → IsAsking h P asking → IsAsking h Q asking
asking_same h P Q whole.Free same a = λ choice chosen. (same choice chosen).0 (a choice chosen)
asking_same h P Q (whole.Under bounds) same a =
    (a.0, λ choice chosen. ((λ q. (a.1 choice chosen).0 ((same choice chosen).1 q)), (λ m. (same choice chosen).0 ((a.1 choice chosen).1 m))))
asking_same h P Q whole.Never same a = λ choice chosen q. a choice chosen ((same choice chosen).1 q)

no_truth : {P : Type 0} → IsTrue false ↔ P → P → ⊥
no_truth iff p = true≢false (sym (iff.1 p))

module _ (h : History) (key : ObjectKey) (place : ℕ) (Q : Option model.Version → Type 0) where
  -- the object is this one whatever is chosen
  sure : (o : Option model.Version) → ((choice : List ℕ) → IsChoice (ranges h) choice → state h choice place key ≡ o) → (b : Bool) → IsTrue b ↔ Q o
      → IsKeyAsking h key (λ choice. Q (state h choice place key)) (settled b)
  sure o is true iff = λ choice chosen. subst Q (sym (is choice chosen)) (iff.0 refl)
  sure o is false iff = λ choice chosen q. no_truth iff (subst Q (is choice chosen) q)

  module _ (v : Version) (gone there : Bound) (l : IsLeaving h key place v gone there) where
    both : Q None → Q (Some (version_of v)) → (choice : List ℕ) → IsChoice (ranges h) choice → Q (state h choice place key)
    both n s choice chosen = go (l.either choice chosen)
      where
        go : IsEither h key place choice v gone there → Q (state h choice place key)
        go (inl (e, m, x)) = subst Q (sym e) n
        go (inr (e, m, x)) = subst Q (sym e) s

    neither : (Q None → ⊥) → (Q (Some (version_of v)) → ⊥) → (choice : List ℕ) → IsChoice (ranges h) choice → Q (state h choice place key) → ⊥
    neither n s choice chosen q = go (l.either choice chosen)
      where
        go : IsEither h key place choice v gone there → ⊥
        go (inl (e, m, x)) = n (subst Q e q)
        go (inr (e, m, x)) = s (subst Q e q)

    only_gone : Q None → (Q (Some (version_of v)) → ⊥) → (choice : List ℕ) → IsChoice (ranges h) choice → Q (state h choice place key) ↔ Meets choice gone
    only_gone n s choice chosen = go (l.either choice chosen)
      where
        go : IsEither h key place choice v gone there → Q (state h choice place key) ↔ Meets choice gone
        go (inl (e, m, x)) = ((λ q. m), λ w. subst Q (sym e) n)
        go (inr (e, m, x)) = ((λ q. absurd (s (subst Q e q))), λ w. absurd (x w))

    only_there : (Q None → ⊥) → Q (Some (version_of v)) → (choice : List ℕ) → IsChoice (ranges h) choice → Q (state h choice place key) ↔ Meets choice there
    only_there n s choice chosen = go (l.either choice chosen)
      where
        go : IsEither h key place choice v gone there → Q (state h choice place key) ↔ Meets choice there
        go (inl (e, m, x)) = ((λ q. absurd (n (subst Q e q))), λ w. absurd (x w))
        go (inr (e, m, x)) = ((λ q. m), λ w. subst Q (sym e) s)

    unsure : (if_absent if_present : Bool) → IsTrue if_absent ↔ Q None → IsTrue if_present ↔ Q (Some (version_of v))
        → IsKeyAsking h key (λ choice. Q (state h choice place key)) (ask_either if_absent if_present gone there)
    unsure true true a p = both (a.0 refl) (p.0 refl)
    unsure true false a p = (l.gone_decides, l.gone_on, only_gone (a.0 refl) (no_truth p))
    unsure false true a p = (l.there_decides, l.there_on, only_there (no_truth a) (p.0 refl))
    unsure false false a p = neither (no_truth a) (no_truth p)

  pub asked_at : (standing : Standing) (if_absent if_present : Bool) → IsStanding h key place standing → IsTrue if_absent ↔ Q None
      → ((v : Version) → standing_version standing ≡ Some v → IsTrue if_present ↔ Q (Some (version_of v)))
      → IsKeyAsking h key (λ choice. Q (state h choice place key)) (ask_of standing if_absent if_present)
  asked_at Absent if_absent if_present s a p = sure None s if_absent a
  asked_at (Present version) if_absent if_present s a p = sure (Some (version_of version.now)) s if_present (p version.now refl)
  asked_at (Leaving version gone there) if_absent if_present s a p = unsure version.now gone there s if_absent if_present a (p version.now refl)
