-- The kept events, found by what they are kept under.
use Rattle.std.proofs.Common.{◌≡◌, List, [], ◌∷◌, ◌++◌, Some, None, Bool, true, false, cond, Contains, refl, sym, ap, subst, ◌∙◌, arith, true≢false}
use Rattle.std.specs.Map.{lookup}
use Rattle.std.proofs.lemmas.List.{map-append}
use Rattle.std.proofs.lemmas.List.Elements.{All-cons, All-nil, Contains-append_right, Contains-get_or}
use Rattle.audit_event.specs.declared.event.Event.{Event}
use Rattle.audit_event.specs.Keeping.{AreOfOneStage}
use Rattle.log_intake.specs.Log.{IsNew}
use Rattle.log_sift.specs.declared.recalling.EventIdentity.{EventIdentity}
use Rattle.log_sift.specs.Recalling.{entries_of, entry_of, identity_of}

pub one_identity : (a b : Event) → AreOfOneStage a b → identity_of a ≡ identity_of b
one_identity a b one = λ i. record { audit_id = (one i).audit_id; stage = (one i).stage }

pub one_stage : (a b : Event) → identity_of a ≡ identity_of b → AreOfOneStage a b
one_stage a b same = λ i. record { audit_id = (same i).audit_id; stage = (same i).stage }

-- the event is a kept one, under this identity
pub record IsFound (kept : List Event) (identity : EventIdentity) (event : Event) : Type 0 where
  pub among : Contains kept event
  pub is : identity ≡ identity_of event

pub found : (eq : EventIdentity → EventIdentity → Bool) → ((x y : EventIdentity) → eq x y ≡ true → x ≡ y)
    → (identity : EventIdentity) (event : Event) (kept : List Event) → lookup (eq identity) (entries_of kept) ≡ Some event → IsFound kept identity event
found eq means identity event [] is = absurd (cc)
found eq means identity event (other ∷ kept) is =
    go (eq identity (identity_of other)) refl is (λ rest. found eq means identity event kept rest)
  where
    go : (test : Bool) → eq identity (identity_of other) ≡ test → cond test (Some other) (lookup (eq identity) (entries_of kept)) ≡ Some event
        → (lookup (eq identity) (entries_of kept) ≡ Some event → IsFound kept identity event) → IsFound (other ∷ kept) identity event
    go true same now later =
        let here : other ≡ event = cc in record {
          among = subst (Contains (other ∷ kept)) here (Contains-get_or (other ∷ kept) 0 other (omega arith));
          is = means identity (identity_of other) same ∙ ap identity_of here;
        }
    go false same now later =
        let rest = later now in record {
          among = Contains-append_right (other ∷ []) kept event rest.among;
          is = rest.is;
        }

-- an event of whose identity none is found is new
pub absent : (eq : EventIdentity → EventIdentity → Bool) → ((x y : EventIdentity) → x ≡ y → eq x y ≡ true)
    → (event : Event) (kept : List Event) → lookup (eq (identity_of event)) (entries_of kept) ≡ None → IsNew kept event
absent eq tells event [] is = All-nil (λ other. ¬ AreOfOneStage other event)
absent eq tells event (other ∷ kept) is =
    go (eq (identity_of event) (identity_of other)) refl is (λ rest. absent eq tells event kept rest)
  where
    go : (test : Bool) → eq (identity_of event) (identity_of other) ≡ test → cond test (Some other) (lookup (eq (identity_of event)) (entries_of kept)) ≡ None
        → (lookup (eq (identity_of event)) (entries_of kept) ≡ None → IsNew kept event) → IsNew (other ∷ kept) event
    go true same now later = absurd (cc)
    go false same now later =
        All-cons (λ (o : Event). ¬ AreOfOneStage o event) other kept
        (λ one. true≢false (sym (tells (identity_of event) (identity_of other) (sym (one_identity other event one))) ∙ same))
        (later now)

-- an event more
pub entries_push : (kept : List Event) (event : Event) → entries_of (kept ++ event ∷ []) ≡ entries_of kept ++ entry_of event ∷ []
entries_push kept event = map-append entry_of kept (event ∷ [])
